use Rattle.std.proofs.Common.{◌≤◌, ◌∙◌, arith}
use Rattle.vt_pages.proofs.Lines.{above_inside, ancestor_code, lines_follow_places, reaches_root}
use Rattle.vt_pages.proofs.Geometry.ancestor_at.Goals as goal

pub overflow_sub-up : goal.overflow_sub-up
overflow_sub-up c = omega (arith, c.page_at-name.ensures.level, c.requires.no_finer)

pub overflow_shr-name : goal.overflow_shr-name
overflow_shr-name c = omega (arith, c.page_at-name.ensures.limits.most_levels, c.requires.level_inside)

pub overflow_shr-name-2 : goal.overflow_shr-name-2
overflow_shr-name-2 c = omega (arith, c.page_at-name.ensures.limits.most_levels, c.requires.level_inside)

pub index_at-requires : goal.index_at-requires
index_at-requires c =
    let found = c.page_at-name.ensures in
    let inside =
    above_inside c.args.self.now c.page_at-name.result c.args.level (omega (arith, found.limits.least_tile))
    found.in_chain (omega (arith, found.level, c.requires.no_finer)) c.requires.level_inside in
    record { level_inside = c.requires.level_inside; col_inside = inside.0; row_inside = inside.1 }

pub returns : goal.returns
returns c =
    let found = c.page_at-name.ensures in
    let s = c.args.self.now in
    let some : 1 ≤ c.args.self.now.tile = omega (arith, found.limits.least_tile) in
    let code = c.index_at.ensures in
    record {
      ancestor =
          code.index
          ∙ ancestor_code c.args.self.now c.args.page c.args.level c.page_at-name.result found.name c.requires.no_finer c.requires.level_inside;
      inside = code.page.inside;
      level = code.page.level;
      line = reaches_root c.args.self.now c.args.page some found.limits.least_width found.limits.least_height c.requires.page_inside;
      places = lines_follow_places c.args.self.now some;
    }

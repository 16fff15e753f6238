use Rattle.std.proofs.Common.{◌<◌, ◌≤◌, subst, sym, ap, ◌∙◌, arith}
use Rattle.vt_definitions.specs.Limits.{most_levels}
use Rattle.vt_pages.specs.Pages.{index_of, IsPage}
use Rattle.vt_pages.proofs.Counts.{columns_some}
use Rattle.vt_pages.proofs.Names.{are_inverse, name_at_is_page, index_of-name_at, name_code}
use Rattle.vt_pages.proofs.Seen.{seen}
use Rattle.vt_pages.proofs.Geometry.page_at.Goals as goal

pub overflow_sub-place : goal.overflow_sub-place
overflow_sub-place c =
    let g = seen c.self.view_is c.self.invariant in
    let found = c.level_of-level.ensures in
    rw (g.tabled.first c.level_of-level.result (omega (arith, found.inside, g.limits.most_levels))) found.from

pub nonzero_rem-result : goal.nonzero_rem-result
nonzero_rem-result c =
    let g = seen c.self.view_is c.self.invariant in
    let found = c.level_of-level.ensures in
    let e = g.tabled.columns c.level_of-level.result (omega (arith, found.inside, g.limits.most_levels)) in
    let some = columns_some c.args.self.now c.level_of-level.result (omega (arith, g.limits.least_tile)) g.limits.least_width in
    rw e (omega (arith, some))

pub nonzero_div-result : goal.nonzero_div-result
nonzero_div-result c =
    let g = seen c.self.view_is c.self.invariant in
    let found = c.level_of-level.ensures in
    let e = g.tabled.columns c.level_of-level.result (omega (arith, found.inside, g.limits.most_levels)) in
    let some = columns_some c.args.self.now c.level_of-level.result (omega (arith, g.limits.least_tile)) g.limits.least_width in
    rw e (omega (arith, some))

pub returns : goal.returns
returns c =
    let g = seen c.self.view_is c.self.invariant in
    let found = c.level_of-level.ensures in
    let inside : c.level_of-level.result < most_levels = omega (arith, found.inside, g.limits.most_levels) in
    let some : 1 ≤ c.args.self.now.tile = omega (arith, g.limits.least_tile) in
    let e =
    name_code c.args.self.now c.args.page c.level_of-level.result _ _ found.level
    (g.tabled.first c.level_of-level.result inside) (g.tabled.columns c.level_of-level.result inside) in
    record {
      name = e;
      level = found.level;
      in_chain = subst (IsPage c.args.self.now) (sym e) (name_at_is_page c.args.self.now c.args.page some g.limits.least_width c.requires);
      undone = ap (index_of c.args.self.now) e ∙ index_of-name_at c.args.self.now c.args.page some c.requires;
      inverse = are_inverse c.args.self.now some g.limits.least_width;
      limits = g.limits;
    }

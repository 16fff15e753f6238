use Rattle.std.proofs.Common.{◌/◌, ◌^◌, ◌<◌, ◌≤◌, subst, sym, ◌∙◌, arith}
use Rattle.vt_pages.specs.Pages.{columns_at, rows_at}
use Rattle.vt_pages.proofs.Counts.{columns_cover, rows_cover}
use Rattle.vt_pages.proofs.Lines.{cut_at, texel_is}
use Rattle.vt_pages.proofs.Seen.{seen}
use Rattle.vt_pages.proofs.Geometry.page_of_place.Goals as goal

pub index_at-requires : goal.index_at-requires
index_at-requires c =
    let g = seen c.self.view_is c.self.invariant in
    let s = c.args.self.now in
    let k = c.args.level in
    let some : 1 ≤ s.tile = omega (arith, g.limits.least_tile) in
    record {
      level_inside = c.requires.0;
      col_inside =
          subst (λ n. n < columns_at s k) (sym (cut_at c.args.x k c.self.inside.shift s.tile g.tile_is.power))
          (columns_cover s k (c.args.x / 2 ^ k) some c.requires.1);
      row_inside =
          subst (λ n. n < rows_at s k) (sym (cut_at c.args.y k c.self.inside.shift s.tile g.tile_is.power))
          (rows_cover s k (c.args.y / 2 ^ k) some c.requires.2);
    }

pub returns : goal.returns
returns c =
    let g = seen c.self.view_is c.self.invariant in
    let s = c.args.self.now in
    let k = c.args.level in
    record {
      page =
          c.index_at.ensures.index
          ∙ texel_is s k c.args.x c.args.y c.self.inside.shift g.tile_is.power;
      inside = c.index_at.ensures.page.inside;
    }

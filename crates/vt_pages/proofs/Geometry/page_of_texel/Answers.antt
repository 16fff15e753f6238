use Rattle.std.proofs.Common.{◌/◌, ◌<◌, ◌≤◌, subst, ◌∙◌, arith}
use Rattle.vt_pages.specs.Pages.{columns_at, rows_at}
use Rattle.vt_pages.proofs.Counts.{columns_cover, rows_cover}
use Rattle.vt_pages.proofs.Lines.{texel_shift, places_nest, lines_follow_places}
use Rattle.vt_pages.proofs.Tiles.{tiles_hold_places}
use Rattle.vt_pages.proofs.Seen.{seen}
use Rattle.vt_pages.proofs.Geometry.page_of_texel.Goals as goal

pub index_at-requires : goal.index_at-requires
index_at-requires c =
    let g = seen c.self.view_is c.self.invariant in
    let some : 1 ≤ c.args.self.now.tile = omega (arith, g.limits.least_tile) in
    record {
      level_inside = c.requires.0;
      col_inside =
          subst (λ t. c.args.x / t < columns_at c.args.self.now c.args.level) g.tile_is.power
          (columns_cover c.args.self.now c.args.level c.args.x some c.requires.1);
      row_inside =
          subst (λ t. c.args.y / t < rows_at c.args.self.now c.args.level) g.tile_is.power (rows_cover c.args.self.now c.args.level c.args.y some c.requires.2);
    }

pub returns : goal.returns
returns c =
    let g = seen c.self.view_is c.self.invariant in
    let some : 1 ≤ c.args.self.now.tile = omega (arith, g.limits.least_tile) in
    let code = c.index_at.ensures in
    record {
      page = code.index ∙ texel_shift c.args.self.now c.args.level c.args.x c.args.y c.self.inside.shift g.tile_is.power;
      inside = code.page.inside;
      level = code.page.level;
      nest = places_nest c.args.self.now some;
      places = lines_follow_places c.args.self.now some;
      tiles = tiles_hold_places c.args.self.now some;
    }

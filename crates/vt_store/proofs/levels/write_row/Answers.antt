use Rattle.std.proofs.Common.{◌≡◌, ℕ, ◌+◌, ◌-◌, ◌*◌, ◌≤◌, List, min, take, sym, ap, ◌∙◌, subst, arith}
use Rattle.std.proofs.lemmas.Result.{on_ok_weaker, on_err_weaker}
use Rattle.std.specs.Prelude.{option_map}
use Rattle.vt_definitions.specs.Depths.{texel_length}
use Rattle.vt_definitions.specs.Sides.{side}
use Rattle.vt_outside.specs.Files.{with_appended}
use Rattle.vt_pages.specs.declared.PageName.{PageName}
use Rattle.vt_pages.specs.Pages.{columns_at}
use Rattle.vt_tiles.specs.Format.{tile_length}
use Rattle.vt_store.proofs.LevelRows.{row_low, row_page, read_rows, rows_full, row_tiles}
use Rattle.vt_store.proofs.levels.write_row.Goals as goal

pub index_of-page-requires : goal.index_of-page-requires
index_of-page-requires g c = row_page c.args.geometry.now c.args.level c.args.strip c.tile.ensures.limits c.requires.level c.requires.strip

pub put_tiles-requires-clause-rows : goal.put_tiles-requires-clause-rows
put_tiles-requires-clause-rows g c = rows_full c.args.geometry.now c.index_of-page.result c.args.level c.args.strip c.depth-depth.result
    c.args.texels.now.width c.size_inside-inside.result.1 _ c.index_of-page.ensures.undone c.requires.width c.size_inside-inside.ensures.rows
    (c.rows.ensures.full ∙ ap (λ (n : ℕ). texel_length n * (c.args.texels.now.width * c.size_inside-inside.result.1)) (let e :
    c.args.texels.now.depth ≡ c.depth-depth.result = cc in e))

pub returns-clause-whole : goal.returns-clause-whole
returns-clause-whole g c =
    on_ok_weaker c.add_and_take.result
    (λ held p src has. held ∙ ap (λ (l : List ℕ). option_map (with_appended c.args.name.now l) (g.D.Folder.files c.args.folder.now))
    (row_tiles c.args.geometry.now p src c.args.level c.args.strip c.index_of-page.result c.tile_columns-columns.result c.depth-depth.result
    c.rows.result.now c.put_tiles.new.tiles c.index_of-page.ensures.index c.tile_columns-columns.ensures.value
    (c.depth-depth.ensures.value ∙ has.front.depth)
    (read_rows c.args.geometry.now p c.args.texels.now src c.index_of-page.result c.args.level c.args.strip c.rows.result.now c.tile.ensures.limits
    c.requires.level c.requires.strip c.index_of-page.ensures.undone c.requires.width c.requires.height c.requires.taken
    (c.rows.ensures.full ∙ ap (λ (n : ℕ). texel_length c.args.texels.now.depth * (c.args.texels.now.width * n)) c.size_inside-inside.ensures.rows)
    c.rows.ensures.piece has) c.put_tiles.ensures)) c.add_and_take.ensures.files

pub returns-clause-part : goal.returns-clause-part
returns-clause-part g c =
    on_err_weaker c.add_and_take.result
    (λ held p src has. (
      held.0,
      held.1
          ∙ ap (λ (l : List ℕ). option_map (with_appended c.args.name.now (take held.0 l)) (g.D.Folder.files c.args.folder.now))
          (row_tiles c.args.geometry.now p src c.args.level c.args.strip c.index_of-page.result c.tile_columns-columns.result c.depth-depth.result
          c.rows.result.now c.put_tiles.new.tiles c.index_of-page.ensures.index c.tile_columns-columns.ensures.value
          (c.depth-depth.ensures.value ∙ has.front.depth)
          (read_rows c.args.geometry.now p c.args.texels.now src c.index_of-page.result c.args.level c.args.strip c.rows.result.now c.tile.ensures.limits
          c.requires.level c.requires.strip c.index_of-page.ensures.undone c.requires.width c.requires.height c.requires.taken
          (c.rows.ensures.full ∙ ap (λ (n : ℕ). texel_length c.args.texels.now.depth * (c.args.texels.now.width * n)) c.size_inside-inside.ensures.rows)
          c.rows.ensures.piece has) c.put_tiles.ensures),
    )) c.add_and_take.ensures.part

pub returns-clause-halves : goal.returns-clause-halves
returns-clause-halves g c = c.add_and_take.ensures.halves

pub returns-clause-depth : goal.returns-clause-depth
returns-clause-depth g c = c.add_and_take.ensures.depth

pub returns-clause-width : goal.returns-clause-width
returns-clause-width g c = c.add_and_take.ensures.width

pub returns-clause-height : goal.returns-clause-height
returns-clause-height g c = c.add_and_take.ensures.height

pub returns-clause-failed : goal.returns-clause-failed
returns-clause-failed g c = c.add_and_take.ensures.failed

pub returns-clause-asked : goal.returns-clause-asked
returns-clause-asked g c = c.add_and_take.ensures.asked

pub returns-clause-faults : goal.returns-clause-faults
returns-clause-faults g c = c.add_and_take.ensures.faults

pub put_tiles-requires-clause-depth : goal.put_tiles-requires-clause-depth
put_tiles-requires-clause-depth g c = c.depth-depth.ensures.depth

pub put_tiles-requires-clause-page : goal.put_tiles-requires-clause-page
put_tiles-requires-clause-page g c = c.index_of-page.ensures.inside

pub put_tiles-requires-clause-room : goal.put_tiles-requires-clause-room
put_tiles-requires-clause-room g c =
    c.requires.room ∙ ap (λ (n : ℕ). n * tile_length c.args.geometry.now c.args.texels.now.depth)
    (sym c.tile_columns-columns.ensures.value)
    ∙ ap (λ (n : ℕ). c.tile_columns-columns.result * tile_length c.args.geometry.now n) (sym c.depth-depth.ensures.value)

pub put_tiles-requires-clause-row : goal.put_tiles-requires-clause-row
put_tiles-requires-clause-row g c =
    subst (λ (n : PageName). n.col + c.tile_columns-columns.result ≤ columns_at c.args.geometry.now n.level)
    (sym c.index_of-page.ensures.undone) (omega (arith, c.tile_columns-columns.ensures.value))

pub rows-requires-clause-inside : goal.rows-requires-clause-inside
rows-requires-clause-inside g c =
    let low = row_low c.args.geometry.now c.args.level c.args.strip (omega (arith, c.tile.ensures.limits.least_tile)) c.requires.strip in
    let inside : c.size_inside-inside.result.1 ≡ min c.args.geometry.now.tile (side c.args.geometry.now.height c.args.level
    - c.args.strip * c.args.geometry.now.tile) = c.size_inside-inside.ensures.rows
    ∙ ap (λ (n : PageName). min c.args.geometry.now.tile (side c.args.geometry.now.height n.level - n.row * c.args.geometry.now.tile))
    c.index_of-page.ensures.undone in
    omega (arith, low, inside, c.requires.taken, c.requires.height)

pub add_and_take-requires-clause-inside : goal.add_and_take-requires-clause-inside
add_and_take-requires-clause-inside g c =
    let low = row_low c.args.geometry.now c.args.level c.args.strip (omega (arith, c.tile.ensures.limits.least_tile)) c.requires.strip in
    let inside : c.size_inside-inside.result.1 ≡ min c.args.geometry.now.tile (side c.args.geometry.now.height c.args.level
    - c.args.strip * c.args.geometry.now.tile) = c.size_inside-inside.ensures.rows
    ∙ ap (λ (n : PageName). min c.args.geometry.now.tile (side c.args.geometry.now.height n.level - n.row * c.args.geometry.now.tile))
    c.index_of-page.ensures.undone in
    omega (arith, low, inside, c.requires.taken, c.requires.height)

pub returns-clause-taken : goal.returns-clause-taken
returns-clause-taken g c =
    let low = row_low c.args.geometry.now c.args.level c.args.strip (omega (arith, c.tile.ensures.limits.least_tile)) c.requires.strip in
    let inside : c.size_inside-inside.result.1 ≡ min c.args.geometry.now.tile (side c.args.geometry.now.height c.args.level
    - c.args.strip * c.args.geometry.now.tile) = c.size_inside-inside.ensures.rows
    ∙ ap (λ (n : PageName). min c.args.geometry.now.tile (side c.args.geometry.now.height n.level - n.row * c.args.geometry.now.tile))
    c.index_of-page.ensures.undone in
    let more : (c.args.strip + 1) * c.args.geometry.now.tile ≡ c.args.strip * c.args.geometry.now.tile + c.args.geometry.now.tile = omega arith in
    omega (arith, low, inside, more, c.requires.taken, c.requires.height, c.add_and_take.ensures.taken)

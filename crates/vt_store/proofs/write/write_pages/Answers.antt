use Rattle.std.proofs.Common.{◌≡◌, ℕ, ◌-◌, ◌*◌, length, refl, sym, ap, ◌∙◌, subst, arith}
use Rattle.std.proofs.lemmas.List.{length-take-le}
use Rattle.std.proofs.lemmas.Nat.{mul-le}
use Rattle.vt_outside.specs.declared.answers.OutsideError.TheVariants.{Failed}
use Rattle.vt_outside.proofs.UnknownContents.{OnErr-all}
use Rattle.vt_outside.proofs.Refusing.{none_made}
use Rattle.vt_mip.specs.Chains.{chain_texel}
use Rattle.vt_pages.specs.Pages.{columns_at, pages_of}
use Rattle.vt_store.specs.ChainStores.{AddsPages}
use Rattle.vt_tiles.specs.Format.{tile_length}
use Rattle.vt_store.proofs.AddedPages.{adds_none, adds_more, adds_part, there_bytes}
use Rattle.vt_store.proofs.LevelRows.{passed_on}
use Rattle.vt_store.proofs.TileRows.{row_room, tiles_at}
use Rattle.vt_store.proofs.WideStores.{no_less}
use Rattle.vt_store.proofs.write.write_pages.Goals as goal

pub loop-page-init : goal.loop-page-init
loop-page-init g c = record {
  inside = omega arith;
  adds = adds_none c.args.geometry.now c.args.chain.now.base.depth (chain_texel c.args.chain.now) 0 c.args.name.now
      (g.D.Folder.files c.args.folder.now);
  asked = refl;
  faults = omega arith;
}

pub returns-in_err-append-clause-part : goal.returns-in_err-append-clause-part
returns-in_err-append-clause-part g c =
    let src = chain_texel c.args.chain.now in
    let are = tiles_at c.args.geometry.now c.depth-depth.result c.args.chain.now.base.depth src c.loop-page.page
    (c.row_end-end.result - c.loop-page.page) c.tile_rows-rows.result.now c.put_tiles.new.tiles c.depth-depth.ensures.value
    c.tile_rows-rows.ensures.rows c.put_tiles.ensures in
    OnErr-all _ _ (adds_part c.args.geometry.now c.args.chain.now.base.depth src 0 c.loop-page.page c.row_end-end.result c.args.name.now
    c.put_tiles.new.tiles (g.D.Folder.files c.args.folder.now) (g.D.Folder.files c.loop-page.folder) (g.D.Folder.files c.append.new.self)
    (omega arith) (omega (arith, c.row_end-end.ensures.longer)) c.row_end-end.ensures.inside c.loop-page.invariant.adds are
    c.in_err-append.ensures.part)

pub loop-page-preserved : goal.loop-page-preserved
loop-page-preserved g c =
    let src = chain_texel c.args.chain.now in
    let are = tiles_at c.args.geometry.now c.depth-depth.result c.args.chain.now.base.depth src c.loop-page.page
    (c.row_end-end.result - c.loop-page.page) c.tile_rows-rows.result.now c.put_tiles.new.tiles c.depth-depth.ensures.value
    c.tile_rows-rows.ensures.rows c.put_tiles.ensures in
    record {
      inside = c.row_end-end.ensures.inside;
      adds = adds_more c.args.geometry.now c.args.chain.now.base.depth src 0 c.loop-page.page c.row_end-end.result c.args.name.now
          c.put_tiles.new.tiles (g.D.Folder.files c.args.folder.now) (g.D.Folder.files c.loop-page.folder) (g.D.Folder.files c.append.new.self)
          (omega arith) (omega (arith, c.row_end-end.ensures.longer)) c.loop-page.invariant.adds are c.in_ok-append.ensures.files;
      asked = c.append.ensures.asked ∙ c.loop-page.invariant.asked;
      faults = omega (arith, c.append.ensures.faults, c.loop-page.invariant.faults);
    }

pub returns-in_err-append-clause-whole : goal.returns-in_err-append-clause-whole
returns-in_err-append-clause-whole g c = none_made c.from_residual.result _ _ c.from_residual.ensures.1

pub returns-in_err-append-clause-asked : goal.returns-in_err-append-clause-asked
returns-in_err-append-clause-asked g c = c.append.ensures.asked ∙ c.loop-page.invariant.asked

pub returns-in_err-append-clause-faults : goal.returns-in_err-append-clause-faults
returns-in_err-append-clause-faults g c = no_less _ _ _ c.loop-page.invariant.faults c.append.ensures.faults

pub returns-clause-asked : goal.returns-clause-asked
returns-clause-asked g c = c.loop-page.invariant.asked

pub returns-clause-faults : goal.returns-clause-faults
returns-clause-faults g c = c.loop-page.invariant.faults

pub overflow_sub-end : goal.overflow_sub-end
overflow_sub-end g c = omega (arith, c.row_end-end.ensures.longer)

pub overflow_mul-row : goal.overflow_mul-row
overflow_mul-row g c = omega (
  arith,
  mul-le (c.row_end-end.result - c.loop-page.page) c.tile_length.result 4294967296 98304 (omega (arith, c.row_end-end.type_inv))
      c.tile_length.ensures.few,
)

pub slice_bounds-row-end : goal.slice_bounds-row-end
slice_bounds-row-end g c = row_room (c.row_end-end.result - c.loop-page.page) (columns_at c.args.geometry.now 0) c.tile_length.result
    (length c.loop-page.tiles) c.row_end-end.ensures.short
    (c.loop-page.auto.tiles ∙ c.requires.room ∙ ap (λ (n : ℕ). columns_at c.args.geometry.now 0 * n)
    (ap (tile_length c.args.geometry.now) (sym c.depth-depth.ensures.value) ∙ sym c.tile_length.ensures.value))

pub slice_bounds-row-end-in-loop-page : goal.slice_bounds-row-end-in-loop-page
slice_bounds-row-end-in-loop-page g c = sym (length-take-le _ c.loop-page.tiles
    (row_room (c.row_end-end.result - c.loop-page.page) (columns_at c.args.geometry.now 0) c.tile_length.result
    (length c.loop-page.tiles) c.row_end-end.ensures.short
    (c.loop-page.auto.tiles ∙ c.requires.room ∙ ap (λ (n : ℕ). columns_at c.args.geometry.now 0 * n)
    (ap (tile_length c.args.geometry.now) (sym c.depth-depth.ensures.value) ∙ sym c.tile_length.ensures.value))))

pub put_tiles-requires-clause-room : goal.put_tiles-requires-clause-room
put_tiles-requires-clause-room g c = length-take-le _ c.loop-page.tiles
    (row_room (c.row_end-end.result - c.loop-page.page) (columns_at c.args.geometry.now 0) c.tile_length.result
    (length c.loop-page.tiles) c.row_end-end.ensures.short
    (c.loop-page.auto.tiles ∙ c.requires.room ∙ ap (λ (n : ℕ). columns_at c.args.geometry.now 0 * n)
    (ap (tile_length c.args.geometry.now) (sym c.depth-depth.ensures.value) ∙ sym c.tile_length.ensures.value)))
    ∙ ap (λ (n : ℕ). (c.row_end-end.result - c.loop-page.page) * n) c.tile_length.ensures.value

pub put_tiles-requires-clause-row : goal.put_tiles-requires-clause-row
put_tiles-requires-clause-row g c = c.row_end-end.ensures.row

pub put_tiles-requires-clause-depth : goal.put_tiles-requires-clause-depth
put_tiles-requires-clause-depth g c = c.depth-depth.ensures.depth

pub tile_rows-rows-requires-clause-shape : goal.tile_rows-rows-requires-clause-shape
tile_rows-rows-requires-clause-shape g c = c.requires.shape

pub returns-in_err-append-clause-failed : goal.returns-in_err-append-clause-failed
returns-in_err-append-clause-failed g c = λ failed before done e.
    let there = there_bytes c.args.name.now _ before (g.D.Folder.files c.loop-page.folder) (c.loop-page.invariant.adds.held before done e) in
    let rose = c.append.ensures.failed (passed_on c.append.result c.from_residual.result _ Failed c.in_err-append.was c.from_residual.ensures.1 failed)
    there in
    omega (arith, rose, c.loop-page.invariant.faults)

pub returns-clause-whole : goal.returns-clause-whole
returns-clause-whole g c =
    let all : c.loop-page.page ≡ pages_of c.args.geometry.now =
    omega (arith, c.loop-page-test.false, c.page_count.ensures.pages, c.loop-page.invariant.inside) in
    subst (λ (n : ℕ). AddsPages c.args.geometry.now c.args.chain.now.base.depth (chain_texel c.args.chain.now) 0 n c.args.name.now
    (g.D.Folder.files c.args.folder.now) (g.D.Folder.files c.loop-page.folder)) all c.loop-page.invariant.adds

pub returns-clause-part : goal.returns-clause-part
returns-clause-part g c = tt

pub returns-clause-failed : goal.returns-clause-failed
returns-clause-failed g c = λ failed. let no : ⊥ = cc in absurd no

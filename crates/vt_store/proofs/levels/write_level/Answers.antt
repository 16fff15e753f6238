use Rattle.std.proofs.Common.{◌≡◌, ℕ, ◌+◌, ◌*◌, ◌<◌, inl, inr, length, min, refl, sym, ap, ◌∙◌, arith}
use Rattle.std.proofs.lemmas.List.{length-take-le}
use Rattle.vt_outside.proofs.UnknownContents.{OnErr-all}
use Rattle.vt_outside.specs.declared.answers.OutsideError.TheVariants.{Failed}
use Rattle.vt_outside.proofs.Refusing.{none_made, no_value, no_fewer}
use Rattle.vt_pages.specs.Pages.{pages_below, columns_at, rows_at}
use Rattle.vt_tiles.specs.Format.{tile_length}
use Rattle.vt_store.proofs.LevelRows.{shorter_row, rows_are_at, row_low, rows_taken, level_begun, level_more, level_part, level_whole, there_added, passed_on}
use Rattle.vt_store.proofs.WideStores.{no_less}
use Rattle.vt_store.proofs.levels.write_level.Goals as goal

pub slice_bounds-row-end : goal.slice_bounds-row-end
slice_bounds-row-end g c =
    (shorter_row c.args.geometry.now c.args.level c.tile_columns-columns.result c.tile_length.result (length c.args.tiles.now) c.tile-side.ensures.limits
    c.tile_columns-columns.ensures.value (c.requires.room ∙ ap (λ (n : ℕ). columns_at c.args.geometry.now 0 * n)
    (ap (tile_length c.args.geometry.now) (sym c.depth-depth.ensures.value) ∙ sym c.tile_length.ensures.value)))

pub slice_bounds-row-end-2 : goal.slice_bounds-row-end-2
slice_bounds-row-end-2 g c =
    sym (length-take-le _ c.args.tiles.now (shorter_row c.args.geometry.now c.args.level c.tile_columns-columns.result c.tile_length.result (length
    c.args.tiles.now) c.tile-side.ensures.limits
    c.tile_columns-columns.ensures.value (c.requires.room ∙ ap (λ (n : ℕ). columns_at c.args.geometry.now 0 * n)
    (ap (tile_length c.args.geometry.now) (sym c.depth-depth.ensures.value) ∙ sym c.tile_length.ensures.value))))

pub loop-strip-init : goal.loop-strip-init
loop-strip-init g c = record {
  adds = λ src has. level_begun c.args.geometry.now c.args.image.depth src c.args.level c.args.name.now (g.D.Folder.files c.args.folder.now);
  depth = c.in_ok-texels.ensures.depth;
  width = c.in_ok-texels.ensures.width;
  height = c.in_ok-texels.ensures.height;
  taken = omega (arith, c.in_ok-texels.ensures.none);
  front = c.in_ok-texels.ensures.begun;
  asked = refl;
  faults = omega arith;
}

pub loop-strip-preserved : goal.loop-strip-preserved
loop-strip-preserved g c =
    let i = c.loop-strip.invariant in
    record {
      adds = λ src has. level_more c.args.geometry.now c.args.image.depth src c.args.level c.loop-strip.strip c.args.name.now (g.D.Folder.files
          c.args.folder.now)
          (g.D.Folder.files c.loop-strip.folder)
          (g.D.Folder.files c.write_row.new.folder) (i.adds src has) (c.in_ok-write_row.ensures.whole c.args.image src
          (record { texels = has; front = c.loop-strip.invariant.front; lawful = c.depth-depth.ensures.limits; bytes = c.samples_are_bytes.ensures }));
      depth = c.write_row.ensures.depth ∙ i.depth;
      width = c.write_row.ensures.width ∙ i.width;
      height = c.write_row.ensures.height ∙ i.height;
      taken = c.write_row.ensures.taken ∙ ap (λ (n : ℕ). min ((c.loop-strip.strip + 1) * c.args.geometry.now.tile) n) i.height;
      front = c.write_row.ensures.halves c.args.image i.front;
      asked = c.write_row.ensures.asked ∙ i.asked;
      faults = omega (arith, c.write_row.ensures.faults, i.faults);
    }

pub write_row-requires-clause-strip : goal.write_row-requires-clause-strip
write_row-requires-clause-strip g c κs within =
    let rows = rows_are_at c.args.geometry.now c.args.level c.height-height.result c.tile-side.result
    (c.height-height.ensures.value ∙ c.requires.height) c.tile-side.ensures.tile in
    omega (arith, rows)

pub write_row-requires-clause-room : goal.write_row-requires-clause-room
write_row-requires-clause-room g c κs within =
    c.loop-strip.auto.row ∙ length-take-le _ c.args.tiles.now (shorter_row c.args.geometry.now c.args.level c.tile_columns-columns.result
    c.tile_length.result (length c.args.tiles.now) c.tile-side.ensures.limits
    c.tile_columns-columns.ensures.value (c.requires.room ∙ ap (λ (n : ℕ). columns_at c.args.geometry.now 0 * n)
    (ap (tile_length c.args.geometry.now) (sym c.depth-depth.ensures.value) ∙ sym c.tile_length.ensures.value)))
    ∙ ap (λ (n : ℕ). n * c.tile_length.result) c.tile_columns-columns.ensures.value
    ∙ ap (λ (n : ℕ). columns_at c.args.geometry.now c.args.level * n)
    (c.tile_length.ensures.value ∙ ap (tile_length c.args.geometry.now) (c.depth-depth.ensures.value ∙ sym c.loop-strip.invariant.depth))

pub write_row-requires-clause-width : goal.write_row-requires-clause-width
write_row-requires-clause-width g c κs within = c.loop-strip.invariant.width ∙ c.requires.width

pub write_row-requires-clause-height : goal.write_row-requires-clause-height
write_row-requires-clause-height g c κs within = c.loop-strip.invariant.height ∙ c.requires.height

pub write_row-requires-clause-taken : goal.write_row-requires-clause-taken
write_row-requires-clause-taken g c κs within =
    let rows = rows_are_at c.args.geometry.now c.args.level c.height-height.result c.tile-side.result
    (c.height-height.ensures.value ∙ c.requires.height) c.tile-side.ensures.tile in
    let low = row_low c.args.geometry.now c.args.level c.loop-strip.strip (omega (arith, c.tile-side.ensures.limits.least_tile)) (omega (arith, rows)) in
    omega (arith, low, c.loop-strip.invariant.taken, c.requires.height)

pub returns-in_err-texels-clause-part : goal.returns-in_err-texels-clause-part
returns-in_err-texels-clause-part g c = OnErr-all _ _ (inl refl)

pub returns-in_err-write_row-clause-part : goal.returns-in_err-write_row-clause-part
returns-in_err-write_row-clause-part g c =
    let rows = rows_are_at c.args.geometry.now c.args.level c.height-height.result c.tile-side.result
    (c.height-height.ensures.value ∙ c.requires.height) c.tile-side.ensures.tile in
    OnErr-all _ _ (inr (λ src has. level_part c.args.geometry.now c.args.image.depth src c.args.level c.loop-strip.strip c.args.name.now
    (g.D.Folder.files c.args.folder.now)
    (g.D.Folder.files c.loop-strip.folder)
    (g.D.Folder.files c.write_row.new.folder) c.requires.level (let low : c.loop-strip.strip < rows_at c.args.geometry.now
    c.args.level = omega (arith, rows) in low)
    (c.loop-strip.invariant.adds src has) (c.in_err-write_row.ensures.part c.args.image src
    (record { texels = has; front = c.loop-strip.invariant.front; lawful = c.depth-depth.ensures.limits; bytes = c.samples_are_bytes.ensures }))))

pub returns-in_err-write_row-clause-failed : goal.returns-in_err-write_row-clause-failed
returns-in_err-write_row-clause-failed g c = λ failed before done e.
    let there = there_added c.args.geometry.now c.args.image.depth c.args.level
    (pages_below c.args.geometry.now c.args.level + c.loop-strip.strip * columns_at c.args.geometry.now c.args.level) c.args.image c.args.name.now done before
    (g.D.Folder.files c.args.folder.now) (g.D.Folder.files c.loop-strip.folder) c.loop-strip.invariant.adds e in
    let rose = c.write_row.ensures.failed (passed_on c.write_row.result c.from_residual-in_err-write_row.result _ Failed c.in_err-write_row.was
    c.from_residual-in_err-write_row.ensures.1 failed) there in
    omega (arith, rose, c.loop-strip.invariant.faults)

pub finish-requires : goal.finish-requires
finish-requires g c =
    let rows = rows_are_at c.args.geometry.now c.args.level c.height-height.result c.tile-side.result
    (c.height-height.ensures.value ∙ c.requires.height) c.tile-side.ensures.tile in
    rows_taken c.args.geometry.now c.args.level c.loop-strip.strip c.args.image.height c.loop-strip.texels.taken
    (omega (arith, c.tile-side.ensures.limits.least_tile)) c.requires.height (let all : c.loop-strip.strip ≡ rows_at c.args.geometry.now
    c.args.level = omega (arith, rows) in all)
    c.loop-strip.invariant.taken ∙ sym c.loop-strip.invariant.height

pub returns-clause-whole : goal.returns-clause-whole
returns-clause-whole g c = λ src has.
    let rows = rows_are_at c.args.geometry.now c.args.level c.height-height.result c.tile-side.result
    (c.height-height.ensures.value ∙ c.requires.height) c.tile-side.ensures.tile in
    level_whole c.args.geometry.now c.args.image.depth src c.args.level c.loop-strip.strip c.args.name.now (g.D.Folder.files c.args.folder.now)
    (g.D.Folder.files c.loop-strip.folder)
    (let all : c.loop-strip.strip ≡ rows_at c.args.geometry.now c.args.level = omega (arith, rows) in all) (c.loop-strip.invariant.adds src has)

pub returns-clause-half : goal.returns-clause-half
returns-clause-half g c = c.finish.ensures.half c.args.image c.loop-strip.invariant.front

pub returns-in_err-texels-clause-whole : goal.returns-in_err-texels-clause-whole
returns-in_err-texels-clause-whole g c = none_made c.from_residual.result _ _ c.from_residual.ensures.1

pub returns-in_err-texels-clause-half : goal.returns-in_err-texels-clause-half
returns-in_err-texels-clause-half g c = no_value c.from_residual.result _ _ c.from_residual.ensures.1

pub returns-in_err-texels-clause-lawful : goal.returns-in_err-texels-clause-lawful
returns-in_err-texels-clause-lawful g c = no_value c.from_residual.result _ _ c.from_residual.ensures.1

pub returns-in_err-texels-clause-asked : goal.returns-in_err-texels-clause-asked
returns-in_err-texels-clause-asked g c = refl

pub returns-in_err-texels-clause-faults : goal.returns-in_err-texels-clause-faults
returns-in_err-texels-clause-faults g c = no_fewer _ _ refl

pub returns-in_err-write_row-clause-whole : goal.returns-in_err-write_row-clause-whole
returns-in_err-write_row-clause-whole g c = none_made c.from_residual-in_err-write_row.result _ _ c.from_residual-in_err-write_row.ensures.1

pub returns-in_err-write_row-clause-half : goal.returns-in_err-write_row-clause-half
returns-in_err-write_row-clause-half g c = no_value c.from_residual-in_err-write_row.result _ _ c.from_residual-in_err-write_row.ensures.1

pub returns-in_err-write_row-clause-lawful : goal.returns-in_err-write_row-clause-lawful
returns-in_err-write_row-clause-lawful g c = no_value c.from_residual-in_err-write_row.result _ _ c.from_residual-in_err-write_row.ensures.1

pub returns-in_err-write_row-clause-asked : goal.returns-in_err-write_row-clause-asked
returns-in_err-write_row-clause-asked g c = c.write_row.ensures.asked ∙ c.loop-strip.invariant.asked

pub returns-in_err-write_row-clause-faults : goal.returns-in_err-write_row-clause-faults
returns-in_err-write_row-clause-faults g c = no_less _ _ _ c.loop-strip.invariant.faults c.write_row.ensures.faults

pub returns-in_err-texels-clause-bytes : goal.returns-in_err-texels-clause-bytes
returns-in_err-texels-clause-bytes g c = c.samples_are_bytes.ensures

pub returns-in_err-write_row-clause-bytes : goal.returns-in_err-write_row-clause-bytes
returns-in_err-write_row-clause-bytes g c = c.samples_are_bytes.ensures

pub returns-clause-bytes : goal.returns-clause-bytes
returns-clause-bytes g c = c.samples_are_bytes.ensures

pub returns-clause-asked : goal.returns-clause-asked
returns-clause-asked g c = c.loop-strip.invariant.asked

pub returns-clause-faults : goal.returns-clause-faults
returns-clause-faults g c = c.loop-strip.invariant.faults

pub returns-clause-lawful : goal.returns-clause-lawful
returns-clause-lawful g c = c.finish.ensures.lawful

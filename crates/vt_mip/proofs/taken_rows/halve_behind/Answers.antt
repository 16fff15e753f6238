use Rattle.std.proofs.Common.{ℕ, ◌+◌, ◌*◌, ◌/◌, ◌≤◌, ◌≡◌, ◌%◌, length, ap, ◌∙◌, sym, refl, arith}
use Rattle.vt_ppm.specs.Depths.{texel_length}
use Rattle.vt_mip.proofs.Rasters.{raster_small, row_small}
use Rattle.vt_mip.proofs.TakenRows.{half_room, rows_taken}
use Rattle.vt_mip.proofs.taken_rows.halve_behind.Goals as goal

-- the rows that are made end in the room for the half
half_end : (w h taken count d z space : ℕ) → taken + count ≤ h → taken % 2 ≡ 0 → space ≡ texel_length d * ((w + 1) / 2 * ((h + 1) / 2))
    → z ≡ texel_length d → z * ((w + 1) / 2) * (taken / 2) + z * ((w + 1) / 2) * ((count + 1) / 2) ≤ space
half_end w h taken count d z space inside even room e =
    half_room (z * ((w + 1) / 2)) taken count h space inside even
    (room ∙ ap (λ (q : ℕ). q * ((w + 1) / 2 * ((h + 1) / 2))) (sym e) ∙ omega arith)

pub slice_bounds-halve_in_threads-end : goal.slice_bounds-halve_in_threads-end
slice_bounds-halve_in_threads-end g c =
    let w : ℕ = c.args.width in
    let z : ℕ = c.texel_length.result in
    let room : z * ((w + 1) / 2) * (c.args.taken / 2) + z * ((w + 1) / 2) * ((c.args.count + 1) / 2) ≤ length c.args.samples.now =
    (let end = half_end w (c.args.taken + c.args.count) c.args.taken c.args.count c.args.depth z _ (omega arith) c.requires.even refl
    c.texel_length.ensures.value in omega (arith, end, c.requires.room)) in
    omega (arith, room)

pub returns : goal.returns
returns g c = λ source piece before.
    let w : ℕ = c.args.width in
    let z : ℕ = c.texel_length.result in
    let room : z * ((w + 1) / 2) * (c.args.taken / 2) + z * ((w + 1) / 2) * ((c.args.count + 1) / 2) ≤ length c.args.samples.now =
    (let end = half_end w (c.args.taken + c.args.count) c.args.taken c.args.count c.args.depth z _ (omega arith) c.requires.even refl
    c.texel_length.ensures.value in omega (arith, end, c.requires.room)) in
    rows_taken c.args.depth w c.args.height c.args.taken c.args.count z _ _ source c.args.rows.now c.args.samples.now c.halve_in_threads.new.out
    c.requires.some_columns c.requires.some c.requires.inside c.requires.even c.requires.pairs c.requires.whole c.texel_length.ensures.value
    refl (omega (arith, room)) (omega arith) c.halve_in_threads.ensures piece before

pub halve_in_threads-requires-clause-depth : goal.halve_in_threads-requires-clause-depth
halve_in_threads-requires-clause-depth g c κs within = c.requires.depth

pub halve_in_threads-requires-clause-few_columns : goal.halve_in_threads-requires-clause-few_columns
halve_in_threads-requires-clause-few_columns g c κs within = c.requires.few_columns

pub halve_in_threads-requires-clause-some_columns : goal.halve_in_threads-requires-clause-some_columns
halve_in_threads-requires-clause-some_columns g c κs within = c.requires.some_columns

pub halve_in_threads-requires-clause-some_rows : goal.halve_in_threads-requires-clause-some_rows
halve_in_threads-requires-clause-some_rows g c κs within = c.requires.some

pub halve_in_threads-requires-clause-few_rows : goal.halve_in_threads-requires-clause-few_rows
halve_in_threads-requires-clause-few_rows g c κs within = omega (arith, c.requires.inside, c.requires.few_rows)

pub halve_in_threads-requires-clause-source : goal.halve_in_threads-requires-clause-source
halve_in_threads-requires-clause-source g c κs within = c.requires.whole

pub overflow_mul-half_row : goal.overflow_mul-half_row
overflow_mul-half_row g c = omega (arith, row_small c.texel_length.result ((c.args.width + 1) / 2) c.texel_length.ensures.few (omega arith))

pub overflow_mul-from : goal.overflow_mul-from
overflow_mul-from g c = omega (
  arith,
  half_end c.args.width (c.args.taken + c.args.count) c.args.taken c.args.count c.args.depth c.texel_length.result _
      (omega arith) c.requires.even refl c.texel_length.ensures.value,
  raster_small c.args.depth ((c.args.width + 1) / 2) ((c.args.taken + c.args.count + 1) / 2) _ c.requires.depth (omega arith)
      (omega (arith, c.requires.inside, c.requires.few_rows)) refl,
)

pub overflow_add-from : goal.overflow_add-from
overflow_add-from g c = omega (
  arith,
  half_end c.args.width (c.args.taken + c.args.count) c.args.taken c.args.count c.args.depth c.texel_length.result _
      (omega arith) c.requires.even refl c.texel_length.ensures.value,
  raster_small c.args.depth ((c.args.width + 1) / 2) ((c.args.taken + c.args.count + 1) / 2) _ c.requires.depth (omega arith)
      (omega (arith, c.requires.inside, c.requires.few_rows)) refl,
)

pub overflow_mul-made : goal.overflow_mul-made
overflow_mul-made g c = omega (
  arith,
  half_end c.args.width (c.args.taken + c.args.count) c.args.taken c.args.count c.args.depth c.texel_length.result _
      (omega arith) c.requires.even refl c.texel_length.ensures.value,
  raster_small c.args.depth ((c.args.width + 1) / 2) ((c.args.taken + c.args.count + 1) / 2) _ c.requires.depth (omega arith)
      (omega (arith, c.requires.inside, c.requires.few_rows)) refl,
)

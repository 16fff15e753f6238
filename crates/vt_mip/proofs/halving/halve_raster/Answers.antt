use Rattle.std.proofs.Common.{◌≡◌, ℕ, ◌+◌, ◌-◌, ◌*◌, ◌/◌, ◌≤◌, length, min, ap, ◌∙◌, arith}
use Rattle.vt_mip.proofs.Rasters.{next_row, raster_small, row_small, texel_row_room}
use Rattle.vt_mip.proofs.halving.halve_raster.Goals as goal

pub slice_bounds-halve_rows-end : goal.slice_bounds-halve_rows-end
slice_bounds-halve_rows-end c = omega (
  arith,
  texel_row_room c.args.depth c.args.width c.args.height (2 * c.loop-y.y) c.texel_length.result (length c.args.source.now)
      c.texel_length.ensures.value c.requires.source (omega arith),
)

pub slice_bounds-halve_rows-end-in-loop-y : goal.slice_bounds-halve_rows-end-in-loop-y
slice_bounds-halve_rows-end-in-loop-y c = omega (
  arith,
  texel_row_room c.args.depth c.args.width c.args.height c.min.result c.texel_length.result (length c.args.source.now)
      c.texel_length.ensures.value c.requires.source (omega (arith, c.min.ensures)),
)

pub slice_bounds-halve_rows-end-in-loop-y-2 : goal.slice_bounds-halve_rows-end-in-loop-y-2
slice_bounds-halve_rows-end-in-loop-y-2 c = omega (
  arith,
  texel_row_room c.args.depth ((c.args.width + 1) / 2) ((c.args.height + 1) / 2) c.loop-y.y c.texel_length-2.result
      (length c.args.out.now) c.texel_length-2.ensures.value c.requires.out (omega arith),
)

pub loop-y-preserved : goal.loop-y-preserved
loop-y-preserved c =
    let d = c.args.depth in
    let w = c.args.width in
    let h = c.args.height in
    let half = (c.args.width + 1) / 2 in
    let y = c.loop-y.y in
    let b = c.min.result in
    let r = c.texel_length.result in
    let s = c.texel_length-2.result in
    let e : r ≡ 3 * d = c.texel_length.ensures.value in
    let f : s ≡ 3 * d = c.texel_length-2.ensures.value in
    let room : s * half * y + s * half ≤ length c.args.out.now =
    texel_row_room d half ((h + 1) / 2) y s (length c.args.out.now) f c.requires.out (omega arith) in
    let top : r * w * (2 * y) ≡ d * (3 * w * (2 * y)) = ap (λ (q : ℕ). q * w * (2 * y)) e ∙ omega arith in
    let bottom : r * w * b ≡ d * (3 * w * min (2 * y + 1) (h - 1)) =
    ap (λ (q : ℕ). q * w * b) e ∙ ap (λ (q : ℕ). 3 * d * w * q) c.min.ensures ∙ omega arith in
    let place : s * half * y ≡ d * (3 * half * y) = ap (λ (q : ℕ). q * half * y) f ∙ omega arith in
    let row : r * w ≡ d * (3 * w) = ap (λ (q : ℕ). q * w) e ∙ omega arith in
    next_row d c.args.source.now c.loop-y.out c.halve_rows.new.out w h y (r * w * (2 * y)) (r * w * b)
    (r * w * (2 * y) + r * w - r * w * (2 * y)) (r * w * b + r * w - r * w * b) (s * half * y) _ c.requires.some_columns
    c.requires.some_rows (omega arith) top bottom (omega (arith, row)) (omega (arith, row)) place (omega (arith, room))
    (let k : length c.halve_rows.new.out ≡ s * half = omega arith in k ∙ ap (λ (q : ℕ). q * half) f ∙ omega arith)
    c.loop-y.invariant c.halve_rows.ensures.row

pub overflow_mul-row : goal.overflow_mul-row
overflow_mul-row c = omega (arith, row_small c.texel_length.result c.args.width c.texel_length.ensures.few c.requires.few_columns)

pub overflow_mul-half_row : goal.overflow_mul-half_row
overflow_mul-half_row c = omega (arith, row_small c.texel_length-2.result ((c.args.width + 1) / 2) c.texel_length-2.ensures.few (omega arith))

pub overflow_mul-top-in-loop-y : goal.overflow_mul-top-in-loop-y
overflow_mul-top-in-loop-y c = omega (
  arith,
  texel_row_room c.args.depth c.args.width c.args.height (2 * c.loop-y.y) c.texel_length.result (length c.args.source.now)
      c.texel_length.ensures.value c.requires.source (omega arith),
  raster_small c.args.depth c.args.width c.args.height _ c.requires.depth c.requires.few_columns c.requires.few_rows c.requires.source,
)

pub overflow_add-top : goal.overflow_add-top
overflow_add-top c = omega (
  arith,
  texel_row_room c.args.depth c.args.width c.args.height (2 * c.loop-y.y) c.texel_length.result (length c.args.source.now)
      c.texel_length.ensures.value c.requires.source (omega arith),
  raster_small c.args.depth c.args.width c.args.height _ c.requires.depth c.requires.few_columns c.requires.few_rows c.requires.source,
)

pub overflow_mul-bottom : goal.overflow_mul-bottom
overflow_mul-bottom c = omega (
  arith,
  texel_row_room c.args.depth c.args.width c.args.height c.min.result c.texel_length.result (length c.args.source.now)
      c.texel_length.ensures.value c.requires.source (omega (arith, c.min.ensures)),
  raster_small c.args.depth c.args.width c.args.height _ c.requires.depth c.requires.few_columns c.requires.few_rows c.requires.source,
)

pub overflow_add-bottom : goal.overflow_add-bottom
overflow_add-bottom c = omega (
  arith,
  texel_row_room c.args.depth c.args.width c.args.height c.min.result c.texel_length.result (length c.args.source.now)
      c.texel_length.ensures.value c.requires.source (omega (arith, c.min.ensures)),
  raster_small c.args.depth c.args.width c.args.height _ c.requires.depth c.requires.few_columns c.requires.few_rows c.requires.source,
)

pub overflow_mul-to : goal.overflow_mul-to
overflow_mul-to c = omega (
  arith,
  texel_row_room c.args.depth ((c.args.width + 1) / 2) ((c.args.height + 1) / 2) c.loop-y.y c.texel_length-2.result (length c.args.out.now)
      c.texel_length-2.ensures.value c.requires.out (omega arith),
  raster_small c.args.depth ((c.args.width + 1) / 2) ((c.args.height + 1) / 2) _ c.requires.depth (omega arith) (omega arith) c.requires.out,
)

pub overflow_add-to : goal.overflow_add-to
overflow_add-to c = omega (
  arith,
  texel_row_room c.args.depth ((c.args.width + 1) / 2) ((c.args.height + 1) / 2) c.loop-y.y c.texel_length-2.result (length c.args.out.now)
      c.texel_length-2.ensures.value c.requires.out (omega arith),
  raster_small c.args.depth ((c.args.width + 1) / 2) ((c.args.height + 1) / 2) _ c.requires.depth (omega arith) (omega arith) c.requires.out,
)

pub halve_rows-requires-clause-depth : goal.halve_rows-requires-clause-depth
halve_rows-requires-clause-depth c = c.requires.depth

pub halve_rows-requires-clause-top : goal.halve_rows-requires-clause-top
halve_rows-requires-clause-top c = omega (arith, ap (λ (q : ℕ). q * c.args.width) c.texel_length.ensures.value)

pub halve_rows-requires-clause-bottom : goal.halve_rows-requires-clause-bottom
halve_rows-requires-clause-bottom c = omega (arith, ap (λ (q : ℕ). q * c.args.width) c.texel_length.ensures.value)

pub halve_rows-requires-clause-out : goal.halve_rows-requires-clause-out
halve_rows-requires-clause-out c = omega (arith, ap (λ (q : ℕ). q * ((c.args.width + 1) / 2)) c.texel_length-2.ensures.value)

use Rattle.std.proofs.Common.{◌≡◌, ℕ, ◌+◌, ◌-◌, ◌*◌, ◌/◌, ◌<◌, ◌≤◌, length, take, drop, min, sym, ap, ◌∙◌, subst, arith}
use Rattle.std.proofs.lemmas.Nat.{mul-le}
use Rattle.std.proofs.Math.Nat.{mul-le-mul_left}
use Rattle.vt_box_filter.specs.HalvedRows.{IsHalvedRow}
use Rattle.vt_mip.proofs.Rasters.{raster_small, row_small, texel_row_room}
use Rattle.vt_mip.proofs.InPlace.{next_pair}
use Rattle.vt_mip.proofs.shrinking.halve_pair.Goals as goal

-- a row of the half lies in the memory of the whole
half_inside : (d w h n s space : ℕ) → 1 ≤ w → n < (h + 1) / 2 → s ≡ 3 * d → space ≡ 3 * d * (w * h)
    → s * ((w + 1) / 2) * n + s * ((w + 1) / 2) ≤ space
half_inside d w h n s space wide inside f whole =
    let v : ℕ = (w + 1) / 2 in
    let place : s * v * n ≡ d * (3 * v * n) = ap (λ (q : ℕ). q * v * n) f ∙ omega arith in
    let half : s * v ≡ d * (3 * v) = ap (λ (q : ℕ). q * v) f ∙ omega arith in
    let more : v * (n + 1) ≤ w * h = mul-le v (n + 1) w h (omega (arith, wide)) (omega (arith, inside)) in
    let all : 3 * d * (v * (n + 1)) ≤ 3 * d * (w * h) = mul-le-mul_left (3 * d) more in
    omega (arith, all, place, half, whole)

pub slice_bounds-halve_rows-end : goal.slice_bounds-halve_rows-end
slice_bounds-halve_rows-end c = omega (
  arith,
  texel_row_room c.args.sizes.depth c.args.sizes.width c.args.sizes.height (2 * c.args.pair) c.texel_length.result (length c.args.samples.now)
      c.texel_length.ensures.value c.requires.room.whole (omega (arith, c.requires.inside)),
)

pub slice_bounds-halve_rows-end-2 : goal.slice_bounds-halve_rows-end-2
slice_bounds-halve_rows-end-2 c = omega (
  arith,
  texel_row_room c.args.sizes.depth c.args.sizes.width c.args.sizes.height c.min.result c.texel_length.result (length c.args.samples.now)
      c.texel_length.ensures.value c.requires.room.whole (omega (arith, c.min.ensures, c.requires.room.some_rows)),
)

pub returns : goal.returns
returns c = λ source before.
    let d = c.args.sizes.depth in
    let w = c.args.sizes.width in
    let h = c.args.sizes.height in
    let n = c.args.pair in
    let v : ℕ = (w + 1) / 2 in
    let r = c.texel_length.result in
    let s = c.texel_length-2.result in
    let b = c.min.result in
    let e : r ≡ 3 * d = c.texel_length.ensures.value in
    let f : s ≡ 3 * d = c.texel_length-2.ensures.value in
    let top : r * w * (2 * n) ≡ d * (3 * w * (2 * n)) = ap (λ (q : ℕ). q * w * (2 * n)) e ∙ omega arith in
    let bottom : r * w * b ≡ d * (3 * w * min (2 * n + 1) (h - 1)) =
    ap (λ (q : ℕ). q * w * b) e ∙ ap (λ (q : ℕ). 3 * d * w * q) c.min.ensures ∙ omega arith in
    let size : r * w ≡ d * (3 * w) = ap (λ (q : ℕ). q * w) e ∙ omega arith in
    let place : s * v * n ≡ d * (3 * v * n) = ap (λ (q : ℕ). q * v * n) f ∙ omega arith in
    let half : s * v ≡ d * (3 * v) = ap (λ (q : ℕ). q * v) f ∙ omega arith in
    let more : v * (n + 1) ≤ w * h = mul-le v (n + 1) w h (omega (arith, c.requires.room.some_columns)) (omega (arith, c.requires.inside)) in
    let all : 3 * d * (v * (n + 1)) ≤ 3 * d * (w * h) = mul-le-mul_left (3 * d) more in
    let room : s * v * n + s * v ≤ length c.args.samples.now = omega (arith, all, place, half, c.requires.room.whole) in
    next_pair d w h n (r * w * (2 * n)) (r * w * b) (r * w * (2 * n) + r * w - r * w * (2 * n)) (r * w * b + r * w - r * w * b) (s * v * n)
    (s * v * n + s * v) source c.args.samples.now c.copy_from_slice.new.self c.requires.room.some_columns c.requires.room.some_rows c.requires.inside top bottom
    (omega (arith, size)) (omega (arith, size)) place (omega (arith, half)) room (omega (arith, half))
    (subst (λ l. IsHalvedRow d (take (r * w * (2 * n) + r * w - r * w * (2 * n)) (drop (r * w * (2 * n)) c.args.samples.now))
    (take (r * w * b + r * w - r * w * b) (drop (r * w * b) c.args.samples.now)) w v l) (sym c.copy_from_slice.ensures.after) c.halve_rows.ensures.row) before

pub slice_bounds-copy_from_slice-end : goal.slice_bounds-copy_from_slice-end
slice_bounds-copy_from_slice-end c = omega (
  arith,
  half_inside c.args.sizes.depth c.args.sizes.width c.args.sizes.height c.args.pair c.texel_length-2.result (length c.args.samples.now)
      c.requires.room.some_columns
      c.requires.inside c.texel_length-2.ensures.value c.requires.room.whole,
)

pub overflow_mul-size : goal.overflow_mul-size
overflow_mul-size c = omega (arith, row_small c.texel_length.result c.args.sizes.width c.texel_length.ensures.few c.requires.room.few_columns)

pub overflow_mul-half_size : goal.overflow_mul-half_size
overflow_mul-half_size c =
    omega (arith, row_small c.texel_length-2.result ((c.args.sizes.width + 1) / 2) c.texel_length-2.ensures.few (omega (arith, c.requires.room.few_columns)))

pub overflow_mul-top : goal.overflow_mul-top
overflow_mul-top c = omega (
  arith,
  texel_row_room c.args.sizes.depth c.args.sizes.width c.args.sizes.height (2 * c.args.pair) c.texel_length.result (length c.args.samples.now)
      c.texel_length.ensures.value c.requires.room.whole (omega (arith, c.requires.inside)),
  raster_small c.args.sizes.depth c.args.sizes.width c.args.sizes.height _ c.requires.room.depth c.requires.room.few_columns c.requires.room.few_rows
      c.requires.room.whole,
  c.requires.inside,
  c.requires.room.few_rows,
)

pub overflow_mul-top-2 : goal.overflow_mul-top-2
overflow_mul-top-2 c = omega (
  arith,
  texel_row_room c.args.sizes.depth c.args.sizes.width c.args.sizes.height (2 * c.args.pair) c.texel_length.result (length c.args.samples.now)
      c.texel_length.ensures.value c.requires.room.whole (omega (arith, c.requires.inside)),
  raster_small c.args.sizes.depth c.args.sizes.width c.args.sizes.height _ c.requires.room.depth c.requires.room.few_columns c.requires.room.few_rows
      c.requires.room.whole,
  c.requires.inside,
  c.requires.room.few_rows,
)

pub overflow_add-top : goal.overflow_add-top
overflow_add-top c = omega (
  arith,
  texel_row_room c.args.sizes.depth c.args.sizes.width c.args.sizes.height (2 * c.args.pair) c.texel_length.result (length c.args.samples.now)
      c.texel_length.ensures.value c.requires.room.whole (omega (arith, c.requires.inside)),
  raster_small c.args.sizes.depth c.args.sizes.width c.args.sizes.height _ c.requires.room.depth c.requires.room.few_columns c.requires.room.few_rows
      c.requires.room.whole,
)

pub overflow_mul-bottom : goal.overflow_mul-bottom
overflow_mul-bottom c = omega (
  arith,
  texel_row_room c.args.sizes.depth c.args.sizes.width c.args.sizes.height c.min.result c.texel_length.result (length c.args.samples.now)
      c.texel_length.ensures.value c.requires.room.whole (omega (arith, c.min.ensures, c.requires.room.some_rows)),
  raster_small c.args.sizes.depth c.args.sizes.width c.args.sizes.height _ c.requires.room.depth c.requires.room.few_columns c.requires.room.few_rows
      c.requires.room.whole,
)

pub overflow_add-bottom : goal.overflow_add-bottom
overflow_add-bottom c = omega (
  arith,
  texel_row_room c.args.sizes.depth c.args.sizes.width c.args.sizes.height c.min.result c.texel_length.result (length c.args.samples.now)
      c.texel_length.ensures.value c.requires.room.whole (omega (arith, c.min.ensures, c.requires.room.some_rows)),
  raster_small c.args.sizes.depth c.args.sizes.width c.args.sizes.height _ c.requires.room.depth c.requires.room.few_columns c.requires.room.few_rows
      c.requires.room.whole,
)

pub overflow_mul-to : goal.overflow_mul-to
overflow_mul-to c = omega (
  arith,
  half_inside c.args.sizes.depth c.args.sizes.width c.args.sizes.height c.args.pair c.texel_length-2.result (length c.args.samples.now)
      c.requires.room.some_columns
      c.requires.inside c.texel_length-2.ensures.value c.requires.room.whole,
  raster_small c.args.sizes.depth c.args.sizes.width c.args.sizes.height _ c.requires.room.depth c.requires.room.few_columns c.requires.room.few_rows
      c.requires.room.whole,
)

pub overflow_add-to : goal.overflow_add-to
overflow_add-to c = omega (
  arith,
  half_inside c.args.sizes.depth c.args.sizes.width c.args.sizes.height c.args.pair c.texel_length-2.result (length c.args.samples.now)
      c.requires.room.some_columns
      c.requires.inside c.texel_length-2.ensures.value c.requires.room.whole,
  raster_small c.args.sizes.depth c.args.sizes.width c.args.sizes.height _ c.requires.room.depth c.requires.room.few_columns c.requires.room.few_rows
      c.requires.room.whole,
)

pub halve_rows-requires-clause-depth : goal.halve_rows-requires-clause-depth
halve_rows-requires-clause-depth c = c.requires.room.depth

pub halve_rows-requires-clause-out : goal.halve_rows-requires-clause-out
halve_rows-requires-clause-out c = c.requires.room.row

pub halve_rows-requires-clause-top : goal.halve_rows-requires-clause-top
halve_rows-requires-clause-top c = omega (arith, ap (λ (q : ℕ). q * c.args.sizes.width) c.texel_length.ensures.value)

pub halve_rows-requires-clause-bottom : goal.halve_rows-requires-clause-bottom
halve_rows-requires-clause-bottom c = omega (arith, ap (λ (q : ℕ). q * c.args.sizes.width) c.texel_length.ensures.value)

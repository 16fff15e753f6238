use Rattle.std.proofs.Common.{◌≡◌, ℕ, ◌*◌, refl, ap, arith}
use Rattle.std.proofs.lemmas.Nat.{mul-le}
use Rattle.vt_ppm.specs.Format.{depth_of}
use Rattle.vt_definitions.specs.Depths.{texel_length}
use Rattle.vt_pages.specs.Shape.{Shape}
use Rattle.vt_store.proofs.StripLevels.{strip_low, rows_room, strip_room, strip_small, strip_bytes}
use Rattle.vt_store.proofs.strip.strip_size.Goals as goal

pub overflow_mul-row : goal.overflow_mul-row
overflow_mul-row g c =
    omega (
      arith,
      mul-le c.texel_length.result c.width-width.result 6 16384 (omega (arith, c.texel_length.ensures.few))
          (omega (arith, c.width-width.ensures.width, c.width-width.ensures.limits.most_width)),
    )

pub overflow_mul-strip : goal.overflow_mul-strip
overflow_mul-strip g c =
    let low = strip_low c.args.geometry.now c.args.strip (omega (arith, c.tile-side.ensures.limits.least_tile)) c.requires.strip in
    let along : c.args.strip * c.tile-side.result ≡ c.args.strip * c.args.geometry.now.tile = ap (λ (n : ℕ). c.args.strip * n) c.tile-side.ensures.tile in
    omega (arith, low, along, c.height-height.ensures.limits.most_height)

pub overflow_sub-height : goal.overflow_sub-height
overflow_sub-height g c =
    let low = strip_low c.args.geometry.now c.args.strip (omega (arith, c.tile-side.ensures.limits.least_tile)) c.requires.strip in
    let along : c.args.strip * c.tile-side.result ≡ c.args.strip * c.args.geometry.now.tile = ap (λ (n : ℕ). c.args.strip * n) c.tile-side.ensures.tile in
    omega (arith, low, along, c.height-height.ensures.height)

pub overflow_mul-result : goal.overflow_mul-result
overflow_mul-result g c =
    omega (
      arith,
      strip_small c.min-count.result c.texel_length.result c.width-width.result
          (omega (arith, c.min-count.ensures, c.tile-side.ensures.tile, c.tile-side.ensures.limits.most_tile))
          (omega (arith, c.texel_length.ensures.few)) (omega (arith, c.width-width.ensures.width, c.width-width.ensures.limits.most_width)),
    )

pub returns-clause-value : goal.returns-clause-value
returns-clause-value g c =
    let shape = c.requires.shape in
    strip_bytes c.args.geometry.now c.args.chain.now.header c.args.chain.now.header c.args.strip c.depth.result c.texel_length.result
    c.width-width.result c.tile-side.result c.height-height.result c.min-count.result
    (c.min-count.result * (c.texel_length.result * c.width-width.result)) refl (ap (λ (z : Shape). z.width) shape) (ap (λ (z : Shape). z.height) shape)
    c.depth.ensures.value c.texel_length.ensures.value c.width-width.ensures.width c.tile-side.ensures.tile c.height-height.ensures.height
    c.min-count.ensures refl

pub returns-clause-few : goal.returns-clause-few
returns-clause-few g c =
    let d = depth_of c.args.chain.now.header.maximum in
    let all : ℕ = c.args.geometry.now.tile * (texel_length d * c.args.geometry.now.width) in
    strip_room c.min-count.result c.tile-side.result c.texel_length.result c.width-width.result all (omega (arith, c.min-count.ensures))
    (rows_room all c.args.geometry.now.tile d c.args.geometry.now.width c.depth.result c.tile-side.result c.texel_length.result c.width-width.result refl
    c.tile-side.ensures.tile c.texel_length.ensures.value c.depth.ensures.value c.width-width.ensures.width)

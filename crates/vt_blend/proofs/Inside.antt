-- Where the corners of a place lie: inside their level.
use Rattle.std.proofs.Common.{◌≡◌, ℕ, ◌+◌, ◌*◌, ◌/◌, ◌^◌, ◌<◌, Bool, true, false, refl, sym, ap, ◌∙◌, mul_comm, arith}
use Rattle.std.specs.Prelude.{◌==◌, if◌then◌else◌}
use Rattle.std.proofs.lemmas.Bool.{eqb-false}
use Rattle.std.proofs.Math.Nat.{div-div-eq-div-mul}
use Rattle.vt_definitions.specs.Sides.{side}
use Rattle.vt_camera.proofs.LevelLemmas.{inside_level}
use Rattle.vt_blend.specs.Corners.{after, corners_at, AreInside}

-- the one after is another of as many
pub after_inside : (many n : ℕ) → n < many → after many n < many
after_inside many n inside = step (n + 1 == many) refl where
  step : (b : Bool) → (n + 1 == many) ≡ b → (if b then 0 else n + 1) < many
  step true e = omega (arith, inside)
  step false e = let other = eqb-false _ _ e in grind arith

-- a place in 1/256 texel lies in a texel, and so does the place that is halved once a level
pub texel_inside : (width place k : ℕ) → place < 256 * width → place / 2 ^ k / 256 < side width k
texel_inside width place k inside =
    let whole : place / 256 < width = omega (arith, inside) in
    let swapped : place / 2 ^ k / 256 ≡ place / 256 / 2 ^ k =
    div-div-eq-div-mul place (2 ^ k) 256 ∙ ap (λ (n : ℕ). place / n) (mul_comm (2 ^ k) 256) ∙ sym (div-div-eq-div-mul place 256 (2 ^ k)) in
    omega (arith, swapped, inside_level width (place / 256) k whole)

-- corners of a place that lies in a texel
pub corners_inside : (columns rows a b : ℕ) → a / 256 < columns → b / 256 < rows → AreInside columns rows (corners_at columns rows a b)
corners_inside columns rows a b wide high = record {
  column = wide;
  next_column = after_inside columns (a / 256) wide;
  line = high;
  next_line = after_inside rows (b / 256) high;
  across = omega arith;
  down = omega arith;
}

use Rattle.std.proofs.Common.{ℕ, ◌+◌, ◌*◌, ◌/◌, ◌≤◌, to_z-of_z, FitsSigned, ap, ◌∙◌, arith}
use Rattle.std.specs.Prelude.{unsigned_abs}
use Rattle.std.specs.Int.{w64}
use Rattle.std.proofs.lemmas.Int.{ints}
use Rattle.std.proofs.lemmas.Nat.{mul-le}
use Rattle.std.proofs.Math.Nat.{div-le_self}
use Rattle.vt_text.specs.Limits.{most_focal}
use Rattle.vt_camera.proofs.rows.distance_of.Goals as goal

-- a height and a focal number within their limits
product : (height focal : ℕ) → height ≤ 16777216 → focal ≤ most_focal → height * focal ≤ 16777216 * most_focal
product height focal low high = mul-le height focal 16777216 most_focal low high

pub overflow_mul-result : goal.overflow_mul-result
overflow_mul-result c = omega (arith, product c.unsigned_abs.result c.from.result (omega (arith, ints)) (omega arith))

pub returns-clause-high : goal.returns-clause-high
returns-clause-high c =
    omega (
      arith,
      product c.unsigned_abs.result c.from.result (omega (arith, ints)) (omega arith),
      div-le_self (c.unsigned_abs.result * c.from.result) (c.from-2.result + 1),
    )

pub returns-clause-value : goal.returns-clause-value
returns-clause-value c =
    let fits : FitsSigned w64 c.args.camera.now.h = omega (arith, ints) in
    ap (λ (n : ℕ). n * c.from.result / (c.from-2.result + 1)) (c.unsigned_abs.ensures.value ∙ ap unsigned_abs (to_z-of_z fits))
    ∙ ap (λ (n : ℕ). unsigned_abs c.args.camera.now.h * n / (c.from-2.result + 1)) c.from.ensures
    ∙ ap (λ (n : ℕ). unsigned_abs c.args.camera.now.h * c.args.focal / (n + 1)) c.from-2.ensures

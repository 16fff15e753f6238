use Rattle.std.proofs.Common.{ℕ, ◌+◌, ◌/◌, to_z-of_z, FitsSigned, ap, ◌∙◌, arith}
use Rattle.std.specs.Prelude.{unsigned_abs}
use Rattle.std.specs.Int.{w64}
use Rattle.std.proofs.lemmas.Int.{ints}
use Rattle.std.proofs.Math.Nat.{div-le_self}
use Rattle.vt_camera.proofs.rows.span_of.Goals as goal

pub returns-clause-value : goal.returns-clause-value
returns-clause-value c =
    let fits : FitsSigned w64 c.args.camera.now.h = omega (arith, ints) in
    ap (λ (n : ℕ). n / (c.from.result + 1)) (c.unsigned_abs.ensures.value ∙ ap unsigned_abs (to_z-of_z fits))
    ∙ ap (λ (n : ℕ). unsigned_abs c.args.camera.now.h / (n + 1)) c.from.ensures

pub returns-clause-high : goal.returns-clause-high
returns-clause-high c = omega (arith, ints, div-le_self c.unsigned_abs.result (c.from.result + 1))

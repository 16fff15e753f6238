use Rattle.std.proofs.Common.{ℕ, ◌+◌, ◌-◌, ◌*◌, ◌/◌, ◌<◌, ◌≤◌, ap, arith}
use Rattle.std.proofs.Math.Nat.{div-lt_iff_lt-mul}
use Rattle.std.proofs.lemmas.Nat.{mul-le}
use Rattle.vt_ppm.proofs.rows.pieces_of.Goals as goal

-- there are no more pieces than rows
few_pieces : (h s : ℕ) → 1 ≤ h → 1 ≤ s → (h + s - 1) / s ≤ h
few_pieces h s rows some =
    let all : h * 1 ≤ h * s = mul-le h 1 h s (omega arith) some in
    let less : (h + s - 1) / s < h + 1 = (div-lt_iff_lt-mul {k = s} {x = h + s - 1} {y = h + 1} some).1 (omega (arith, all, rows, some)) in
    omega (arith, less)

pub returns-clause-value : goal.returns-clause-value
returns-clause-value c = ap (λ n. (c.args.header.now.height + n - 1) / n) c.piece_rows-step.ensures.value

pub returns-clause-few : goal.returns-clause-few
returns-clause-few c = few_pieces c.args.header.now.height c.piece_rows-step.result c.requires.sides.some_rows c.piece_rows-step.ensures.some

-- The pieces that some of several threads take.
use Rattle.std.proofs.Common.{ℕ, ◌*◌, ◌/◌, ◌≤◌, arith}
use Rattle.std.proofs.Math.Nat.{mul-le-mul_left}
use Rattle.std.proofs.lemmas.Nat.{div-add-mod'}

-- some of the threads take no more pieces than there are
pub share_few : (pieces threads first : ℕ) → first ≤ threads → pieces / threads * first ≤ pieces
share_few pieces threads first few =
    let part : pieces / threads * first ≤ pieces / threads * threads = mul-le-mul_left (pieces / threads) few in
    omega (arith, part, div-add-mod' pieces threads)

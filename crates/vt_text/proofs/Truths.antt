-- What tests that are true say.
use Rattle.std.proofs.Common.{◌≡◌, ◌≤◌, ℕ, Bool, true, false, refl, arith}
use Rattle.std.proofs.lemmas.Bool.{false≢true}
use Rattle.std.proofs.lemmas.Bool.Decides.{nat_tests}
use Rattle.std.specs.Prelude.{nat_le, ◌&&◌}

pub both_true : (a b : Bool) → a ≡ true → b ≡ true → (a && b) ≡ true
both_true true true p q = refl
both_true false b p q = absurd (false≢true p)
both_true true false p q = absurd (false≢true q)

pub each_true : (a b : Bool) → (a && b) ≡ true → (a ≡ true) × (b ≡ true)
each_true true true h = (refl, refl)
each_true false b h = absurd (false≢true h)
each_true true false h = absurd (false≢true h)

pub le_test : (m n : ℕ) → m ≤ n → nat_le m n ≡ true
le_test m n h = grind (arith, nat_tests)

pub le_tested : (m n : ℕ) → nat_le m n ≡ true → m ≤ n
le_tested m n h = grind (arith, nat_tests)

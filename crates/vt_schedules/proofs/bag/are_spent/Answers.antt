use Rattle.std.proofs.Common.{ℕ, Bool, true, false, ◌≡◌, ◌<◌, eqb, refl, arith, MatchBool}
use Rattle.std.proofs.lemmas.Bool.Decides.{nat_tests}
use Rattle.vt_schedules.proofs.bag.are_spent.Goals as goal

none_or_some : (n : ℕ) (b : Bool) → eqb n 0 ≡ b → MatchBool b (n ≡ 0) (0 < n)
none_or_some n true e = grind (arith, nat_tests)
none_or_some n false e = grind (arith, nat_tests)

pub returns : goal.returns
returns c = none_or_some c.args.splits _ refl

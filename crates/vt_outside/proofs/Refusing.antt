-- What is so of an answer where a call below it was refused, and of counts over several calls.
use Rattle.std.proofs.Common.{◌≡◌, ℕ, ◌≤◌, Result, Ok, Err, IfOk, OnOk, IfErr, IsErrAnd, sym, subst, arith}
use Rattle.vt_outside.specs.Counts.{Rose}

-- nothing is said of what was made
pub none_made : {T E : Type 0} (q : Result T E) (R : E → Type 0) (P : Type 0) → IsErrAnd q R → OnOk q P
none_made (Ok x) R P is = absurd is
none_made (Err e) R P is = tt

pub no_value : {T E : Type 0} (q : Result T E) (R : E → Type 0) (P : T → Type 0) → IsErrAnd q R → IfOk q P
no_value (Ok x) R P is = absurd is
no_value (Err e) R P is = tt

-- what is so of an error is so of the answer with it
pub handed_on : {T E : Type 0} (q : Result T E) (e : E) (P : E → Type 0) → IsErrAnd q (λ x. x ≡ e) → P e → IfErr q P
handed_on (Ok x) e P is so = tt
handed_on (Err x) e P is so = subst P (sym is) so

-- a rise after calls that lowered nothing is a rise over all of them
pub rose_later : (a b c : ℕ) → a ≤ b → Rose b c → Rose a c
rose_later a b c le rose = omega (arith, le, rose)

-- a count that stays does not fall
pub no_fewer : (a b : ℕ) → b ≡ a → a ≤ b
no_fewer a b same = omega arith

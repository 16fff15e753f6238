-- What putting pieces answers where one of them is refused.
use Rattle.std.proofs.Common.{◌≡◌, ℕ, ◌≤◌, Result, Ok, Err, arith, ap}
use Rattle.std.specs.Prelude.{OnOk, IsErrOf}
use Rattle.std.specs.Result.{IsErrAnd}
use Rattle.vt_outside.specs.Counts.{Rose}
use Rattle.vt_outside.specs.declared.answers.OutsideError.{OutsideError}

-- nothing is said of the whole
pub none_whole : {T E : Type 0} (q : Result T E) (R : E → Type 0) (P : Type 0) → IsErrAnd q R → OnOk q P
none_whole (Ok x) R P is = absurd is
none_whole (Err e) R P is = tt

-- a count that rose in the last put rose in all of them
pub rose_since : {T U : Type 0} (q : Result T OutsideError) (e kind : OutsideError) (first before after : ℕ) → IsErrAnd q (λ x. x ≡ e)
    → (IsErrOf {T = U} (Err e) kind → Rose before after) → first ≤ before → IsErrOf q kind → Rose first after
rose_since (Ok x) e kind first before after is known below h = absurd is
rose_since {T} {U} (Err x) e kind first before after is known below h =
    let same : e ≡ kind = cc in
    let rose : Rose before after = known (ap Err same) in
    omega (arith, rose)

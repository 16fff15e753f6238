-- What the clauses on a folder of unknown content say.
use Rattle.std.proofs.Common.{◌≡◌, ℕ, Bool, true, false, refl, arith, Ok, Err}
use Rattle.std.specs.Prelude.{Result, IfOk, OnOk, OnErr, IsErrOf, is_err, if◌then◌else◌}
use Rattle.vt_outside.specs.Counts.{Rose}
use Rattle.vt_outside.specs.Outcomes.{raised_if}
use Rattle.vt_outside.specs.declared.answers.OutsideError.{OutsideError}
use Rattle.vt_outside.specs.declared.answers.OutsideError.TheVariants.{Failed}

-- what holds of each value holds of the one in an Ok
pub IfOk-all : {T E : Type 0} (r : Result T E) (P : T → Type 0) → ((x : T) → P x) → IfOk r P
IfOk-all (Ok x) P all = all x
IfOk-all (Err e) P all = tt

-- what holds holds after an Ok
pub OnOk-all : {T E : Type 0} (r : Result T E) (P : Type 0) → P → OnOk r P
OnOk-all (Ok x) P holds = holds
OnOk-all (Err e) P holds = tt

-- and after an Err
pub OnErr-all : {T E : Type 0} (r : Result T E) (P : Type 0) → P → OnErr r P
OnErr-all (Ok x) P holds = tt
OnErr-all (Err e) P holds = holds

-- a choice of one value and the same
pub same-if : {A : Type 0} (b : Bool) (x : A) → x ≡ (if b then x else x)
same-if true x = refl
same-if false x = refl

-- a count that each refusal raises rose where the call failed
pub Rose-raised : {T : Type 0} (r : Result T OutsideError) (a b : ℕ) → b ≡ raised_if (is_err r) a → IsErrOf r Failed → Rose a b
Rose-raised (Ok x) a b raised failed = let no : ⊥ = cc in absurd no
Rose-raised (Err e) a b raised failed = omega arith

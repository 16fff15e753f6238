-- What a call answers where another one that it makes is refused.
use Rattle.std.proofs.Common.{◌≡◌, sym, subst}
use Rattle.std.specs.Prelude.{Result, Ok, Err, IfErr, IsErrOf}
use Rattle.std.specs.Result.{IsErrAnd}
use Rattle.vt_outside.specs.declared.answers.OutsideError.{OutsideError}
use Rattle.vt_outside.specs.declared.answers.OutsideError.TheVariants as outside_error
use Rattle.vt_tiles.specs.Refusals.{IsOutsideRefusal, refusal_by}
use Rattle.vt_tiles.specs.declared.error.StoreError.{StoreError}
use Rattle.vt_tiles.specs.declared.error.StoreError.TheVariants.{Failed, NoMemory}

-- which refusal it is: the memory's, the file's, that of a call on the outside, or that of a call that tells it
pub by_memory : {T : Type 0} (q : Result T StoreError) → IsErrAnd q (λ x. x ≡ NoMemory) → IfErr q IsOutsideRefusal
by_memory (Ok x) is = tt
by_memory (Err x) is = subst IsOutsideRefusal (sym is) tt

pub by_file : {T : Type 0} (q : Result T StoreError) → IsErrAnd q (λ x. x ≡ Failed) → IfErr q IsOutsideRefusal
by_file (Ok x) is = tt
by_file (Err x) is = subst IsOutsideRefusal (sym is) tt

pub by_outside : {T : Type 0} (q : Result T StoreError) (e : OutsideError) → IsErrAnd q (λ x. x ≡ refusal_by e) → IfErr q IsOutsideRefusal
by_outside (Ok x) e is = tt
by_outside (Err x) outside_error.Failed is = subst IsOutsideRefusal (sym is) tt
by_outside (Err x) outside_error.NoMemory is = subst IsOutsideRefusal (sym is) tt

pub by_call : {T : Type 0} (q : Result T StoreError) (e : StoreError) → IsErrAnd q (λ x. x ≡ e) → IsOutsideRefusal e → IfErr q IsOutsideRefusal
by_call (Ok x) e is known = tt
by_call (Err x) e is known = subst IsOutsideRefusal (sym is) known

-- a refusal of the outside tells nothing of the bytes
pub not_outside : {T : Type 0} (q : Result T StoreError) (P : StoreError → Type 0) → IfErr q IsOutsideRefusal
    → IfErr q (λ e. (IsOutsideRefusal e → ⊥) → P e)
not_outside (Ok x) P is = tt
not_outside (Err e) P is = λ other. absurd (other is)

-- want of memory is no fault
pub no_fault : {T : Type 0} (q : Result T StoreError) (P : Type 0) → IsErrAnd q (λ x. x ≡ NoMemory) → IsErrOf q Failed → P
no_fault (Ok x) P is failed = absurd is
no_fault (Err x) P is failed = let no : ⊥ = cc in absurd no

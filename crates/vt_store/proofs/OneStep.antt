-- One step of writing a store: how it ends.
use Rattle.std.proofs.Common.{◌≡◌, ℕ, inl, inr, List, length, take, refl, sym, ap, ◌∙◌, subst, Ok, Err}
use Rattle.std.proofs.Math.Seq.{take-length}
use Rattle.std.specs.Prelude.{option_map, Result, OnOk, OnErr, IsErrOf}
use Rattle.std.specs.Result.{IsErrAnd}
use Rattle.vt_outside.specs.Counts.{Rose}
use Rattle.vt_outside.specs.Effects.{FolderEffect}
use Rattle.vt_outside.specs.Files.{IsThere, with_appended}
use Rattle.vt_outside.specs.declared.answers.OutsideError.{OutsideError}
use Rattle.vt_outside.specs.declared.answers.OutsideError.TheVariants as outside_error
use Rattle.vt_tiles.specs.declared.error.StoreError.{StoreError}
use Rattle.vt_tiles.specs.declared.error.StoreError.TheVariants.{Failed}
use Rattle.vt_tiles.specs.Refusals.{IsOutsideRefusal, refusal_by}
use Rattle.vt_store.specs.Steps.{Makes, AddsFront, AddsBytes, Steps}

-- how an append ends
pub adds_of : {T : Type 0} (n tiles : List ℕ) (folder : FolderEffect) (r : Result T OutsideError)
    → OnOk r (folder.after.files ≡ option_map (with_appended n tiles) folder.before.files)
    → OnErr r ((p : ℕ) × (folder.after.files ≡ option_map (with_appended n (take p tiles)) folder.before.files))
    → (IsErrOf r outside_error.Failed → IsThere folder.before.files n → Rose folder.before.faults folder.after.faults) → AddsBytes n tiles folder r
adds_of n tiles folder (Ok x) whole part failed = whole
adds_of n tiles folder (Err e) whole part failed = record {
  part = part.0;
  held = part.1;
  rose = λ is there. failed (ap Err is) there;
}

-- bytes that were not made, as their read failed
pub is_lost : {T E : Type 0} (made lost : Type 0) (q : Result T E) (R : E → Type 0) → IsErrAnd q R → lost → Makes made lost q
is_lost made lost (Ok x) R is so = absurd is
is_lost made lost (Err e) R is so = so

-- the bytes were refused
pub step_not_added : {T : Type 0} (made read rose : Type 0) (n bytes : List ℕ) (folder : FolderEffect) (q : Result T StoreError) (e : OutsideError)
    → IsErrAnd q (λ x. x ≡ refusal_by e) → AddsFront n bytes folder e → read → Steps made read rose n bytes folder q
step_not_added made read rose n bytes folder (Ok x) e is adds tried = absurd is
step_not_added made read rose n bytes folder (Err x) outside_error.Failed is adds tried = record {
  part = adds.part;
  held = adds.held;
  read = tried;
  rose = λ _ there. inl (adds.rose refl there);
  outside = subst IsOutsideRefusal (sym is) tt;
}
step_not_added made read rose n bytes folder (Err x) outside_error.NoMemory is adds tried = record {
  part = adds.part;
  held = adds.held;
  read = tried;
  rose = λ failed there. let no : ⊥ = cc in absurd no;
  outside = subst IsOutsideRefusal (sym is) tt;
}

-- they were added, and the next ones were not made
pub step_not_made : {T : Type 0} (made read rose : Type 0) (n bytes : List ℕ) (folder : FolderEffect) (q : Result T StoreError)
    → IsErrAnd q (λ x. x ≡ Failed) → folder.after.files ≡ option_map (with_appended n bytes) folder.before.files → read → rose → Steps made read rose n bytes folder q
step_not_made made read rose n bytes folder (Ok x) is added tried so = absurd is
step_not_made made read rose n bytes folder (Err x) is added tried so = record {
  part = length bytes;
  held = added ∙ ap (λ (l : List ℕ). option_map (with_appended n l) folder.before.files) (sym (take-length bytes));
  read = tried;
  rose = λ _ there. inr so;
  outside = subst IsOutsideRefusal (sym is) tt;
}

-- a prefix of bytes that were lent
pub front_in : (n bytes bytes' : List ℕ) (folder : FolderEffect) (e : OutsideError) → bytes ≡ bytes' → AddsFront n bytes folder e → AddsFront n bytes' folder e
front_in n bytes bytes' folder e lent adds = subst (λ (l : List ℕ). AddsFront n l folder e) lent adds

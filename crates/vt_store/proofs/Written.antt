-- How the writing of a store ends, and what its callers see of it.
use Rattle.std.proofs.Common.{◌≡◌, ℕ, ◌⊎◌, inl, List, refl, sym, subst, Ok, Err}
use Rattle.std.specs.Prelude.{Result, OnOk, OnErr, IfErr, IsErrOf}
use Rattle.std.specs.Result.{IsErrAnd}
use Rattle.vt_outside.specs.Counts.{Rose}
use Rattle.vt_outside.specs.Effects.{FolderEffect}
use Rattle.vt_outside.specs.declared.answers.OutsideError.{OutsideError}
use Rattle.vt_outside.specs.declared.answers.OutsideError.TheVariants as outside_error
use Rattle.vt_ppm.specs.StripPlaces.{strips_of, StripsAsked, StripsTried}
use Rattle.vt_pages.specs.Shape.{Shape}
use Rattle.vt_tiles.specs.declared.error.StoreError.{StoreError}
use Rattle.vt_tiles.specs.declared.error.StoreError.TheVariants.{Failed}
use Rattle.vt_tiles.specs.Made.{HoldsMade, HoldsMadeFront}
use Rattle.vt_tiles.specs.Refusals.{IsOutsideRefusal, refusal_by}
use Rattle.vt_store.specs.StripSteps.{RowsState, StoreRefused, WritesStore}

module _ (s : Shape) (n : List ℕ) (store : List ℕ → List ℕ) (a b : RowsState) (folder : FolderEffect) where
  -- a call refused it
  pub refused_store : {T : Type 0} (q : Result T StoreError) (e : StoreError) → IsErrAnd q (λ x. x ≡ e) → StoreRefused s n store a b folder e
      → WritesStore s n store a b folder q
  refused_store (Ok x) e is refused = absurd is
  refused_store (Err x) e is refused = subst (λ (y : StoreError). StoreRefused s n store a b folder y) (sym is) refused

  -- a call of the folder did
  pub refused_outside : {T : Type 0} (q : Result T StoreError) (e : OutsideError) → IsErrAnd q (λ x. x ≡ refusal_by e)
      → (folder.after.files ≡ folder.before.files) ⊎ HoldsMadeFront a.known store n folder.before.files folder.after.files
      → StripsTried a.header s.tile a.places b.places → (e ≡ outside_error.Failed → Rose folder.before.faults folder.after.faults)
      → WritesStore s n store a b folder q
  refused_outside (Ok x) e is part read failed = absurd is
  refused_outside (Err x) outside_error.Failed is part read failed = record {
    part = part;
    front_read = read;
    failed = λ _. inl (failed refl);
    outside = subst IsOutsideRefusal (sym is) tt;
  }
  refused_outside (Err x) outside_error.NoMemory is part read failed = record {
    part = part;
    front_read = read;
    failed = λ was. let no : ⊥ = cc in absurd no;
    outside = subst IsOutsideRefusal (sym is) tt;
  }

  pub seen_whole : {T : Type 0} (r : Result T StoreError) → WritesStore s n store a b folder r
      → OnOk r (HoldsMade a.known store n folder.before.files folder.after.files)
  seen_whole (Ok x) was = was.whole
  seen_whole (Err e) was = tt

  pub seen_part : {T : Type 0} (r : Result T StoreError) → WritesStore s n store a b folder r
      → OnErr r ((folder.after.files ≡ folder.before.files) ⊎ HoldsMadeFront a.known store n folder.before.files folder.after.files)
  seen_part (Ok x) was = tt
  seen_part (Err e) was = was.part

  pub seen_read : {T : Type 0} (r : Result T StoreError) → WritesStore s n store a b folder r
      → OnOk r (StripsAsked a.header s.tile (strips_of a.header s.tile) a.places b.places)
  seen_read (Ok x) was = was.all_read
  seen_read (Err e) was = tt

  pub seen_tried : {T : Type 0} (r : Result T StoreError) → WritesStore s n store a b folder r → OnErr r (StripsTried a.header s.tile a.places b.places)
  seen_tried (Ok x) was = tt
  seen_tried (Err e) was = was.front_read

  pub seen_refusal : {T : Type 0} (r : Result T StoreError) → WritesStore s n store a b folder r → IfErr r IsOutsideRefusal
  seen_refusal (Ok x) was = tt
  seen_refusal (Err e) was = was.outside

  pub seen_failed : {T : Type 0} (r : Result T StoreError) → WritesStore s n store a b folder r → IsErrOf r Failed
      → Rose folder.before.faults folder.after.faults ⊎ Rose a.faults b.faults
  seen_failed (Ok x) was failed = let no : ⊥ = cc in absurd no
  seen_failed (Err e) was failed = let is : e ≡ Failed = cc in was.failed is

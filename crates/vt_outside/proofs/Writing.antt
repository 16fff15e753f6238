-- What is left of the expected files, from what its writes did.
use Rattle.std.proofs.Common.{◌≡◌, ◌⊎◌, ℕ, ◌≤◌, List, [], ◌∷◌, ◌++◌, Option, Some, None, Ok, Err, refl, sym, ap, subst, ◌∙◌, inl, inr, append_assoc, arith}
use Rattle.std.specs.Prelude.{Result, OnOk, OnErr, OnSome, true, ◌+◌, take}
use Rattle.std.specs.Option.{option_map, IsSome}
use Rattle.std.specs.Str.{bytes_eq}
use Rattle.std.proofs.lemmas.Slice.Eq.{bytes_eq-Decides}
use Rattle.std.proofs.lemmas.List.{append-nil}
use Rattle.vt_outside.specs.Counts.{Rose}
use Rattle.vt_outside.specs.Files.{Files, with_bytes, with_appended, bytes_at}
use Rattle.vt_outside.proofs.Changes.{known-bytes-appended}
use Rattle.vt_outside.specs.declared.answers.OutsideError.{OutsideError}
use Rattle.vt_outside.specs.declared.answers.OutsideError.TheVariants.{Failed, NoMemory}
use Rattle.vt_outside.proofs.Refusing.{rose_later}
use Rattle.vt_outside.specs.Effects.{FolderState, FolderEffect}
use Rattle.vt_outside.specs.Expectations.{ExpectedFile, with_files, IsWrittenPrefix, IsPart, FailsOnly, AsksNone, Writes}

pub no_files : (known : Option Files) → known ≡ option_map (with_files []) known
no_files None = refl
no_files (Some files) = refl

files_then : (xs ys : List ExpectedFile) (files : Files) → with_files (xs ++ ys) files ≡ with_files ys (with_files xs files)
files_then [] ys files = refl
files_then (x ∷ xs) ys files = files_then xs ys (with_bytes x.name x.bytes files)

-- files and then others are all of them
pub known_then : (xs ys : List ExpectedFile) (known : Option Files)
    → option_map (with_files (xs ++ ys)) known ≡ option_map (with_files ys) (option_map (with_files xs) known)
known_then xs ys None = refl
known_then xs ys (Some files) = ap Some (files_then xs ys files)

pub part_none : (expected : List ExpectedFile) (before after : Option Files) → after ≡ before → IsPart expected before after
part_none expected before after same = record { whole = []; rest = expected; split = refl; front = first expected }
  where
    mid : after ≡ option_map (with_files []) before
    mid = same ∙ no_files before

    first : (files : List ExpectedFile) → IsWrittenPrefix files (option_map (with_files []) before) after
    first [] = mid
    first (x ∷ xs) = inl mid

pub part_whole : (expected : List ExpectedFile) (before after : Option Files) → after ≡ option_map (with_files expected) before → IsPart expected before after
part_whole expected before after is = record { whole = expected; rest = []; split = sym (append-nil expected); front = is }

part_front : (file : ExpectedFile) (before after : Option Files) (k : ℕ)
    → after ≡ option_map (with_bytes file.name (take k file.bytes)) before → IsPart (file ∷ []) before after
part_front file before after k is = record {
  whole = [];
  rest = file ∷ [];
  split = refl;
  front = inr (k, is ∙ ap (option_map (with_bytes file.name (take k file.bytes))) (no_files before));
}

part_file : (name bytes : List ℕ) (before after : Option Files)
    → (after ≡ before) ⊎ ((k : ℕ) × (after ≡ option_map (with_bytes name (take k bytes)) before))
    → IsPart ((record { name = name; bytes = bytes }) ∷ []) before after
part_file name bytes before after (inl same) = part_none ((record { name = name; bytes = bytes }) ∷ []) before after same
part_file name bytes before after (inr part) = part_front (record { name = name; bytes = bytes }) before after part.0 part.1

-- one file was written, or a prefix of it
pub file_written : (name bytes : List ℕ) (before after : FolderState)
    → after.files ≡ option_map (with_bytes name bytes) before.files → after.asked ≡ before.asked → before.faults ≤ after.faults
    → Writes {T = Unit {0}} ((record { name = name; bytes = bytes }) ∷ []) (record { before = before; after = after }) (Ok tt)
file_written name bytes before after whole asked faults = (record { asked = asked; faults = faults }, whole)

pub file_stopped : (name bytes : List ℕ) (before after : FolderState) (error : OutsideError)
    → (after.files ≡ before.files) ⊎ ((k : ℕ) × (after.files ≡ option_map (with_bytes name (take k bytes)) before.files))
    → after.asked ≡ before.asked → before.faults ≤ after.faults → (error ≡ Failed → Rose before.faults after.faults)
    → Writes {T = Unit {0}} ((record { name = name; bytes = bytes }) ∷ []) (record { before = before; after = after }) (Err error)
file_stopped name bytes before after Failed part asked faults failed =
    (record { asked = asked; faults = faults }, part_file name bytes before.files after.files part, failed refl)
file_stopped name bytes before after NoMemory part asked faults failed =
    (record { asked = asked; faults = faults }, part_file name bytes before.files after.files part, tt)

front_more : (xs ys : List ExpectedFile) (before after : Option Files) → IsWrittenPrefix xs before after → IsWrittenPrefix (xs ++ ys) before after
front_more [] [] before after h = h
front_more [] (y ∷ ys) before after h = inl h
front_more (x ∷ xs) ys before after h = h

-- a part of some files after others that are whole is a part of all
pub part_later : (whole one rest : List ExpectedFile) (before mid after : Option Files)
    → mid ≡ option_map (with_files whole) before → IsPart one mid after → IsPart (whole ++ (one ++ rest)) before after
part_later whole one rest before mid after is part = record {
  whole = whole ++ part.whole;
  rest = part.rest ++ rest;
  split = ap (λ (files : List ExpectedFile). whole ++ (files ++ rest)) part.split
      ∙ ap (λ (files : List ExpectedFile). whole ++ files) (append_assoc part.whole part.rest rest)
      ∙ sym (append_assoc whole part.whole (part.rest ++ rest));
  front = front_more part.rest rest (option_map (with_files (whole ++ part.whole)) before) after
      (subst (λ (known : Option Files). IsWrittenPrefix part.rest known after)
      (ap (option_map (with_files part.whole)) is ∙ sym (known_then whole part.whole before)) part.front);
}

-- nothing was written for want of memory
pub unwritten : (files : List ExpectedFile) (s : FolderState) → Writes {T = Unit {0}} files (record { before = s; after = s }) (Err NoMemory)
unwritten files s = (record { asked = refl; faults = omega arith }, part_none files s.files s.files refl, tt)

pub asks_both : (before mid after : FolderState) → AsksNone (record { before = before; after = mid }) → AsksNone (record { before = mid; after = after })
    → AsksNone (record { before = before; after = after })
asks_both before mid after a b = record {
  asked = b.asked ∙ a.asked;
  faults = let first : before.faults ≤ mid.faults = a.faults in let then : mid.faults ≤ after.faults = b.faults in omega arith;
}

pub fails_later : (before mid after : ℕ) (error : OutsideError) → before ≤ mid → FailsOnly (Rose mid after) error → FailsOnly (Rose before after) error
fails_later before mid after Failed le rose = rose_later before mid after le rose
fails_later before mid after NoMemory le rose = tt

same_name : (name : List ℕ) → bytes_eq name name ≡ true
same_name name = (bytes_eq-Decides name name).1 refl

-- a name that was made to hold bytes is there
pub is_there : (name bytes : List ℕ) (before mid : Option Files) → mid ≡ option_map (with_bytes name bytes) before
    → OnSome mid (IsSome (bytes_at mid name))
is_there name bytes before mid is = subst (λ (known : Option Files). OnSome known (IsSome (bytes_at known name))) (sym is) (there before)
  where
    there : (known : Option Files) → OnSome (option_map (with_bytes name bytes) known) (IsSome (bytes_at (option_map (with_bytes name bytes) known) name))
    there None = tt
    there (Some files) = rw (same_name name) refl

pub fails_as : (error : OutsideError) (r : Result (Unit {0}) OutsideError) (rose : Type 0) → r ≡ Err error → (r ≡ Err Failed → rose) → FailsOnly rose error
fails_as Failed r rose is h = h is
fails_as NoMemory r rose is h = tt

-- a name was created, and what was appended to it
pub appended : (file : ExpectedFile) (before mid after : FolderState) (r : Result (Unit {0}) OutsideError)
    → mid.files ≡ option_map (with_bytes file.name []) before.files → AsksNone (record { before = before; after = mid })
    → AsksNone (record { before = mid; after = after })
    → OnOk r (after.files ≡ option_map (with_appended file.name file.bytes) mid.files)
    → OnErr r ((k : ℕ) × (after.files ≡ option_map (with_appended file.name (take k file.bytes)) mid.files))
    → (r ≡ Err Failed → Rose mid.faults after.faults)
    → Writes (file ∷ []) (record { before = before; after = after }) r
appended file before mid after (Ok t) made first then whole part failed = (
  asks_both before mid after first then,
  whole ∙ ap (option_map (with_appended file.name file.bytes)) made ∙ known-bytes-appended file.name [] file.bytes before.files,
)
appended file before mid after (Err error) made first then whole part failed = (
  asks_both before mid after first then,
  part_front file before.files after.files part.0
      (part.1 ∙ ap (option_map (with_appended file.name (take part.0 file.bytes))) made
      ∙ known-bytes-appended file.name [] (take part.0 file.bytes) before.files),
  fails_later before.faults mid.faults after.faults error first.faults (fails_as error (Err error) (Rose mid.faults after.faults) refl failed),
)

-- a file was written under a name and with bytes that are those of another
pub written_as : (name bytes name_is bytes_is : List ℕ) (p : FolderEffect) (r : Result (Unit {0}) OutsideError) → name ≡ name_is → bytes ≡ bytes_is
    → Writes ((record { name = name; bytes = bytes }) ∷ []) p r → Writes ((record { name = name_is; bytes = bytes_is }) ∷ []) p r
written_as name bytes name_is bytes_is p r a b h =
    subst (λ (n : List ℕ). Writes ((record { name = n; bytes = bytes_is }) ∷ []) p r) a
    (subst (λ (t : List ℕ). Writes ((record { name = name; bytes = t }) ∷ []) p r) b h)

-- What passes ask of the open files, and how the counts of faults add up.
use Rattle.std.proofs.Common.{◌≡◌, ℕ, ◌+◌, ◌≤◌, inl, inr, Bool, true, false, nat_le, ◌||◌, ◌&&◌, List, [], ◌∷◌, ◌++◌, sum, Option, Some, None, refl, sym, ap, ◌∙◌, subst, arith}
use Rattle.std.specs.Prelude.{IsSome, option_map, unwrap_or, flat_map, sum_by, count_by}
use Rattle.std.specs.List.{list_any}
use Rattle.std.proofs.lemmas.Bool.{false≢true}
use Rattle.std.proofs.lemmas.Bool.Decides.{nat_tests}
use Rattle.std.proofs.lemmas.Grind.{flat_map-append}
use Rattle.std.proofs.lemmas.List.{append-nil}
use Rattle.std.proofs.lemmas.List.Sums.{sum_by-cons}
use Rattle.vt_outside.specs.Counts.{added, count_end, RoseBy, RoseTogetherBy}
use Rattle.vt_outside.specs.Files.{Asked}
use Rattle.vt_outside.specs.Places.{times_asked, times_failed, is_read_of}
use Rattle.vt_outside.specs.declared.place.Place.{Place}
use Rattle.vt_pages.specs.Shape.{Shape}
use Rattle.vt_evict.specs.PlanTypes.batches.Planned.{Planned}
use Rattle.vt_walk_decisions.specs.Requests.{FileState, AllKnown, AreReadFor, ArePartlyReadFor, times_asked_by, times_failed_by, lost_entries}
use Rattle.vt_walk.specs.Reads.{AreAskedFor, AreAskedAtMostFor, OnKnown}
use Rattle.vt_walk.specs.States.{places_of}
use Rattle.vt_walk.proofs.Asking.{count_both}
use Rattle.vt_walk.proofs.LostReads.{FailsAtMostFor}

-- two steps are one
pub known_twice : (P Q R : List Place → List Place → Type 0) (a b c : Option (List Place)) → ((x y z : List Place) → P x y → Q y z → R x z)
    → OnKnown P a b → OnKnown Q b c → OnKnown R a c
known_twice P Q R None None None both p q = tt
known_twice P Q R (Some x) (Some y) (Some z) both p q = both x y z p q
known_twice P Q R None None (Some z) both p q = absurd q
known_twice P Q R None (Some y) c both p q = absurd p
known_twice P Q R (Some x) None c both p q = absurd p
known_twice P Q R (Some x) (Some y) None both p q = absurd q

-- what holds of the same places twice
pub known_same : (P : List Place → List Place → Type 0) (known now : Option (List Place)) → now ≡ known → ((places : List Place) → P places places)
    → OnKnown P known now
known_same P None now is same = subst (OnKnown P None) (sym is) tt
known_same P (Some places) now is same = subst (OnKnown P (Some places)) (sym is) (same places)

-- the same of each place
pub known_more : (P R : List Place → List Place → Type 0) (a b : Option (List Place)) → ((x y : List Place) → P x y → R x y) → OnKnown P a b → OnKnown R a b
known_more P R None None more p = tt
known_more P R (Some x) (Some y) more p = more x y p
known_more P R None (Some y) more p = absurd p
known_more P R (Some x) None more p = absurd p

times_in : (t : Place → Bool) (files : List FileState) → count_by t (places_of files) ≡ sum_by (λ (f : FileState). count_by t (unwrap_or f.asked [])) files
times_in t [] = refl
times_in t (f ∷ files) =
    ap (count_by t) (flat_map-append (λ (x : FileState). unwrap_or x.asked []) (f ∷ []) files)
    ∙ count_both t (flat_map (λ (x : FileState). unwrap_or x.asked []) (f ∷ [])) (places_of files)
    ∙ ap (λ n. count_by t (flat_map (λ (x : FileState). unwrap_or x.asked []) (f ∷ [])) + n) (times_in t files)
    ∙ ap (λ (l : List Place). count_by t l + sum_by (λ (x : FileState). count_by t (unwrap_or x.asked [])) files) (append-nil (unwrap_or f.asked []))
    ∙ sym (sum_by-cons (λ (x : FileState). count_by t (unwrap_or x.asked [])) f files)

-- how often a place was asked of files that were closed before and of those that are open
pub times_with : (at len : ℕ) (before : List Place) (files : List FileState)
    → times_asked at len (before ++ places_of files) ≡ times_asked at len before + times_asked_by files at len
times_with at len before files =
    count_both (is_read_of at len) before (places_of files) ∙ ap (λ n. times_asked at len before + n) (times_in (is_read_of at len) files)

pub asked_of : (at len : ℕ) (f : FileState) (files : List FileState)
    → times_asked_by (f ∷ files) at len ≡ times_asked at len (unwrap_or f.asked []) + times_asked_by files at len
asked_of at len f files = sum_by-cons (λ (x : FileState). times_asked at len (unwrap_or x.asked [])) f files

pub failed_of : (at len : ℕ) (f : FileState) (files : List FileState)
    → times_failed_by (f ∷ files) at len ≡ times_failed at len (unwrap_or f.asked []) + times_failed_by files at len
failed_of at len f files = sum_by-cons (λ (x : FileState). times_failed at len (unwrap_or x.asked [])) f files

pub failed_with : (at len : ℕ) (before : List Place) (files : List FileState)
    → times_failed at len (before ++ places_of files) ≡ times_failed at len before + times_failed_by files at len
failed_with at len before files =
    count_both (λ (place : Place). is_read_of at len place && place.failed) before (places_of files)
    ∙ ap (λ n. times_failed at len before + n) (times_in (λ (place : Place). is_read_of at len place && place.failed) files)

-- the places of a folder's name with those of open files
abbrev pub with_open : List ℕ → List FileState → Option Asked → Option (List Place)
with_open store files asked = option_map (λ (places : Asked). places store ++ places_of files) asked

-- a pass has asked for its batch
pub pass_asks : (s : Shape) (d : ℕ) (batch : List Planned) (losses : List Bool) (store : List ℕ) (kept : FileState) (old new : List FileState)
    (asked : Option Asked)
    → (IsSome (with_open store (kept ∷ old) asked) → AllKnown old) → AreReadFor s d batch losses old new
    → OnKnown (AreAskedFor s d 0 batch (lost_entries batch losses)) (with_open store (kept ∷ old) asked) (with_open store (kept ∷ new) asked)
pass_asks s d batch losses store kept old new None all_known read = tt
pass_asks s d batch losses store kept old new (Some places) all_known read =
    let once = read.once (all_known refl) in
    record {
      asked = λ at len. omega (
        arith,
        times_with at len (places store) (kept ∷ old),
        times_with at len (places store) (kept ∷ new),
        asked_of at len
            kept old,
        asked_of at len kept new,
        once.asked at len,
      );
      failed = λ at len. omega (
        arith,
        failed_with at len (places store) (kept ∷ old),
        failed_with at len (places store) (kept ∷ new),
        failed_of at
            len kept old,
        failed_of at len kept new,
        once.failed at len,
      );
    }

-- a pass has asked for its batch at most
pub pass_asks_most : (s : Shape) (d : ℕ) (batch : List Planned) (store : List ℕ) (kept : FileState) (old new : List FileState) (asked : Option Asked)
    → (IsSome (with_open store (kept ∷ old) asked) → AllKnown old) → ArePartlyReadFor s d batch old new
    → OnKnown (AreAskedAtMostFor s d 0 batch) (with_open store (kept ∷ old) asked) (with_open store (kept ∷ new) asked)
pass_asks_most s d batch store kept old new None all_known read = tt
pass_asks_most s d batch store kept old new (Some places) all_known read =
    let most = read.at_most_once (all_known refl) in
    λ at len. omega (
      arith,
      times_with at len (places store) (kept ∷ old),
      times_with at len (places store) (kept ∷ new),
      asked_of at len kept old,
      asked_of at len kept new,
      most at len,
    )

-- no more reads of a pass failed than those of some entries
pub pass_fails_most : (s : Shape) (d : ℕ) (batch : List Planned) (store : List ℕ) (kept : FileState) (old new : List FileState) (asked : Option Asked)
    → (IsSome (with_open store (kept ∷ old) asked) → AllKnown old) → (read : ArePartlyReadFor s d batch old new)
    → OnKnown (FailsAtMostFor s d read.lost) (with_open store (kept ∷ old) asked) (with_open store (kept ∷ new) asked)
pass_fails_most s d batch store kept old new None all_known read = tt
pass_fails_most s d batch store kept old new (Some places) all_known read =
    let most = read.failed (all_known refl) in
    λ at len. omega (
      arith,
      failed_with at len (places store) (kept ∷ old),
      failed_with at len (places store) (kept ∷ new),
      failed_of at len kept old,
      failed_of at len kept new,
      most at len,
    )

pub sum-one : (x : ℕ) (xs : List ℕ) → sum (x ∷ xs) ≡ x + sum xs
sum-one x xs = sum_by-cons (λ (y : ℕ). y) x xs

any_end : (counts : List ℕ) → list_any (nat_le count_end) counts ≡ true → count_end ≤ sum counts
any_end [] any = absurd (false≢true any)
any_end (x ∷ counts) any = pick (nat_le count_end x) refl any (any_end counts) where
  pick : (b : Bool) → nat_le count_end x ≡ b → (b || list_any (nat_le count_end) counts) ≡ true
      → (list_any (nat_le count_end) counts ≡ true → count_end ≤ sum counts) → count_end ≤ sum (x ∷ counts)
  pick true is any more = let above : count_end ≤ x = grind (arith, nat_tests, is) in omega (arith, above, sum-one x counts)
  pick false is any more = omega (arith, more any, sum-one x counts)

-- counts that rose together, with that of another file and of their folder
pub faults_rise : (n f kept : ℕ) (old new : List ℕ) → RoseTogetherBy n old new → RoseBy n (added f (sum (kept ∷ old))) (added f (sum (kept ∷ new)))
faults_rise n f kept old new (inl more) = omega (arith, more, sum-one kept old, sum-one kept new)
faults_rise n f kept old new (inr any) = omega (arith, any_end new any, sum-one kept old, sum-one kept new)

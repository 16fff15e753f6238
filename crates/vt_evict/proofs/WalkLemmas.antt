-- Walks over lines, page by page.
use Rattle.std.proofs.Common.{◌≡◌, ◌≢◌, ℕ, ◌+◌, ◌<◌, ◌≤◌, inl, inr, Bool, true, false, ◌||◌, nat_eq, List, [], ◌∷◌, ◌++◌, length, length-append, replicate, slice_set, slice_index_or, refl, sym, ap, ◌∙◌, subst, arith}
use Rattle.std.specs.List.{IsDistinct}
use Rattle.std.specs.Cmp.{nat_eq_equiv}
use Rattle.std.proofs.lemmas.Bool.{false≢true}
use Rattle.std.proofs.lemmas.Bool.Decides.{nat_tests}
use Rattle.std.proofs.lemmas.Grind.{common_steps, get_or-set_at}
use Rattle.std.proofs.lemmas.Bool.{cases_lt}
use Rattle.std.proofs.lemmas.List.{get_or-set_other, get_or_past, length-set, length-replicate}
use Rattle.std.proofs.lemmas.Map.Keys.{IsDistinct-push, IsDistinct-head, IsDistinct-tail, IsDistinct-IsPermutation}
use Rattle.std.proofs.lemmas.List.Sorted.{IsPermutation-to_front}
use Rattle.vt_outside.specs.Lists.{ListView}
use Rattle.vt_plan.specs.PageLists.{is_in}
use Rattle.vt_evict.specs.Kept.{IsWalk}
use Rattle.vt_evict.proofs.ListLemmas.{nat_eq_swap, present, is_in-append, room_for}
use Rattle.vt_plan.proofs.ListLemmas.{nat_eq_true}

-- a marked page is one of the pages
pub marked_below : (n : ℕ) (marks : List Bool) (walked : ListView ℕ) → IsWalk n marks walked → (p : ℕ) → is_in walked.elements p ≡ true → p < n
marked_below n marks walked h p e = elim (cases_lt p n) [
  | inl below ↦ below
  | inr past ↦ absurd (false≢true (sym (get_or_past marks p false (omega (arith, h.marks_for_all))) ∙ h.marked p ∙ e))
]

pub room_at : (n : ℕ) (marks : List Bool) (walked : ListView ℕ) (page : ℕ) → IsWalk n marks walked → page < n → is_in walked.elements page ≡ false
    → 1 ≤ walked.spare
room_at n marks walked page h inside new =
    let l : length walked.elements < n = room_for n page walked.elements inside new h.once (marked_below n marks walked h) in
    omega (arith, h.room)

pub or_false : (b : Bool) → (b || false) ≡ b
or_false true = refl
or_false false = refl

pub or_true : (b : Bool) → (b || true) ≡ true
or_true true = refl
or_true false = refl

pub is_in-push : (xs : List ℕ) (x p : ℕ) → is_in (xs ++ x ∷ []) p ≡ (is_in xs p || nat_eq p x)
is_in-push xs x p = is_in-append xs (x ∷ []) p ∙ ap (λ (b : Bool). is_in xs p || b) (or_false (nat_eq p x))

pub added_walk : (n : ℕ) (marks : List Bool) (old new : ListView ℕ) (page : ℕ) → IsWalk n marks old → page < n → is_in old.elements page ≡ false
    → new.elements ≡ old.elements ++ page ∷ [] → old.spare ≤ new.spare + 1 → IsWalk n (slice_set marks page true) new
added_walk n marks old new page h inside absent e room = record {
  marks_for_all = length-set marks page true ∙ h.marks_for_all;
  marked = λ p. rw e (marked p (nat_eq p page) refl);
  once = rw e (IsDistinct-push nat_eq_equiv old.elements page h.once absent);
  room = let l : length new.elements ≡ length old.elements + 1 = ap length e ∙ length-append old.elements (page ∷ []) in omega (arith, h.room);
} where
  marked : (p : ℕ) (b : Bool) → nat_eq p page ≡ b → slice_index_or (slice_set marks page true) p false ≡ is_in (old.elements ++ page ∷ []) p
  marked p true same =
      let is : p ≡ page = nat_eq_true p page same in
      get_or-set_at marks page p true false is (omega (arith, h.marks_for_all))
      ∙ sym (is_in-push old.elements page p ∙ ap (λ (b : Bool). is_in old.elements p || b) same ∙ or_true (is_in old.elements p))
  marked p false other =
      let is : p ≢ page = λ e. false≢true (sym other ∙ grind (arith, nat_tests)) in
      get_or-set_other marks page p true false is ∙ h.marked p
      ∙ sym (is_in-push old.elements page p ∙ ap (λ (b : Bool). is_in old.elements p || b) other ∙ or_false (is_in old.elements p))

pub last_distinct : (xs : List ℕ) (x : ℕ) → IsDistinct nat_eq (xs ++ x ∷ []) → IsDistinct nat_eq xs × (is_in xs x ≡ false)
last_distinct xs x h =
    let d : IsDistinct nat_eq (x ∷ xs) = IsDistinct-IsPermutation nat_eq nat_eq_swap (xs ++ x ∷ []) (x ∷ xs) (IsPermutation-to_front xs x) h in
    (IsDistinct-tail nat_eq x xs d, present x xs (IsDistinct-head nat_eq x xs d))

pub last_below : (n : ℕ) (marks : List Bool) (old : ListView ℕ) (xs : List ℕ) (page : ℕ) → IsWalk n marks old → old.elements ≡ xs ++ page ∷ [] → page < n
last_below n marks old xs page h e =
    marked_below n marks old h page (rw e (is_in-push xs page page ∙ ap (λ (b : Bool). is_in xs page || b) (same page) ∙ or_true (is_in xs page))) where
      same : (x : ℕ) → nat_eq x x ≡ true
      same x = grind (arith, nat_tests)

pub popped_walk : (n : ℕ) (marks : List Bool) (old new : ListView ℕ) (page : ℕ) → IsWalk n marks old → old.elements ≡ new.elements ++ page ∷ []
    → new.spare ≡ old.spare + 1 → IsWalk n (slice_set marks page false) new
popped_walk n marks old new page h e room =
    let parts = last_distinct new.elements page (subst (IsDistinct nat_eq) e h.once) in
    record {
      marks_for_all = length-set marks page false ∙ h.marks_for_all;
      marked = λ p. marked p (nat_eq p page) refl;
      once = parts.0;
      room = let l : length old.elements ≡ length new.elements + 1 = ap length e ∙ length-append new.elements (page ∷ []) in omega (arith, h.room);
    } where
      old_is : (p : ℕ) → is_in old.elements p ≡ (is_in new.elements p || nat_eq p page)
      old_is p = ap (λ (l : List ℕ). is_in l p) e ∙ is_in-push new.elements page p

      marked : (p : ℕ) (b : Bool) → nat_eq p page ≡ b → slice_index_or (slice_set marks page false) p false ≡ is_in new.elements p
      marked p true same =
          let is : p ≡ page = nat_eq_true p page same in
          let below : page < n = last_below n marks old new.elements page h e in
          let gone : is_in new.elements page ≡ false = (last_distinct new.elements page (subst (IsDistinct nat_eq) e h.once)).1 in
          get_or-set_at marks page p false false is (omega (arith, h.marks_for_all)) ∙ sym gone ∙ ap (is_in new.elements) (sym is)
      marked p false other =
          let is : p ≢ page = λ e. false≢true (sym other ∙ grind (arith, nat_tests)) in
          get_or-set_other marks page p false false is ∙ h.marked p ∙ old_is p ∙ ap (λ (b : Bool). is_in new.elements p || b) other
          ∙ or_false (is_in new.elements p)

-- no page was walked over yet
pub no_walk : (n : ℕ) (marks : List Bool) (walked : ListView ℕ) → marks ≡ replicate n false → walked.elements ≡ [] → n ≤ walked.spare → IsWalk n marks walked
unfolding IsDistinct
no_walk n marks walked e none room = record {
  marks_for_all = rw e (length-replicate n false);
  marked = λ p. rw (e, none) (cases p);
  once = rw none tt;
  room = omega arith;
} where
  cases : (p : ℕ) → slice_index_or (replicate n false) p false ≡ false
  cases p = grind (arith, common_steps)

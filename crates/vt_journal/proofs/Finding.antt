-- What a look-up finds.
use Rattle.std.proofs.Common.{◌≡◌, ◌≢◌, ℕ, suc, ◌-◌, ◌<◌, Bool, true, false, inl, inr, List, [], ◌∷◌, length, refl, sym, ap, ◌∙◌, arith, Option, Some, None, is_some, slice_get, get_or}
use Rattle.std.specs.List.{position_or_len}
use Rattle.std.proofs.lemmas.Bool.{cases_lt, false≢true}
use Rattle.std.proofs.lemmas.Option.{slice_get-get_or, slice_get_within, get_or_from_slice_get}
use Rattle.std.proofs.lemmas.List.Sums.{position_or_len_is, fails_before_first, passes_at_first}
use Rattle.vt_pages.specs.Shape.{Shape}
use Rattle.vt_pages.specs.Pages.{ancestors_of, root_of, level_of, levels_of}
use Rattle.vt_pages.specs.Laws.{ReachesRoot}
use Rattle.vt_pages.specs.Lookups.{pages_before, lookup}
use Rattle.vt_journal.specs.declared.changes.Change.{Change}
use Rattle.vt_journal.specs.declared.changes.Change.TheVariants.{Map, Unmap}
use Rattle.vt_journal.specs.Changes.{Table, changed}
use Rattle.vt_journal.specs.Lookups.{is_mapped, IsFirstMapped, IsFinest, change_page, IsAway}
use Rattle.vt_journal.proofs.Versions.{entry-other}

some_entry : (o : Option ℕ) → is_some o ≡ true → (f : ℕ) × (o ≡ Some f)
some_entry None e = absurd (false≢true e)
some_entry (Some f) e = (f, refl)

no_entry : (o : Option ℕ) → is_some o ≡ false → o ≡ None
no_entry None e = refl
no_entry (Some f) e = absurd (false≢true (sym e))

-- what is at the first place that passes
found_is_first : (m : Table) (ps : List ℕ) (a : ℕ) → slice_get ps (position_or_len (is_mapped m) ps) ≡ Some a
    → IsFirstMapped m ps a
found_is_first m ps a e =
    let place : ℕ = position_or_len (is_mapped m) ps in
    let within : place < length ps = slice_get_within ps place a e in
    let here : get_or ps place 0 ≡ a = get_or_from_slice_get ps place a 0 e in
    let entry = some_entry (m a) (ap (is_mapped m) (sym here) ∙ passes_at_first (is_mapped m) ps 0 within) in
    record {
      place = place;
      stands = e;
      frame = entry.0;
      mapped = entry.1;
      before = λ k q h is. no_entry (m q)
          (ap (is_mapped m) (sym (get_or_from_slice_get ps k q 0 is)) ∙ fails_before_first (is_mapped m) ps k 0 h);
    }

-- the place of the first mapped page is the first that passes
first_is_found : (m : Table) (ps : List ℕ) (a : ℕ) → IsFirstMapped m ps a
    → slice_get ps (position_or_len (is_mapped m) ps) ≡ Some a
first_is_found m ps a first =
    let within : first.place < length ps = slice_get_within ps first.place a first.stands in
    let here : get_or ps first.place 0 ≡ a = get_or_from_slice_get ps first.place a 0 first.stands in
    ap (slice_get ps) (position_or_len_is (is_mapped m) ps first.place 0 (omega arith)
    (λ k h. ap is_some (first.before k (get_or ps k 0) h (slice_get-get_or ps k 0 (omega arith))))
    (λ h. ap (is_mapped m) here ∙ ap is_some first.mapped)) ∙ first.stands

pub lookup-finest : (s : Shape) (m : Table) (p a : ℕ) → lookup s (is_mapped m) p ≡ Some a → IsFinest s m p a
unfolding lookup
lookup-finest s m p a e = found_is_first m (ancestors_of s p) a e

pub finest-lookup : (s : Shape) (m : Table) (p a : ℕ) → IsFinest s m p a → lookup s (is_mapped m) p ≡ Some a
unfolding lookup
finest-lookup s m p a first = first_is_found m (ancestors_of s p) a first

-- where the root is mapped, each page is found
pub root_found : (s : Shape) (m : Table) (p f : ℕ) → ReachesRoot s p → level_of s p < levels_of s → m (root_of s) ≡ Some f
    → (a : ℕ) × (lookup s (is_mapped m) p ≡ Some a)
unfolding lookup
root_found s m p f line inside mapped =
    let root : ℕ = levels_of s - 1 - level_of s p in
    let within : root < length (ancestors_of s p) = omega (arith, line.one_a_level) in
    let passes : is_mapped m (get_or (ancestors_of s p) root 0) ≡ true = ap (is_mapped m) line.ends ∙ ap is_some mapped in
    elim (cases_lt root (pages_before s (is_mapped m) p)) [
      | inl early ↦ absurd (false≢true (sym (fails_before_first (is_mapped m) (ancestors_of s p) root 0 early) ∙ passes))
      | inr late ↦ (
        get_or (ancestors_of s p) (pages_before s (is_mapped m) p) 0,
        slice_get-get_or (ancestors_of s p) (pages_before s (is_mapped m) p) 0 (omega arith),
      )
    ]

-- tests that agree at each page of a list have one first place
same_place : (f g : ℕ → Bool) (ps : List ℕ) → ((k q : ℕ) → slice_get ps k ≡ Some q → f q ≡ g q)
    → position_or_len f ps ≡ position_or_len g ps
same_place f g [] same = refl
same_place f g (p ∷ ps) same = rw (same 0 p refl, same_place f g ps (λ k q is. same (suc k) q is)) refl

pub changed_elsewhere : (m : Table) (c : Change) (q : ℕ) → q ≢ change_page c → changed m c q ≡ m q
changed_elsewhere m (Map page frame) q other = entry-other m page q (Some frame) other
changed_elsewhere m (Unmap page frame) q other = entry-other m page q None other

-- a change of a page that is not in a page's line changes nothing of its look-up
pub lookup_stays : (s : Shape) (m : Table) (c : Change) (p : ℕ) → IsAway (change_page c) (ancestors_of s p)
    → lookup s (is_mapped (changed m c)) p ≡ lookup s (is_mapped m) p
unfolding lookup
lookup_stays s m c p away =
    ap (slice_get (ancestors_of s p)) (same_place (is_mapped (changed m c)) (is_mapped m) (ancestors_of s p)
    (λ k q is. ap is_some (changed_elsewhere m c q (away k q is))))

-- Journals that keep the root mapped, as they grow.
use Rattle.std.proofs.Common.{◌≡◌, ◌≢◌, ℕ, ◌+◌, ◌≤◌, inl, inr, List, [], ◌∷◌, ◌++◌, length, sym, ap, ◌∙◌, subst, arith, Some, None, length-append}
use Rattle.std.proofs.lemmas.Bool.{cases_lt}
use Rattle.vt_journal.specs.declared.changes.Change.{Change}
use Rattle.vt_journal.specs.declared.changes.Change.TheVariants.{Map, Unmap}
use Rattle.vt_journal.specs.Changes.{Table, with_entry, changed, at, newest, Keeps}
use Rattle.vt_journal.proofs.Versions.{slice_get-push, at-front, newest-more, entry-same, entry-other, same_page}
use Rattle.vt_grace.specs.Changes.{IsNextKeeping, AreInTurnKeeping}

-- version 0 has no change
pub legal-none : (s : ℕ) → AreInTurnKeeping s []
legal-none s v c is = cc

-- and a change more, that may come next and keeps the root
pub legal-more : (s : ℕ) (js : List Change) (c : Change) → AreInTurnKeeping s js → IsNextKeeping s (newest js) c
    → AreInTurnKeeping s (js ++ c ∷ [])
legal-more s js c all next v change is =
    elim (slice_get-push js c v change is) [
      | inl (low, before) ↦ subst (λ (m : Table). IsNextKeeping s m change) (sym (at-front js (c ∷ []) v (omega (arith, low)))) (all v change before)
      | inr (last, same) ↦
          let table : newest js ≡ at (js ++ c ∷ []) v = sym (at-front js (c ∷ []) (length js) (omega arith)) ∙ ap (at (js ++ c ∷ [])) (sym last) in
          subst (λ (m : Table). IsNextKeeping s m change) table (subst (IsNextKeeping s (newest js)) same next)
    ]

-- a page that no change unmaps stays mapped
kept_mapped : (root : ℕ) (m : Table) (c : Change) → Keeps root c → m root ≢ None → changed m c root ≢ None
kept_mapped root m (Map page frame) keeps was e =
    elim (same_page root page) [
      | inl same ↦ let s : Some frame ≡ None = sym (entry-same m page (Some frame)) ∙ ap (with_entry m page (Some frame)) (sym same) ∙ e in cc
      | inr other ↦ was (sym (entry-other m page root (Some frame) other) ∙ e)
    ]
kept_mapped root m (Unmap page frame) keeps was e = was (sym (entry-other m page root None (λ same. keeps (sym same))) ∙ e)

-- once the root is mapped, it stays so
pub root_stays : (root : ℕ) (js : List Change) (c : Change) (given : ℕ) → given ≤ length js → IsNextKeeping root (newest js) c
    → ((v : ℕ) → given ≤ v → v ≤ length js → at js v root ≢ None)
    → (v : ℕ) → given ≤ v → v ≤ length (js ++ c ∷ []) → at (js ++ c ∷ []) v root ≢ None
root_stays root js c given low next before v from to =
    elim (cases_lt v (length js + 1)) [
      | inl under ↦ subst (λ (m : Table). m root ≢ None) (sym (at-front js (c ∷ []) v (omega arith))) (before v from (omega arith))
      | inr over ↦
          let count : length (js ++ c ∷ []) ≡ length js + 1 = length-append js (c ∷ []) in
          let last : length (js ++ c ∷ []) ≡ v = omega arith in
          subst (λ (m : Table). m root ≢ None) (sym (newest-more js c) ∙ ap (at (js ++ c ∷ [])) last)
          (kept_mapped root (newest js) c next.1 (before (length js) low (omega arith)))
    ]

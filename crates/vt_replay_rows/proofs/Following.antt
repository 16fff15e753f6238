-- A table that follows a journal, one change further.
use Rattle.std.proofs.Common.{◌≡◌, ◌⊎◌, ℕ, ◌+◌, ◌-◌, ◌<◌, ◌≤◌, inl, inr, List, length, get_or, replicate, Some, sym, ap, ◌∙◌, subst, arith}
use Rattle.std.specs.Prelude.{slice_get}
use Rattle.std.proofs.lemmas.Bool.{cases_lt}
use Rattle.std.proofs.lemmas.List.{get_or-replicate, get_or_past, length-replicate}
use Rattle.std.proofs.lemmas.Option.{slice_get_within}
use Rattle.vt_pages.specs.Shape.{Shape}
use Rattle.vt_pages.specs.Pages.{pages_of}
use Rattle.vt_journal.specs.declared.changes.Change.{Change}
use Rattle.vt_journal.specs.Changes.{Table, at, changed, nothing_mapped, AreInTurn, IsOneToOne}
use Rattle.vt_journal.specs.Kept.{entries_of}
use Rattle.vt_journal.proofs.Versions.{at-next, one_to_one}
use Rattle.vt_table.proofs.Keeping.{entries_none}
use Rattle.vt_replay_rows.specs.Following.{Follows}

pub follows_more : (s : Shape) (js : List Change) (entries new : List ℕ) (made : ℕ) (change : Change) → AreInTurn js → Follows s js entries made
    → slice_get js (made + 1 - 1) ≡ Some change → length new ≡ length entries → entries_of new ≡ changed (entries_of entries) change
    → Follows s js new (made + 1)
follows_more s js entries new made change turn h is size now =
    let here : slice_get js made ≡ Some change = ap (slice_get js) (let e : made ≡ made + 1 - 1 = omega arith in e) ∙ is in
    let within : made < length js = slice_get_within js made change here in
    let agrees : entries_of new ≡ at js (made + 1) = now ∙ ap (λ (m : Table). changed m change) h.agrees ∙ sym (at-next js made change here) in
    record {
      all_entries = size ∙ h.all_entries;
      inside = omega (arith, within);
      agrees = agrees;
      apart = subst IsOneToOne (sym agrees) (one_to_one js (made + 1) turn (omega (arith, within)));
    }

pub follows_first : (s : Shape) (js : List Change) (entries : List ℕ) (n : ℕ) → length entries ≡ pages_of s → entries ≡ replicate n 0
    → Follows s js entries 0
unfolding at
follows_first s js entries n size all = record {
  all_entries = size;
  inside = omega arith;
  agrees = none_mapped;
  apart = subst IsOneToOne (sym none_mapped) (λ p q frame at _. cc);
}
  where
    zero_at : (k : ℕ) → ((k < n) ⊎ (n ≤ k)) → get_or entries k 0 ≡ 0
    zero_at k (inl below) = ap (λ (l : List ℕ). get_or l k 0) all ∙ get_or-replicate n k 0 0 below
    zero_at k (inr past) = ap (λ (l : List ℕ). get_or l k 0) all ∙ get_or_past (replicate n 0) k 0 (omega (arith, length-replicate {A = ℕ} n 0))

    none_mapped : entries_of entries ≡ nothing_mapped
    none_mapped = entries_none entries (λ k. zero_at k (cases_lt k n))

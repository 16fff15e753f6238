-- Since when frames are free, as changes are published.
use Rattle.std.proofs.Common.{◌≡◌, ℕ, zero, suc, ◌+◌, ◌-◌, ◌<◌, ◌≤◌, inl, inr, List, [], ◌∷◌, ◌++◌, length, get_or, set, sym, ap, ◌∙◌, subst, arith, slice_get, length-append, get_or-set_same, get_or-set_other}
use Rattle.std.proofs.lemmas.Bool.{cases_lt}
use Rattle.vt_table.specs.JournalTypes.changes.Change.{Change}
use Rattle.vt_table.specs.JournalTypes.changes.Change.TheVariants.{Map, Unmap}
use Rattle.vt_table.specs.Changes.{Table, at, newest, IsFree, IsNext, IsOneToOne, AreInTurn}
use Rattle.vt_table.proofs.Versions.{at-front, newest-more, slice_get-front, slice_get-seam, free_after_map, free_after_unmap, same_page}
use Rattle.vt_grace.specs.declared.views.WriterView.{WriterView}
use Rattle.vt_grace.specs.WriterViews.{version_of, floor_of}
use Rattle.vt_grace.specs.Banks.{MayFill}
use Rattle.vt_streamer.specs.Frees.{IsFreeFrom, IsUnmappedBy, IsFreeSince, since_after}

-- a frame that stays free as a change is published
from_more : (js : List Change) (c : Change) (frame since : ℕ) → IsFreeFrom js frame since → IsFree (newest (js ++ c ∷ [])) frame → IsFreeFrom (js ++ c ∷ []) frame since
from_more js c frame since was now v page from to =
    elim (cases_lt v (length js + 1)) [
      | inl under ↦ λ e. was v page from (omega arith) (ap (λ (m : Table). m page) (sym (at-front js (c ∷ []) v (omega arith))) ∙ e)
      | inr over ↦
          let count : length (js ++ c ∷ []) ≡ length js + 1 = length-append js (c ∷ []) in
          let last : length (js ++ c ∷ []) ≡ v = omega arith in
          λ e. now page (ap (λ (u : ℕ). at (js ++ c ∷ []) u page) last ∙ e)
    ]

since_more : (js : List Change) (c : Change) (frame since : ℕ) → IsFreeSince js frame since → IsFree (newest (js ++ c ∷ [])) frame
    → IsFreeSince (js ++ c ∷ []) frame since
since_more js c frame zero was now = from_more js c frame 0 was now
since_more js c frame (suc v) was now = let count : length (js ++ c ∷ []) ≡ length js + 1 = length-append js (c ∷ []) in let known = was.known in record {
  some = was.some;
  known = omega arith;
  page = was.page;
  change = slice_get-front js (c ∷ []) (suc v - 1) (omega arith) ∙ was.change;
  free = from_more js c frame (suc v) was.free now;
}

-- a frame that a change unmaps
since_now : (js : List Change) (page frame : ℕ) → IsFree (newest (js ++ Unmap page frame ∷ [])) frame
    → IsFreeSince (js ++ Unmap page frame ∷ []) frame (length js + 1)
since_now js page frame now = let next : suc (length js) ≡ length js + 1 = omega arith in
    let count : length (js ++ Unmap page frame ∷ []) ≡ length js + 1 = length-append js (Unmap page frame ∷ []) in
    let here : length js ≡ suc (length js) - 1 = omega arith in
    subst (IsFreeSince (js ++ Unmap page frame ∷ []) frame) next record {
      some = omega arith;
      known = omega arith;
      page = page;
      change = ap (slice_get (js ++ Unmap page frame ∷ [])) (sym here) ∙ slice_get-seam js (Unmap page frame) [];
      free = λ v p from to e. let last : v ≡ length (js ++ Unmap page frame ∷ []) = omega arith in
          now p (ap (λ (u : ℕ). at (js ++ Unmap page frame ∷ []) u p) (sym last) ∙ e);
    }

-- the numbers of all frames, after a change
pub free_more : (js : List Change) (c : Change) (n : ℕ) (since : List ℕ) → IsOneToOne (newest js) → IsNext (newest js) c → length since ≡ n
    → ((f : ℕ) → f < n → IsFree (newest js) f → IsFreeSince js f (get_or since f 0)) → (f : ℕ) → f < n → IsFree (newest (js ++ c ∷ [])) f
    → IsFreeSince (js ++ c ∷ []) f (get_or (since_after since c (length js + 1)) f 0)
free_more js (Map page frame) n since one next long was f low now =
    let after = subst (λ (m : Table). IsFree m f) (newest-more js (Map page frame)) now in
    since_more js (Map page frame) f (get_or since f 0) (was f low ((free_after_map (newest js) page frame f next).0 after).1) now
free_more js (Unmap page frame) n since one next long was f low now =
    elim (same_page f frame) [
      | inl same ↦
          let number : get_or (set since frame (length js + 1)) f 0 ≡ length js + 1 =
          ap (λ (i : ℕ). get_or (set since frame (length js + 1)) i 0) same ∙ get_or-set_same since frame (length js + 1) 0 (omega arith) in
          subst (λ (x : ℕ × ℕ). IsFreeSince (js ++ Unmap page frame ∷ []) x.0 x.1) (λ i. (sym same i, sym number i))
          (since_now js page frame (subst (IsFree (newest (js ++ Unmap page frame ∷ []))) same now))
      | inr other ↦
          let after = subst (λ (m : Table). IsFree m f) (newest-more js (Unmap page frame)) now in
          let free : IsFree (newest js) f = elim ((free_after_unmap (newest js) page frame f one next).0 after) [ inl same ↦ absurd (other same) | inr still ↦ still ] in
          let number : get_or (set since frame (length js + 1)) f 0 ≡ get_or since f 0 = get_or-set_other since frame f (length js + 1) 0 other in
          subst (IsFreeSince (js ++ Unmap page frame ∷ []) f) (sym number) (since_more js (Unmap page frame) f (get_or since f 0) (was f low free) now)
    ]

-- a free frame may be filled once no floor is below the version that unmapped it
pub may_fill : (w : WriterView) (frame since : ℕ) → IsFreeSince w.journal frame since → ((k : ℕ) → k < w.sizes.samplers → since ≤ floor_of w k) → MayFill w frame
may_fill w frame zero free reached v inw page = free v page (omega arith) inw.0
may_fill w frame (suc s) free reached v inw page = let a = reached inw.1.0 inw.1.1 in let b = inw.1.2 in free.free v page (omega arith) inw.0

-- a number that is above another is of a version
pub unmapped_by : (js : List Change) (frame since holds : ℕ) → holds < since → IsFreeSince js frame since → IsUnmappedBy js frame since
unmapped_by js frame zero holds low free = absurd (omega arith)
unmapped_by js frame (suc v) holds low free = free

-- what was unmapped had been mapped
pub was_mapped : (js : List Change) (frame version : ℕ) → AreInTurn js → IsUnmappedBy js frame version → IsFreeFrom js frame 0 → ⊥
was_mapped js frame version turn h never = let some = h.some in let known = h.known in
    never (version - 1) h.page (omega arith) (omega arith) (turn (version - 1) (Unmap h.page frame) h.change)

-- the newest version is in the window, so a frame that may be filled is free
pub free_now : (w : WriterView) (frame : ℕ) → 0 < w.sizes.samplers → ((k : ℕ) → k < w.sizes.samplers → floor_of w k ≤ version_of w) → MayFill w frame → IsFree (newest w.journal) frame
free_now w frame some low may page = may (version_of w) (omega arith, (0, some, low 0 some)) page

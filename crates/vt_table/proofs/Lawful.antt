-- When a page table is lawful, after each of its calls.
use Rattle.std.proofs.Common.{◌≡◌, ◌≢◌, ℕ, ◌+◌, ◌≤◌, ◌<◌, inl, inr, Some, None, List, [], ◌∷◌, ◌++◌, length, set, sym, ap, ◌∙◌, subst, arith, length-set, get_or-set_other}
use Rattle.vt_journal.specs.Limits.{most_frames}
use Rattle.vt_journal.specs.Shape.{Shape}
use Rattle.vt_journal.specs.Pages.{pages_of, IsWithinLimits}
use Rattle.vt_journal.specs.declared.changes.Change.{Change}
use Rattle.vt_journal.specs.declared.changes.Change.TheVariants.{Map, Unmap}
use Rattle.vt_journal.specs.Changes.{Table, newest, changed, IsFree, IsLegalNext, AreLegal}
use Rattle.vt_journal.specs.Kept.{entry_of}
use Rattle.vt_journal.proofs.Versions.{newest-none, legal-none, legal-more, in_turn-legal, one_to_one, entry-other, mapped_after_map, mapped_after_unmap}
use Rattle.vt_table.specs.Views.{TableView, IsTable, IsTableChange, IsReady, filled_for, filled_after}

-- what a change that is legal next leaves of a table
pub record Follows (v w : TableView) (change : Change) : Type 0 where
  pub shape : w.shape ≡ v.shape
  pub frames : w.frames ≡ v.frames
  pub changes : newest w.changes ≡ changed (newest v.changes) change
  pub owners : filled_for w ≡ filled_after (filled_for v) change

pages_after : (v w : TableView) (change : Change) → Follows v w change → IsTable v → IsTableChange v change
    → (p f : ℕ) → newest w.changes p ≡ Some f → p < pages_of v.shape
pages_after v w (Map page frame) h t within p f e =
    elim (mapped_after_map (newest v.changes) page frame p f (sym (ap (λ (m : Table). m p) h.changes) ∙ e)) [
      | inl (same, is) ↦ omega (arith, within.page_inside, same)
      | inr (other, was) ↦ t.pages_inside p f was
    ]
pages_after v w (Unmap page frame) h t within p f e =
    t.pages_inside p f (mapped_after_unmap (newest v.changes) page frame p f (sym (ap (λ (m : Table). m p) h.changes) ∙ e)).1

frames_after : (v w : TableView) (change : Change) → Follows v w change → IsTable v → IsTableChange v change
    → (p f : ℕ) → newest w.changes p ≡ Some f → f < v.frames
frames_after v w (Map page frame) h t within p f e =
    elim (mapped_after_map (newest v.changes) page frame p f (sym (ap (λ (m : Table). m p) h.changes) ∙ e)) [
      | inl (same, is) ↦ omega (arith, within.frame_inside, is)
      | inr (other, was) ↦ t.frames_inside p f was
    ]
frames_after v w (Unmap page frame) h t within p f e =
    t.frames_inside p f (mapped_after_unmap (newest v.changes) page frame p f (sym (ap (λ (m : Table). m p) h.changes) ∙ e)).1

filled_still : (v w : TableView) (change : Change) → Follows v w change → IsTable v → IsReady v change → IsLegalNext v.shape (newest v.changes) change
    → (p f : ℕ) → newest w.changes p ≡ Some f → filled_for w f ≡ Some p
filled_still v w (Map page frame) h t ready legal p f e =
    ap (λ (m : Table). m f) h.owners
    ∙ elim (mapped_after_map (newest v.changes) page frame p f (sym (ap (λ (m : Table). m p) h.changes) ∙ e)) [
      | inl (same, is) ↦ ap (filled_for v) (sym is) ∙ ready ∙ ap Some (sym same)
      | inr (other, was) ↦ t.filled p f was
    ]
filled_still v w (Unmap page frame) h t ready legal p f e =
    let was = mapped_after_unmap (newest v.changes) page frame p f (sym (ap (λ (m : Table). m p) h.changes) ∙ e) in
    let other : f ≢ frame = λ is. was.0 (t.one_to_one p page f was.1 (legal.0 ∙ ap Some (sym is))) in
    ap (λ (m : Table). m f) h.owners ∙ entry-other (filled_for v) frame f None other ∙ t.filled p f was.1

-- a lawful table over more spare room
pub table_spared : (v : TableView) (spare : ℕ) → IsTable v → IsTable (record v { spare = spare })
table_spared v spare t = record {
  limits = t.limits;
  some_frame = t.some_frame;
  few_frames = t.few_frames;
  legal = t.legal;
  one_to_one = t.one_to_one;
  pages_inside = t.pages_inside;
  frames_inside = t.frames_inside;
  filled = t.filled;
}

-- one of which a free frame was filled
pub table_filled : (s : Shape) (js : List Change) (n frame page : ℕ) (tiles new_tiles : List (List ℕ)) (owners : List ℕ) → IsFree (newest js) frame
    → IsTable (record { shape = s; frames = length owners; changes = js; spare = n; tiles = tiles; owners = owners })
    → (let filled : List ℕ = set owners frame (page + 1) in
    IsTable (record { shape = s; frames = length filled; changes = js; spare = n; tiles = new_tiles; owners = filled }))
table_filled s js n frame page tiles new_tiles owners free t = let frames = length-set owners frame (page + 1) in record {
  limits = t.limits;
  some_frame = omega (arith, t.some_frame, frames);
  few_frames = omega (arith, t.few_frames, frames);
  legal = t.legal;
  one_to_one = t.one_to_one;
  pages_inside = t.pages_inside;
  frames_inside = λ p f e. omega (arith, t.frames_inside p f e, frames);
  filled = λ p f e.
      let other : f ≢ frame = λ is. free p (e ∙ ap Some is) in
      ap entry_of (get_or-set_other owners frame f (page + 1) 0 other) ∙ t.filled p f e;
}

-- one after a change
pub table_published : (v w : TableView) (change : Change) → Follows v w change → w.changes ≡ v.changes ++ change ∷ [] → IsTable v → IsTableChange v change
    → IsLegalNext v.shape (newest v.changes) change → IsReady v change → IsTable w
table_published v w change h grown t within legal ready = record {
  limits = subst IsWithinLimits (sym h.shape) t.limits;
  some_frame = omega (arith, t.some_frame, h.frames);
  few_frames = omega (arith, t.few_frames, h.frames);
  legal = lawful;
  one_to_one = one_to_one w.changes (length w.changes) (in_turn-legal w.shape w.changes lawful) (omega arith);
  pages_inside = λ p f e. subst (λ (s : Shape). p < pages_of s) (sym h.shape) (pages_after v w change h t within p f e);
  frames_inside = λ p f e. omega (arith, frames_after v w change h t within p f e, h.frames);
  filled = filled_still v w change h t ready legal;
}
  where
    lawful : AreLegal w.shape w.changes
    lawful = subst (λ (x : Shape × List Change). AreLegal x.0 x.1) (λ i. (sym h.shape i, sym grown i)) (legal-more v.shape v.changes change t.legal legal)

-- and one of version 0
pub table_none : (v : TableView) → IsWithinLimits v.shape → v.changes ≡ [] → 1 ≤ v.frames → v.frames ≤ most_frames → IsTable v
table_none v limits empty some few = record {
  limits = limits;
  some_frame = some;
  few_frames = few;
  legal = subst (AreLegal v.shape) (sym empty) (legal-none v.shape);
  one_to_one = λ p q f e. absurd (nowhere p f e);
  pages_inside = λ p f e. absurd (nowhere p f e);
  frames_inside = λ p f e. absurd (nowhere p f e);
  filled = λ p f e. absurd (nowhere p f e);
}
  where
    nowhere : (p f : ℕ) → newest v.changes p ≡ Some f → ⊥
    nowhere p f e = let none : newest v.changes p ≡ None = ap (λ (l : List Change). newest l p) empty ∙ newest-none p in let s : None ≡ Some f = sym none ∙ e in cc

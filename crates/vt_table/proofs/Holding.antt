-- The tiles that mapped pages' frames hold.
use Rattle.std.proofs.Common.{◌≡◌, ◌≢◌, ℕ, inl, inr, Some, List, [], ◌∷◌, ◌++◌, sym, ap, ◌∙◌}
use Rattle.std.specs.Prelude.{slice_index_or}
use Rattle.vt_journal.specs.declared.changes.Change.{Change}
use Rattle.vt_journal.specs.declared.changes.Change.TheVariants.{Map, Unmap}
use Rattle.vt_journal.specs.Changes.{Table, newest, changed, IsFree}
use Rattle.vt_journal.proofs.Versions.{newest-more, mapped_after_map, mapped_after_unmap}
use Rattle.vt_table.specs.Views.{TableView, tile_of, HoldsTiles, BringsTile}

pub held_filled : (tiles : ℕ → List ℕ) (v w : TableView) (frame : ℕ) → HoldsTiles tiles v → IsFree (newest v.changes) frame
    → w.changes ≡ v.changes → ((f : ℕ) → f ≢ frame → tile_of w f ≡ tile_of v f) → HoldsTiles tiles w
held_filled tiles v w frame held free same others p f e =
    let was : newest v.changes p ≡ Some f = ap (λ (js : List Change). newest js p) (sym same) ∙ e in
    others f (λ is. free p (was ∙ ap Some is)) ∙ held p f was

pub held_published : (tiles : ℕ → List ℕ) (v w : TableView) (change : Change) → HoldsTiles tiles v → BringsTile tiles v change
    → w.changes ≡ v.changes ++ change ∷ [] → w.tiles ≡ v.tiles → HoldsTiles tiles w
held_published tiles v w (Map page frame) held brings grown same p f e =
    let next : newest w.changes ≡ changed (newest v.changes) (Map page frame) = ap newest grown ∙ newest-more v.changes (Map page frame) in
    ap (λ (ts : List (List ℕ)). slice_index_or ts f []) same
    ∙ elim (mapped_after_map (newest v.changes) page frame p f (sym (ap (λ (m : Table). m p) next) ∙ e)) [
      | inl (here, is) ↦ ap (tile_of v) (sym is) ∙ brings ∙ ap tiles (sym here)
      | inr (other, was) ↦ held p f was
    ]
held_published tiles v w (Unmap page frame) held brings grown same p f e =
    let next : newest w.changes ≡ changed (newest v.changes) (Unmap page frame) = ap newest grown ∙ newest-more v.changes (Unmap page frame) in
    ap (λ (ts : List (List ℕ)). slice_index_or ts f []) same
    ∙ held p f (mapped_after_unmap (newest v.changes) page frame p f (sym (ap (λ (m : Table). m p) next) ∙ e)).1

-- What may be placed and streamed in the passes of the tests.
use Rattle.std.proofs.Common.{◌≡◌, ◌≢◌, ℕ, zero, suc, ◌<◌, ◌≤◌, inl, inr, None, Some, Ok, List, [], ◌∷◌, length, refl, sym, ap, ◌∙◌, subst, arith}
use Rattle.std.proofs.lemmas.Option.{none-some}
use Rattle.std.specs.Prelude.{IfSome, All, AllPairs}
use Rattle.vt_outside.specs.declared.outside.File.{Ghosts as FileMeanings}
use Rattle.vt_outside.specs.Files.{IsPiece}
use Rattle.vt_journal.specs.Shape.{Shape}
use Rattle.vt_journal.specs.Pages.{pages_of}
use Rattle.vt_journal.specs.declared.changes.Change.{Change}
use Rattle.vt_journal.specs.declared.changes.Change.TheVariants.{Map}
use Rattle.vt_journal.specs.Changes.{Table, changed, at, newest, IsFree, IsNext}
use Rattle.vt_journal.proofs.Versions.{newest-more, newest-none, mapped_after_map}
use Rattle.vt_tiles.specs.Format.{tile_length, tile_start}
use Rattle.vt_streamer.specs.TableViews.{IsTile}
use Rattle.vt_grace.specs.declared.sizes.Sizes.{Sizes}
use Rattle.vt_grace.specs.Values.{WordsValue}
use Rattle.vt_streamer.specs.Views.{StreamerView, IsStreamerOf}
use Rattle.vt_machine.specs.PlanTypes.batches.Planned.{Planned}
use Rattle.vt_machine.specs.Crews.{last_start}
use Rattle.vt_machine.specs.Machines.{known_bytes}
use Rattle.vt_machine.specs.Outcomes.{IsEntryFor, IsBatchFor}
use Rattle.vt_machine.specs.Passes.{MayPlace}
use Rattle.vt_pass.specs.declared.pass_kit.PassKit.{PassKit}
use Rattle.vt_pass.specs.PassKits.{kit_state, IsIdleKit}
use Rattle.vt_tests_walks.specs.Placed.{HasPlaced}
use Rattle.vt_tests_walks.proofs.Placing.{idle_placed}

-- in the first version each frame is free
pub free_at_first : (js : List Change) (frame : ℕ) → js ≡ [] → IsFree (newest js) frame
free_at_first js frame none p is = absurd (none-some frame (sym (newest-none p) ∙ ap (λ (x : List Change). newest x p) (sym none) ∙ is))

-- and each page may be mapped to each
pub next_at_first : (js : List Change) (page frame : ℕ) → js ≡ [] → IsNext (newest js) (Map page frame)
next_at_first js page frame none = (ap (λ (x : List Change). newest x page) none ∙ newest-none page, free_at_first js frame none)

-- where only page 4 is mapped, to the first frame, the others are free
free_behind : (frame : ℕ) → 1 ≤ frame → IsFree (newest (Map 4 0 ∷ [])) frame
free_behind frame some p is =
    let mapped : changed (newest []) (Map 4 0) p ≡ Some frame = ap (λ (m : Table). m p) (sym (newest-more [] (Map 4 0))) ∙ is in
    elim (mapped_after_map (newest []) 4 0 p frame mapped) [
      | inl root ↦ absurd (let first = root.1 in omega (arith, first, some))
      | inr other ↦ absurd (none-some frame (sym (newest-none p) ∙ other.1))
    ]

-- the entries for the pages 0 and 2
abbrev two : List Planned
two = record { page = 0; frame = 1; victim = None } ∷ record { page = 2; frame = 2; victim = None } ∷ []

-- are lawful then
pub two_lawful : (s : Shape) (frames : ℕ) (js : List Change) (batch : List Planned) → pages_of s ≡ 5 → frames ≡ 3 → js ≡ Map 4 0 ∷ [] → batch ≡ two
    → IsBatchFor s frames (newest js) batch
unfolding at
two_lawful s frames js batch pages frames_are js_are batch_is =
    subst (λ (x : ℕ × List Change × List Planned). IsBatchFor s x.0 (newest x.1) x.2) (λ i. (sym frames_are i, sym js_are i, sym batch_is i))
    (record { each = each; apart = apart }) where
      each : All (IsEntryFor s 3 (newest (Map 4 0 ∷ []))) two
      each zero d inside = record { page_inside = omega (arith, pages); unmapped = refl; frame_inside = omega arith; place = free_behind 1 (omega arith) }
      each (suc zero) d inside = record { page_inside = omega (arith, pages); unmapped = refl; frame_inside = omega arith; place = free_behind 2 (omega arith) }
      each (suc (suc k)) d inside = absurd (omega (arith, inside))

      apart : AllPairs (λ (a b : Planned). (a.page ≢ b.page) × (a.frame ≢ b.frame)) two
      apart zero zero d low high = absurd (omega (arith, low))
      apart zero (suc zero) d low high = (λ e. omega (arith, e), λ e. omega (arith, e))
      apart zero (suc (suc k)) d low high = absurd (omega (arith, high))
      apart (suc i) j d low high = absurd (omega (arith, low, high))

module _ {F : Type 0} (g : FileMeanings F) (words : WordsValue) (v : StreamerView) (k : PassKit F) (tile : List ℕ) (idle : IsIdleKit g words v k)
    (size : length tile ≡ tile_length k.streams.shape 1) where
  -- bytes for a tile of the pool are a tile of the streamer
  pub is_tile : IsTile v.shape tile
  is_tile = subst (λ (s : Shape). IsTile s tile) (sym idle.fit.shape) (record { depth = 1; lawful = inl refl; full = omega (arith, size) })

  -- the root may be placed before all other pages
  may_place : v.writer.journal ≡ [] → pages_of v.shape ≡ 5 → length v.owners ≡ 3 → k.streams.depth ≡ 1
      → IfSome (known_bytes g k.streams.stores) (λ b. IsPiece b (tile_start k.streams.shape 1 4) tile) → MayPlace (kit_state g words v.writer.journal k) 4 0 tile
  may_place none pages frames depth of_store = record {
    page_inside = subst (λ (s : Shape). 4 < pages_of s) idle.fit.shape (omega (arith, pages));
    frame_inside = (let some = ap (λ (z : Sizes). z.frames) idle.fit.of.sizes in omega (arith, some, frames));
    next = next_at_first v.writer.journal 4 0 none;
    early = subst (λ (js : List Change). length js ≤ last_start) (sym none) (omega arith);
    size = subst (λ d. length tile ≡ tile_length k.streams.shape d) (sym depth) size;
    of_store = subst (λ d. IfSome (known_bytes g k.streams.stores) (λ b. IsPiece b (tile_start k.streams.shape d 4) tile)) (sym depth) of_store;
  }

  -- and the pool is idle then
  pub root_placed : (w : StreamerView) → v.writer.journal ≡ [] → pages_of v.shape ≡ 5 → length v.owners ≡ 3 → k.streams.depth ≡ 1
      → IfSome (known_bytes g k.streams.stores) (λ b. IsPiece b (tile_start k.streams.shape 1 4) tile) → IsStreamerOf words w → HasPlaced v w 4 0 tile → IsIdleKit g words w k
  root_placed w none pages frames depth of_store of placed =
      idle_placed g words v w k 4 0 tile idle of (may_place none pages frames depth of_store) placed

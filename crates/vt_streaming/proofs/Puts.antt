-- Results that are applied to words.
use Rattle.std.proofs.Common.{◌≡◌, ℕ, ◌*◌, inl, inr, Bool, true, false, Option, Some, None, List, [], ◌∷◌, ◌++◌, length, refl, sym, ap, ◌∙◌, subst}
use Rattle.std.specs.Prelude.{All, slice_get, ◌||◌, nat_eq}
use Rattle.std.proofs.lemmas.Bool.{false≢true}
use Rattle.std.proofs.lemmas.List.{append-nil}
use Rattle.std.proofs.lemmas.List.Elements.{All-weaker}
use Rattle.std.proofs.lemmas.Grind.{flat_map-append}
use Rattle.vt_journal.specs.Shape.{Shape}
use Rattle.vt_journal.specs.declared.changes.Event.{Event}
use Rattle.vt_streamer.specs.TableViews.{IsTile}
use Rattle.vt_streamer.specs.Views.{StreamerView}
use Rattle.vt_requests.specs.PlanTypes.batches.Planned.{Planned}
use Rattle.vt_queue.specs.declared.items.Loaded.{Loaded}
use Rattle.vt_requests.specs.Readings.{is_lost}
use Rattle.vt_requests.specs.Outcomes.{group_if}
use Rattle.vt_requests.specs.BatchRounds.{result_group, result_events}
use Rattle.vt_requests.specs.TakenResults.{is_tile_length}
use Rattle.vt_streaming.specs.Applied.{IsAppliedAt, IsApplied, AreApplied}
use Rattle.vt_streaming.specs.Made.{HasMade, HasPut, HasStreamed, contents_if, result_contents, results_contents}
use Rattle.vt_streaming.proofs.Applying.{so_of_all}
use Rattle.vt_streaming.proofs.Making.{made_none, made_both}
use Rattle.vt_streaming.proofs.Taking.{same}

-- buffers of the length of a tile are tiles
tile_of_length : (s : Shape) (tile : List ℕ) (a b : Bool) → nat_eq (length tile) (3 * (s.tile * s.tile)) ≡ a → nat_eq (length tile) (6 * (s.tile * s.tile)) ≡ b
    → (a || b) ≡ true → IsTile s tile
tile_of_length s tile true b narrow wide e = record { depth = 1; lawful = inl refl; full = same _ _ narrow }
tile_of_length s tile false true narrow wide e = record { depth = 2; lawful = inr refl; full = same _ _ wide }
tile_of_length s tile false false narrow wide e = absurd (false≢true e)

pub is_tile : (s : Shape) (tile : List ℕ) → is_tile_length s (length tile) ≡ true → IsTile s tile
is_tile s tile is = tile_of_length s tile _ _ refl refl is

pub are_tiles : (s : Shape) (results : List Loaded) → All (λ x. is_tile_length s (length x.request.buffer.elements) ≡ true) results
    → All (λ x. IsTile s x.request.buffer.elements) results
are_tiles s results are =
    All-weaker (λ (x : Loaded). is_tile_length s (length x.request.buffer.elements) ≡ true) (λ (x : Loaded). IsTile s x.request.buffer.elements)
    (λ x is. is_tile s x.request.buffer.elements is) results are

-- a result that was applied made its changes
applied_made : (o : Option Planned) (lost : Bool) (tile : List ℕ) (v w : StreamerView) → IsAppliedAt HasPut o lost tile v w
    → (w.shape ≡ v.shape) × HasMade (group_if o lost) (contents_if v.shape o lost tile) v.writer w.writer
applied_made None lost tile v w none =
    (ap (λ (x : StreamerView). x.shape) none, subst (λ (x : StreamerView). HasMade [] [] v.writer x.writer) (sym none) (made_none v.writer))
applied_made (Some e) true tile v w none = (
  ap (λ (x : StreamerView). x.shape) none,
  subst (λ (x : StreamerView). HasMade (group_if (Some e) true) [] v.writer x.writer) (sym none)
      (record { journal = sym (append-nil v.writer.journal); contents = sym (append-nil v.writer.contents); rest = refl }),
)
applied_made (Some e) false tile v w put = (put.shape, put.made)

-- and so did all
module _ (batch : List Planned) (start : StreamerView) where
  streamed_more : (results : List Loaded) (x : Loaded) (v w : StreamerView)
      → (v.shape ≡ start.shape) × HasStreamed start.shape batch results start.writer v.writer → IsApplied HasPut batch x v w
      → (w.shape ≡ start.shape) × HasStreamed start.shape batch (results ++ x ∷ []) start.writer w.writer
  streamed_more results x v w all one =
      let did = applied_made (slice_get batch x.request.ticket) (is_lost x.outcome) x.request.buffer.elements v w one in
      let events : result_events batch (results ++ x ∷ []) ≡ result_events batch results ++ result_group batch x =
      flat_map-append (result_group batch) results (x ∷ []) ∙ ap (λ (l : List Event). result_events batch results ++ l) (append-nil (result_group batch x)) in
      let contents : results_contents start.shape batch (results ++ x ∷ [])
      ≡ results_contents start.shape batch results ++ result_contents start.shape batch x =
      flat_map-append (result_contents start.shape batch) results (x ∷ [])
      ∙ ap (λ (l : List (List ℕ)). results_contents start.shape batch results ++ l) (append-nil (result_contents start.shape batch x)) in
      let made : HasMade (result_group batch x) (result_contents start.shape batch x) v.writer w.writer =
      subst (λ (s : Shape). HasMade (result_group batch x) (result_contents s batch x) v.writer w.writer) all.0 did.1 in (
        did.0 ∙ all.0,
        subst (λ (z : List Event × List (List ℕ)). HasMade z.0 z.1 start.writer w.writer) (λ i. (sym events i, sym contents i))
            (made_both _ _ _ _ start.writer v.writer w.writer all.1 made),
      )

  pub all_streamed : (results : List Loaded) (w : StreamerView) → AreApplied HasPut batch results start w
      → HasStreamed start.shape batch results start.writer w.writer
  all_streamed results w applied =
      (so_of_all HasPut batch (λ (l : List Loaded) (v : StreamerView). (v.shape ≡ start.shape) × HasStreamed start.shape batch l start.writer v.writer)
      streamed_more results start w (refl, made_none start.writer) applied).1

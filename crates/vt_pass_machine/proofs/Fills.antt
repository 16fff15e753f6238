-- Pages that are filled while a page is placed or a batch streamed are filled with tiles of the store.
use Rattle.std.proofs.Common.{◌≡◌, ℕ, ◌*◌, false, inl, inr, ◌⊎◌, List, length, Option, refl, sym, ◌∙◌, subst}
use Rattle.std.specs.Prelude.{All, IfSome}
use Rattle.std.proofs.lemmas.Bool.{false≢true}
use Rattle.std.proofs.lemmas.List.Elements.{All-contains}
use Rattle.vt_outside.specs.Files.{IsPiece}
use Rattle.vt_load.specs.Shape.{Shape}
use Rattle.vt_load.specs.Format.{tile_length, tile_start}
use Rattle.vt_load.specs.QueueTypes.items.Loaded.{Loaded}
use Rattle.vt_load.specs.QueueTypes.items.Outcome.{Outcome}
use Rattle.vt_load.specs.QueueTypes.items.Outcome.TheVariants.{Read, Lost}
use Rattle.vt_load.specs.Readings.{is_lost}
use Rattle.vt_load.specs.Results.{IsGood}
use Rattle.vt_loading.specs.PlanTypes.batches.Planned.{Planned}
use Rattle.vt_loading.specs.BatchRounds.{IsResultOf}
use Rattle.vt_pass_pool.specs.Fills.{AreTexelWords, IsStoredPage, AreStoredPages, FillsOne}
use Rattle.vt_pass_pool.specs.Streamed.{area, IsFillOf, FillsOf}

was_read : (o : Outcome) → is_lost o ≡ false → o ≡ Read
was_read Read e = refl
was_read Lost e = absurd (false≢true (sym e))

module _ (s : Shape) (d : ℕ) (known : Option (List ℕ)) (before after : ℕ → List ℕ → Type 0) (old : AreStoredPages s d known before) where
  -- from results that are good
  pub results_stored : (batch : List Planned) (results : List Loaded) → FillsOf d (area s) batch results before after → All (IsResultOf batch) results
      → All (IsGood known s d) results → AreStoredPages s d known after
  results_stored batch results fills entries good page words is = by_case (fills page words is) where
    by_case : before page words ⊎ IsFillOf d (area s) batch results page words → IsStoredPage s d known page words
    by_case (inl was) = old page words was
    by_case (inr fill) =
        let entry = All-contains (IsResultOf batch) results fill.result entries fill.among in
        let tile = All-contains (IsGood known s d) results fill.result good fill.among in
        record {
          tile = fill.result.request.buffer.elements;
          size = tile.size;
          of_store = subst (λ (p : ℕ). IfSome known (λ b. IsPiece b (tile_start s d p) fill.result.request.buffer.elements))
              (entry.page ∙ fill.page_is) (tile.tile (was_read fill.result.outcome fill.read));
          words_of = fill.words_of;
        }

  -- from a tile of the store
  pub placed_stored : (page : ℕ) (tile : List ℕ) → FillsOne d (s.tile * s.tile) page tile before after → length tile ≡ tile_length s d
      → IfSome known (λ b. IsPiece b (tile_start s d page) tile) → AreStoredPages s d known after
  placed_stored one tile fills size of_store page words is = by_case (fills page words is) where
    by_case : before page words ⊎ ((page ≡ one) × AreTexelWords d (s.tile * s.tile) tile words) → IsStoredPage s d known page words
    by_case (inl was) = old page words was
    by_case (inr fill) = record {
      tile = tile;
      size = size;
      of_store = subst (λ (p : ℕ). IfSome known (λ b. IsPiece b (tile_start s d p) tile)) (sym fill.0) of_store;
      words_of = fill.1;
    }

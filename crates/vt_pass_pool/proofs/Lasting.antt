-- What lasts while the results of a batch are applied one after another.
use Rattle.std.proofs.Common.{◌≡◌, ℕ, inl, inr, ◌⊎◌, List, [], ◌∷◌, ◌++◌, refl, sym, ap, ◌∙◌, subst, append_assoc}
use Rattle.std.specs.Prelude.{slice_get, Contains}
use Rattle.std.proofs.lemmas.List.{append-nil}
use Rattle.std.proofs.lemmas.List.Elements.{Contains-append_left, Contains-append_right}
use Rattle.std.proofs.lemmas.Grind.{flat_map-append}
use Rattle.vt_journal.specs.Shape.{Shape}
use Rattle.vt_journal.specs.declared.changes.Change.{Change}
use Rattle.vt_journal.specs.declared.changes.Event.{Event}
use Rattle.vt_journal.specs.JournalText.{changes_of}
use Rattle.vt_journal.proofs.EventLines.{changes_of-append}
use Rattle.vt_page_table.specs.PlanTypes.batches.Planned.{Planned}
use Rattle.vt_queue.specs.declared.items.Loaded.{Loaded}
use Rattle.vt_streaming.specs.Readings.{is_lost}
use Rattle.vt_streaming.specs.BatchRounds.{result_group, result_events}
use Rattle.vt_streaming.specs.Applied.{IsApplied, AreApplied}
use Rattle.vt_streaming.proofs.Applying.{so_of_all}
use Rattle.vt_page_table.specs.declared.table.PageTable.{Ghosts as TableMeanings}
use Rattle.vt_pass_pool.specs.Streamed.{area, IsFillOf, FillsOf, IsBroughtAs, HasApplied, HasStreamedAll}
use Rattle.vt_pass_pool.proofs.Applying.{applied_at}

-- fills of some results are fills of more
fill_on : (d texels : ℕ) (batch : List Planned) (xs ys : List Loaded) (page : ℕ) (words : List ℕ) → ((x : Loaded) → Contains xs x → Contains ys x)
    → IsFillOf d texels batch xs page words → IsFillOf d texels batch ys page words
fill_on d texels batch xs ys page words on fill = record {
  result = fill.result;
  among = on fill.result fill.among;
  read = fill.read;
  page_is = fill.page_is;
  words_of = fill.words_of;
}

fills_both : (d texels : ℕ) (batch : List Planned) (results : List Loaded) (x : Loaded) (a b c : ℕ → List ℕ → Type 0)
    → FillsOf d texels batch results a b → FillsOf d texels batch (x ∷ []) b c → FillsOf d texels batch (results ++ x ∷ []) a c
fills_both d texels batch results x a b c one two page words is = on (two page words is) where
  first : a page words ⊎ IsFillOf d texels batch results page words → a page words ⊎ IsFillOf d texels batch (results ++ x ∷ []) page words
  first (inl old) = inl old
  first (inr fill) = inr (fill_on d texels batch results (results ++ x ∷ []) page words (λ y has. Contains-append_left results (x ∷ []) y has) fill)

  on : b page words ⊎ IsFillOf d texels batch (x ∷ []) page words → a page words ⊎ IsFillOf d texels batch (results ++ x ∷ []) page words
  on (inl old) = first (one page words old)
  on (inr fill) = inr (fill_on d texels batch (x ∷ []) (results ++ x ∷ []) page words (λ y has. Contains-append_right results (x ∷ []) y has) fill)

module _ {T H R W : Type 0} (table : TableMeanings T H R W) (d : ℕ) (batch : List Planned) (start : W)
    (later_none : (w : W) → table.later w w)
    (later_twice : (u v w : W) → table.later u v → table.later v w → table.later u w) where
  streamed_more : (results : List Loaded) (x : Loaded) (v w : W) → table.shape v ≡ table.shape start → HasStreamedAll table d batch results start v
      → HasApplied table d batch x v w → HasStreamedAll table d batch (results ++ x ∷ []) start w
  streamed_more results x v w shape one two =
      let events : result_events batch (results ++ x ∷ []) ≡ result_events batch results ++ result_group batch x =
      flat_map-append (result_group batch) results (x ∷ []) ∙ ap (λ (l : List Event). result_events batch results ++ l) (append-nil (result_group batch x)) in
      record {
        journal =
            two.journal ∙ ap (λ (js : List Change). js ++ changes_of (result_group batch x)) one.journal
            ∙ append_assoc (table.journal start) (changes_of (result_events batch results)) (changes_of (result_group batch x))
            ∙ ap (λ (js : List Change). table.journal start ++ js)
            (sym (changes_of-append (result_events batch results) (result_group batch x)) ∙ ap changes_of (sym events));
        fills = fills_both d (area (table.shape start)) batch results x (table.is_filled start) (table.is_filled v) (table.is_filled w) one.fills
            (subst (λ (s : Shape). FillsOf d (area s) batch (x ∷ []) (table.is_filled v) (table.is_filled w)) shape two.fills);
        later = later_twice start v w one.later two.later;
      }

  goes_on : (results : List Loaded) (x : Loaded) (v w : W) → (table.shape v ≡ table.shape start) × HasStreamedAll table d batch results start v
      → IsApplied (IsBroughtAs table d) batch x v w
      → (table.shape w ≡ table.shape start) × HasStreamedAll table d batch (results ++ x ∷ []) start w
  goes_on results x v w all one =
      let did = applied_at table d batch x v w (later_none v) (slice_get batch x.request.ticket) (is_lost x.outcome) refl refl one in
      (did.shape ∙ all.0, streamed_more results x v w all.0 all.1 did)

  -- all of them were streamed
  pub all_streamed : (results : List Loaded) (w : W) → AreApplied (IsBroughtAs table d) batch results start w
      → HasStreamedAll table d batch results start w
  all_streamed results w applied =
      (so_of_all (IsBroughtAs table d) batch (λ (l : List Loaded) (v : W). (table.shape v ≡ table.shape start) × HasStreamedAll table d batch l start v)
      goes_on results start w (
        refl,
        record {
          journal = sym (append-nil (table.journal start));
          fills = λ page words is. inl is;
          later = later_none start;
        },
      ) applied).1

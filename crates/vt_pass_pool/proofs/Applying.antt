-- A result that is applied.
use Rattle.std.proofs.Common.{◌≡◌, ℕ, inl, inr, ◌⊎◌, Bool, true, false, Option, Some, None, List, [], ◌∷◌, ◌++◌, refl, sym, ap, ◌∙◌, subst, arith}
use Rattle.std.specs.Prelude.{slice_get}
use Rattle.std.proofs.lemmas.List.{append-nil}
use Rattle.vt_journal.specs.declared.changes.Change.{Change}
use Rattle.vt_journal.specs.JournalText.{changes_of}
use Rattle.vt_page_table.specs.PlanTypes.batches.Planned.{Planned}
use Rattle.vt_page_table.specs.Outcomes.{group_if}
use Rattle.vt_queue.specs.declared.items.Loaded.{Loaded}
use Rattle.vt_streaming.specs.Readings.{is_lost}
use Rattle.vt_streaming.specs.BatchRounds.{result_group, page_if}
use Rattle.vt_streaming.specs.Applied.{IsAppliedAt}
use Rattle.vt_page_table.specs.declared.table.PageTable.{Ghosts as TableMeanings}
use Rattle.vt_page_table.specs.Fills.{AreTexelWords}
use Rattle.vt_pass_pool.specs.Streamed.{area, IsFillOf, IsBroughtAs, HasApplied}

module _ {T H R W : Type 0} (table : TableMeanings T H R W) (d : ℕ) (batch : List Planned) (x : Loaded) (v w : W) (none_later : table.later v v) where
  -- nothing was done
  still_applied : changes_of (result_group batch x) ≡ [] → w ≡ v → HasApplied table d batch x v w
  still_applied none same = subst (HasApplied table d batch x v) (sym same) (record {
    shape = refl;
    journal = sym (append-nil (table.journal v)) ∙ ap (λ (js : List Change). table.journal v ++ js) (sym none);
    fills = λ page words is. inl is;
    later = none_later;
  })

  -- it was applied to the entry of its ticket
  pub applied_at : (o : Option Planned) (lost : Bool) → slice_get batch x.request.ticket ≡ o → is_lost x.outcome ≡ lost
      → IsAppliedAt (IsBroughtAs table d) o lost x.request.buffer.elements v w → HasApplied table d batch x v w
  applied_at None lost at is same = still_applied (ap (λ (o : Option Planned). changes_of (group_if o (is_lost x.outcome))) at) same
  applied_at (Some e) true at is same = still_applied (λ i. changes_of (group_if (at i) (is i))) same
  applied_at (Some e) false at is put = record {
    shape = put.shape;
    journal = put.journal ∙ (λ i. table.journal v ++ changes_of (group_if (sym at i) (sym is i)));
    fills = λ page words filled. on page words (put.filled page words filled);
    later = put.later;
  } where
    on : (page : ℕ) (words : List ℕ) → table.is_filled v page words ⊎ ((page ≡ e.page) × AreTexelWords d (area (table.shape v)) x.request.buffer.elements words)
        → table.is_filled v page words ⊎ IsFillOf d (area (table.shape v)) batch (x ∷ []) page words
    on page words (inl old) = inl old
    on page words (inr new) = inr (record {
      result = x;
      among = (0, omega arith, refl);
      read = is;
      page_is = ap page_if at ∙ sym new.0;
      words_of = new.1;
    })

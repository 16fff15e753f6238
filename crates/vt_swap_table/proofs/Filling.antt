-- Pages that are filled, and changes that are logged.
use Rattle.std.proofs.Common.{◌≡◌, ℕ, zero, suc, ◌+◌, ◌≤◌, inl, inr, ◌⊎◌, false, Option, None, Some, List, [], ◌∷◌, ◌++◌, length, refl, sym, ap, ◌∙◌, subst, arith, length-append}
use Rattle.std.specs.Prelude.{slice_get}
use Rattle.vt_definitions.specs.Limits.{most_versions}
use Rattle.vt_journal.specs.Shape.{Shape}
use Rattle.vt_journal.specs.declared.changes.Change.{Change}
use Rattle.vt_journal.specs.declared.changes.Change.TheVariants.{Map}
use Rattle.vt_journal.specs.declared.changes.Event.TheVariants.{Changed as Made}
use Rattle.vt_journal.specs.JournalText.{changes_of}
use Rattle.vt_page_table.specs.PlanTypes.batches.Planned.{Planned}
use Rattle.vt_page_table.specs.Outcomes.{victim_events, group_of}
use Rattle.vt_page_table.specs.Fills.{AreTexelWords, FillsOne}
use Rattle.vt_swap.specs.LogTypes.records.LogRecord.{LogRecord}
use Rattle.vt_swap.specs.LogTypes.records.LogRecord.TheVariants.{Changed, Filled}
use Rattle.vt_swap.specs.Notes.{AreWordsOf}
use Rattle.vt_swap.specs.Streamers.{StreamerView, HasBrought, victim_changes, victim_records}
use Rattle.vt_swap_table.specs.Filled.{AreStoredFills}
use Rattle.vt_swap_table.specs.SwapWriters.{HasFilledPage, HasLogged}

changes_group : (o : Option ℕ) (page frame : ℕ) → victim_changes o frame ++ Map page frame ∷ []
    ≡ changes_of (victim_events o frame ++ Made (Map page frame) ∷ [])
changes_group None page frame = refl
changes_group (Some v) page frame = refl

short_group : (o : Option ℕ) (page frame : ℕ) → length (victim_changes o frame ++ Map page frame ∷ []) ≤ 2
short_group None page frame = omega arith
short_group (Some v) page frame = omega arith

module _ (d texels : ℕ) (tile : List ℕ) (e : Planned) (v w : StreamerView) (b : HasBrought d texels tile v w e.page e.frame e.victim) where
  pub brought_journal : w.journal ≡ v.journal ++ changes_of (group_of e false)
  brought_journal = b.journal ∙ ap (λ (js : List Change). v.journal ++ js) (changes_group e.victim e.page e.frame)

  pub brought_room : (n : ℕ) → length v.journal + (n + 2) ≤ most_versions → length w.journal + n ≤ most_versions
  brought_room n room = omega (
    arith,
    room,
    ap length b.journal,
    length-append v.journal (victim_changes e.victim e.frame ++ Map e.page e.frame ∷ []),
    short_group e.victim e.page e.frame,
  )

  pub brought_logged : HasLogged v w
  brought_logged = record { cache = b.cache; log = (victim_records e.victim e.frame ++ Filled e.frame e.page b.words ∷ Changed (Map e.page e.frame) ∷ [], sym b.log) }

-- of the records of an entry one is a fill
only_fill : (o : Option ℕ) (frame page : ℕ) (words : List ℕ) (n f p : ℕ) (w : List ℕ)
    → slice_get (victim_records o frame ++ Filled frame page words ∷ Changed (Map page frame) ∷ []) n ≡ Some (Filled f p w)
    → (p ≡ page) × (words ≡ w)
only_fill None frame page words zero f p w e = (cc, cc)
only_fill None frame page words (suc zero) f p w e = (cc, cc)
only_fill None frame page words (suc (suc n)) f p w e = (cc, cc)
only_fill (Some v) frame page words zero f p w e = (cc, cc)
only_fill (Some v) frame page words (suc zero) f p w e = (cc, cc)
only_fill (Some v) frame page words (suc (suc zero)) f p w e = (cc, cc)
only_fill (Some v) frame page words (suc (suc (suc n))) f p w e = (cc, cc)

-- a record of a longer log is one of its front or of the rest
record_parts : (log added : List LogRecord) (n : ℕ) (r : LogRecord) → slice_get (log ++ added) n ≡ Some r
    → ((k : ℕ) × (slice_get log k ≡ Some r)) ⊎ ((k : ℕ) × (slice_get added k ≡ Some r))
record_parts [] added n r is = inr (n, is)
record_parts (x ∷ log) added zero r is = inl (0, is)
record_parts (x ∷ log) added (suc n) r is = lift (record_parts log added n r is) where
  lift : ((k : ℕ) × (slice_get log k ≡ Some r)) ⊎ ((k : ℕ) × (slice_get added k ≡ Some r))
      → ((k : ℕ) × (slice_get (x ∷ log) k ≡ Some r)) ⊎ ((k : ℕ) × (slice_get added k ≡ Some r))
  lift (inl old) = inl (suc old.0, old.1)
  lift (inr new) = inr new

-- what a writer that brought a page is filled with
pub one_filled : (d texels : ℕ) (tile : List ℕ) (o : Option ℕ) (page frame : ℕ) (words : List ℕ) (v w : StreamerView) → AreWordsOf d texels tile words
    → w.log ≡ v.log ++ (victim_records o frame ++ Filled frame page words ∷ Changed (Map page frame) ∷ []) → v.broken ≡ false
    → FillsOne d texels page tile (HasFilledPage v) (HasFilledPage w)
one_filled d texels tile o page frame words v w are log fine p ws is =
    on (record_parts v.log (victim_records o frame ++ Filled frame page words ∷ Changed (Map page frame) ∷ []) is.number (Filled is.frame p ws)
    (subst (λ (l : List LogRecord). slice_get l is.number ≡ Some (Filled is.frame p ws)) log is.filled)) where
      on : ((k : ℕ) × (slice_get v.log k ≡ Some (Filled is.frame p ws)))
          ⊎ ((k : ℕ) × (slice_get (victim_records o frame ++ Filled frame page words ∷ Changed (Map page frame) ∷ []) k ≡ Some (Filled is.frame p ws)))
          → HasFilledPage v p ws ⊎ ((p ≡ page) × AreTexelWords d texels tile ws)
      on (inl old) = inl (record { goes_on = fine; number = old.0; frame = is.frame; filled = old.1 })
      on (inr new) =
          let same = only_fill o frame page words new.0 is.frame p ws new.1 in
          let all = subst (AreWordsOf d texels tile) same.1 are in
          inr (same.0, record { count = all.count; each = all.each })

-- the fills of a log, and those of records behind it
pub fills_grow : (s : Shape) (d : ℕ) (known : Option (List ℕ)) (rs ss : List LogRecord) → AreStoredFills s d known rs → AreStoredFills s d known ss
    → AreStoredFills s d known (rs ++ ss)
fills_grow s d known [] ss old new n frame page words is = new n frame page words is
fills_grow s d known (r ∷ rs) ss old new zero frame page words is = old zero frame page words is
fills_grow s d known (r ∷ rs) ss old new (suc n) frame page words is =
    fills_grow s d known rs ss (λ k f p w at. old (suc k) f p w at) new n frame page words is

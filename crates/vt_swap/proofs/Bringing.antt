-- A page is brought into a frame.
use Rattle.std.proofs.Common.{◌≡◌, ℕ, inl, inr, Some, None, List, [], ◌∷◌, ◌++◌, length, sym, ap, ◌∙◌, arith, append_assoc}
use Rattle.vt_journal.specs.declared.changes.Change.{Change}
use Rattle.vt_journal.specs.declared.changes.Change.TheVariants.{Map, Unmap}
use Rattle.vt_journal.specs.Changes.{Table, newest, changed, IsNext, AreInTurn, IsOneToOne}
use Rattle.vt_journal.proofs.Versions.{newest-more, entry-same, entry-other, same_page, mapped_after_unmap, one_to_one}
use Rattle.vt_swap_steps.specs.LogTypes.records.LogRecord.{LogRecord}
use Rattle.vt_swap_steps.specs.LogTypes.records.LogRecord.TheVariants.{Changed, Filled}
use Rattle.vt_swap.specs.Streamers.{StreamerView, HasUnmapped, HasMapped, HasBrought, MayBring}

-- a page may be mapped to a frame once the frame's page was unmapped
next_table : (m n : Table) (page frame victim : ℕ) → IsOneToOne m → n ≡ changed m (Unmap victim frame) → m page ≡ None → m victim ≡ Some frame
    → IsNext n (Map page frame)
next_table m n page frame victim apart is free mapped = (
  elim (same_page page victim) [
    | inl same ↦ ap (λ (t : Table). t page) is ∙ (ap (changed m (Unmap victim frame)) same ∙ entry-same m victim None)
    | inr other ↦ ap (λ (t : Table). t page) is ∙ (entry-other m victim page None other ∙ free)
  ],
  λ p at.
      let after = mapped_after_unmap m victim frame p frame (sym (ap (λ (t : Table). t p) is) ∙ at) in
      after.0 (apart p victim frame after.1 mapped),
)

pub next_unmapped : (js : List Change) (page frame victim : ℕ) → AreInTurn js → MayBring (newest js) page frame (Some victim)
    → IsNext (newest (js ++ Unmap victim frame ∷ [])) (Map page frame)
next_unmapped js page frame victim turn may =
    next_table (newest js) (newest (js ++ Unmap victim frame ∷ [])) page frame victim (one_to_one js (length js) turn (omega arith))
    (newest-more js (Unmap victim frame)) may.unmapped may.place

pub brought_after : (d texels : ℕ) (tile : List ℕ) (v m w : StreamerView) (page frame victim : ℕ) → HasUnmapped v m victim frame
    → HasMapped d texels tile m w page frame → HasBrought d texels tile v w page frame (Some victim)
brought_after d texels tile v m w page frame victim one two = record {
  cache = two.cache ∙ one.cache;
  words = two.words;
  words_of = two.words_of;
  log =
      two.log ∙ ap (λ (l : List LogRecord). l ++ Filled frame page two.words ∷ Changed (Map page frame) ∷ []) one.log
      ∙ append_assoc v.log (Changed (Unmap victim frame) ∷ []) (Filled frame page two.words ∷ Changed (Map page frame) ∷ []);
  journal =
      two.journal ∙ ap (λ (l : List Change). l ++ Map page frame ∷ []) one.journal
      ∙ append_assoc v.journal (Unmap victim frame ∷ []) (Map page frame ∷ []);
}

pub brought_free : (d texels : ℕ) (tile : List ℕ) (v w : StreamerView) (page frame : ℕ) → HasMapped d texels tile v w page frame
    → HasBrought d texels tile v w page frame None
brought_free d texels tile v w page frame one = record {
  cache = one.cache;
  words = one.words;
  words_of = one.words_of;
  log = one.log;
  journal = one.journal;
}

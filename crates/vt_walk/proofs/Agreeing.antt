-- The recency's table and the journal's agree on which batches are lawful.
use Rattle.std.proofs.Common.{◌≡◌, ℕ, ◌+◌, List, Option, Some, None, refl, sym, ap, ◌∙◌, arith}
use Rattle.std.specs.Prelude.{slice_index, slice_index_or, MatchOption}
use Rattle.vt_pages.specs.Shape.{Shape}
use Rattle.vt_pages.specs.Pages.{pages_of, root_of, IsWithinLimits}
use Rattle.vt_pages.proofs.Lines.{reaches_root}
use Rattle.vt_journal.specs.Changes.{Table, IsFree}
use Rattle.vt_evict.specs.PlanTypes.batches.Planned.{Planned}
use Rattle.vt_plan.specs.Views.{RecencyView, IsRecencyTable}
use Rattle.vt_evict.specs.Batches.{IsLawfulBatch, IsLawfulEntry, IsVictim, IsFreePage as HasNoPage}
use Rattle.vt_walk_decisions.specs.Outcomes.{IsEntryFor, IsBatchFor, IsVictimOf}
use Rattle.vt_walk.specs.Agreements.{entry_number_of, RecencyAgrees}

pub root_last : (s : Shape) → IsWithinLimits s → root_of s + 1 ≡ pages_of s
root_last s limits = (reaches_root s 0 (omega (arith, limits.least_tile)) limits.least_width limits.least_height (omega (arith, limits.some_page))).root_is_last

none_of : (o : Option ℕ) → entry_number_of o ≡ 0 → o ≡ None
none_of None e = refl
none_of (Some f) e = absurd (omega arith)

some_of : (o : Option ℕ) (f : ℕ) → entry_number_of o ≡ f + 1 → o ≡ Some f
some_of None f e = absurd (omega arith)
some_of (Some g) f e = let same : g ≡ f = omega (arith, e) in ap Some same

pub unmapped_in : (v : RecencyView) (m : Table) (p : ℕ) → RecencyAgrees v m → slice_index v.entries p ≡ 0 → m p ≡ None
unmapped_in v m p agrees e = none_of (m p) (sym (agrees p) ∙ e)

pub mapped_in : (v : RecencyView) (m : Table) (p f : ℕ) → RecencyAgrees v m → slice_index v.entries p ≡ f + 1 → m p ≡ Some f
mapped_in v m p f agrees e = some_of (m p) f (sym (agrees p) ∙ e)

pub entry_may_be_run : (v : RecencyView) (m : Table) (e : Planned) → IsRecencyTable v → RecencyAgrees v m → IsLawfulEntry v e → IsEntryFor v.shape v.frames m e
entry_may_be_run v m e table agrees l = record {
  page_inside = omega (arith, l.unpinned);
  unmapped = unmapped_in v m e.page agrees l.unmapped;
  frame_inside = l.frame_inside;
  place = by_victim e.victim l.place;
} where
  by_victim : (o : Option ℕ) → MatchOption o (HasNoPage v.entries e.frame) (IsVictim v e.frame)
      → MatchOption o (IsFree m e.frame) (IsVictimOf v.shape m e.frame)
  by_victim None free = λ p held. free p (agrees p ∙ ap entry_number_of held)
  by_victim (Some q) is = record {
    mapped = mapped_in v m q e.frame agrees is.held;
    no_root = λ same. let last = root_last v.shape table.limits in omega (arith, last, is.unpinned, same, table.some_pinned);
  }

pub may_be_run : (v : RecencyView) (m : Table) (batch : List Planned) → IsRecencyTable v → RecencyAgrees v m → IsLawfulBatch v batch → IsBatchFor v.shape v.frames m batch
may_be_run v m batch table agrees lawful = record {
  each = λ k d inside. entry_may_be_run v m (slice_index_or batch k d) table agrees (lawful.each k d inside);
  apart = lawful.apart;
}

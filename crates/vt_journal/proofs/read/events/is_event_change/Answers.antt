use Rattle.std.proofs.Common.{◌≡◌, ℕ, ◌+◌, List, length, Bool, true, false, arith, MatchBool}
use Rattle.vt_pages.specs.Shape.{Shape}
use Rattle.vt_journal.specs.declared.changes.Change.{Change}
use Rattle.vt_journal.specs.Changes.{newest, IsNext}
use Rattle.vt_journal.specs.JournalReading.{IsEventChange, IsUnpinned}
use Rattle.vt_journal.proofs.read.events.is_event_change.Goals as goal

-- what is left to ask, once the version and the page are right
by_next : (s : Shape) (changes : List Change) (pinned version : ℕ) (change : Change) (next : Bool) → version ≡ length changes + 1
    → IsUnpinned s pinned change → MatchBool next (IsNext (newest changes) change) (IsNext (newest changes) change → ⊥)
    → MatchBool next (IsEventChange s changes pinned version change) (IsEventChange s changes pinned version change → ⊥)
by_next s changes pinned version change true is unpinned next = record { version_is = is; unpinned = unpinned; next = next }
by_next s changes pinned version change false is unpinned next = λ spelled. next spelled.next

pub returns : goal.returns
returns c = by_next c.args.geometry.now c.args.kept.now.changes c.args.pinned c.args.version c.args.change c.is_next.result
    (omega (arith, c.if-version.false, c.version.ensures.version)) c.if-not-is_unpinned.ensures c.is_next.ensures

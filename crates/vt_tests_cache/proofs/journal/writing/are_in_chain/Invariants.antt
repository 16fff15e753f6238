use Rattle.std.proofs.Common.{take}
use Rattle.std.specs.List.{All}
use Rattle.vt_journal.specs.JournalText.{IsEventInChain}
use Rattle.vt_tests_cache.proofs.journal.writing.are_in_chain.Given as goal

abbrev pub invariant-loop-event : goal.invariant-loop-event
invariant-loop-event l = All (IsEventInChain l.geometry) (take l.event-index l.events)

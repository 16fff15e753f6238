use Rattle.std.proofs.Common.{arith, sym, take}
use Rattle.std.proofs.lemmas.List.{take_all}
use Rattle.std.proofs.lemmas.List.Elements.{All-more, All-same}
use Rattle.vt_journal.specs.JournalText.{IsEventInChain}
use Rattle.vt_tests_cache.proofs.journal.writing.are_in_chain.Goals as goal

pub loop-event-preserved : goal.loop-event-preserved
loop-event-preserved c = All-more (IsEventInChain c.args.geometry.now) c.args.events.now c.loop-event.event-index _
    c.loop-event-test.true c.loop-event.invariant c.if-not-is_in_chain.ensures

pub returns : goal.returns
returns c = All-same (IsEventInChain c.args.geometry.now) c.args.events.now (take c.loop-event.event-index c.args.events.now)
    (sym (take_all c.loop-event.event-index c.args.events.now (omega arith))) c.loop-event.invariant

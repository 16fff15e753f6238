use Rattle.vt_machine.proofs.Streaming.{entry_stays, events_more}
use Rattle.vt_machine.proofs.laws.entries_are_streamed_one_by_one.Goals as goal

pub returns : goal.returns
returns c = record { lawful = entry_stays; events = events_more }

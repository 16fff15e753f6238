use Rattle.std.proofs.Common.{rules}
use Rattle.vt_walk_commands.proofs.commands.replay.flaw_of_replay.Goals as goal

pub returns-in-BadJournal : goal.returns-in-BadJournal
returns-in-BadJournal c = search rules

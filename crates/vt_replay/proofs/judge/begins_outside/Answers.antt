use Rattle.std.proofs.Common.{rules}
use Rattle.vt_replay.proofs.judge.begins_outside.Goals as goal

pub returns-then-begins_pass : goal.returns-then-begins_pass
returns-then-begins_pass c = search rules

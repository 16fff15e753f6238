use Rattle.std.proofs.Common.{rules}
use Rattle.vt_replay.proofs.play.is_last.Goals as goal

pub returns-then-i-passes-clause-last : goal.returns-then-i-passes-clause-last
returns-then-i-passes-clause-last c = search rules

pub returns-then-i-passes-clause-before : goal.returns-then-i-passes-clause-before
returns-then-i-passes-clause-before c = search rules

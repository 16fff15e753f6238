use Rattle.std.proofs.Common.{◌≡◌, map, take}
use Rattle.clap.specs.Words.{app_of}
use Rattle.vt_command_words.specs.Arguments.{app, rule_for}
use Rattle.vt_command_words.proofs.arguments.command_of.Given as goal

-- the command has the rows so far
abbrev pub invariant-loop-row : goal.invariant-loop-row
invariant-loop-row l = app_of l.command ≡ app l.name (map rule_for (take l.row-index l.rows))

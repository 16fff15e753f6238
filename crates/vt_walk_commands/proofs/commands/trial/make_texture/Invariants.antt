use Rattle.std.proofs.Common.{◌≡◌, ◌*◌, length}
use Rattle.vt_store_commands.specs.commands.Gen.{made_rows}
use Rattle.vt_walk_commands.proofs.commands.trial.make_texture.Given as goal

-- the samples of the rows so far
abbrev pub invariant-loop-y : goal.invariant-loop-y
invariant-loop-y l = record {
  rows : l.samples.items ≡ made_rows l.number 2048 l.y;
  size : length l.samples.items ≡ 6144 * l.y;
}

use Rattle.std.proofs.Common.{◌≡◌}
use Rattle.std.specs.Prelude.{vec_len}
use Rattle.vt_outside.specs.Effects.{folder_effect}
use Rattle.vt_store.specs.Rounds.{StripsAdded}
use Rattle.vt_store.specs.StripSteps.{strips_state}
use Rattle.vt_store.proofs.round.write_by_round.Given as goal

abbrev pub invariant-loop-strip : goal.invariant-loop-strip
invariant-loop-strip g l = record {
  added : StripsAdded l.geometry l.name l.strip (strips_state g.F.File l.fn.chain l.fn.half) (strips_state g.F.File l.chain l.half)
      (folder_effect g.D.Folder l.fn.folder l.folder);
  front : vec_len l.front ≡ vec_len l.fn.front;
}

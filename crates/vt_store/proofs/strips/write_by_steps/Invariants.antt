use Rattle.std.proofs.Common.{◌≡◌}
use Rattle.std.specs.Prelude.{vec_len}
use Rattle.vt_outside.specs.Effects.{folder_effect}
use Rattle.vt_store.specs.StripSteps.{strips_state}
use Rattle.vt_store.proofs.StripSteps.{IsAhead}
use Rattle.vt_store.proofs.strips.write_by_steps.Given as goal

abbrev pub invariant-loop-strip : goal.invariant-loop-strip
invariant-loop-strip g l = record {
  ahead : IsAhead l.geometry l.name l.strip (strips_state g.F.File l.fn.chain l.fn.half) (strips_state g.F.File l.chain l.half)
      (folder_effect g.D.Folder l.fn.folder l.folder) l.front.items;
  front : vec_len l.front ≡ vec_len l.fn.front;
  back : vec_len l.back ≡ vec_len l.fn.back;
}

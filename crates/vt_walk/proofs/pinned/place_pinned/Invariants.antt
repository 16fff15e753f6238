use Rattle.std.proofs.Common.{◌≡◌, ◌+◌, ◌≤◌}
use Rattle.vt_walk.specs.Placing.{KeepsStore, with_changes, first_pinned, with_tiles}
use Rattle.vt_walk.proofs.pinned.place_pinned.Given as goal

abbrev pub invariant-loop-frame : goal.invariant-loop-frame
invariant-loop-frame g l = record {
  idle : g.M.PassMachine.is_idle l.machine;
  state : g.M.PassMachine.state l.machine ≡ with_changes (first_pinned l.geometry l.pinned l.frame) (g.M.PassMachine.state l.fn.machine);
  asked : g.F.File.asked l.store.file ≡ with_tiles l.geometry l.fn.store.depth l.pinned l.frame (g.F.File.asked l.fn.store.file);
  room : l.pinned ≤ l.frame + g.F.File.spare l.store.file;
  kept : KeepsStore g.F.File l.fn.store l.store;
}

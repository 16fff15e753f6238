use Rattle.std.proofs.Common.{◌∷◌}
use Rattle.vt_walk.specs.WalkEffects.{state_by}
use Rattle.vt_walk.specs.WalkInputs.{given_of}
use Rattle.vt_walk.specs.DrawnBy.{IsDrawnBySome}
use Rattle.vt_walk.specs.WalkSteps.{WalkStart, StandsFirst}
use Rattle.vt_walk.specs.Following.{StandsNext}
use Rattle.vt_walk.specs.Moments.{moment, KeepsWalk}
use Rattle.vt_walk.specs.OutputFolders.{folder_of}
use Rattle.vt_walk.proofs.walk_steps.take_steps.Given as goal

abbrev pub invariant-loop-number : goal.invariant-loop-number
invariant-loop-number g l = record {
  some : (b : WalkStart) × StandsNext (IsDrawnBySome g.M.PassMachine)
      (given_of g.M.PassMachine.drawing l.input b.known) l.number l.next b.first
      (λ files. state_by (folder_of g.D.OutputFolder) g.O.Sink l.input.names.store.now l.folder l.out (b.kept ∷ files)) (g.M.PassMachine.state l.machine) l.recency;
  each : (b : WalkStart) → StandsFirst (IsDrawnBySome g.M.PassMachine)
      (given_of g.M.PassMachine.drawing l.input b.known) b.first
      (state_by (folder_of g.D.OutputFolder) g.O.Sink l.input.names.store.now l.fn.folder l.fn.out (b.kept ∷ (g.M.PassMachine.state l.fn.machine).files))
      (g.M.PassMachine.state l.fn.machine) l.fn.recency
      → StandsNext (IsDrawnBySome g.M.PassMachine) (given_of g.M.PassMachine.drawing l.input b.known) l.number l.next b.first
      (λ files. state_by (folder_of g.D.OutputFolder) g.O.Sink l.input.names.store.now l.folder l.out (b.kept ∷ files)) (g.M.PassMachine.state l.machine) l.recency;
  idle : g.M.PassMachine.is_idle l.machine;
  kept : KeepsWalk (moment (folder_of g.D.OutputFolder) g.O.Sink l.fn.folder l.fn.out (g.M.PassMachine.state l.fn.machine) l.fn.recency)
      (moment (folder_of g.D.OutputFolder) g.O.Sink l.folder l.out (g.M.PassMachine.state l.machine) l.recency);
}

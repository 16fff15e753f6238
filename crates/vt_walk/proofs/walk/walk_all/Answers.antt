use Rattle.std.proofs.Common.{◌∷◌, sym, subst}
use Rattle.std.proofs.lemmas.Result.{err_from_is_err_and}
use Rattle.vt_walk_decisions.specs.Machines.{file_state}
use Rattle.vt_walk.specs.States.{walk_state}
use Rattle.vt_walk.specs.WalkInputs.{given_of}
use Rattle.vt_walk.specs.WalkSteps.{LeftByRefusal}
use Rattle.vt_walk.specs.DrawnBy.{IsDrawnBySome}
use Rattle.vt_walk.proofs.Keeping.{begun_keeps, kept_on}
use Rattle.vt_walk.proofs.walk.walk_all.Goals as goal

pub returns-in_err-recency-clause-walked : goal.returns-in_err-recency-clause-walked
returns-in_err-recency-clause-walked g c =
    let p = err_from_is_err_and c.from_residual.result c.from_residual.ensures.1 in
    rw p.1 (subst (LeftByRefusal (IsDrawnBySome g.M.PassMachine)
    (given_of g.M.PassMachine.drawing c.args.input.now
    (g.D.File.File.bytes c.args.store.now.file)) (walk_state g.D.Folder c.args.input.now.names.store.now c.args.folder.now
    (file_state g.D.File.File c.args.store.now.file ∷ (g.M.PassMachine.state c.args.machine.now).files) (g.O.Sink.held c.args.out.now)
    (g.O.Sink.faults c.args.out.now)) (walk_state g.D.Folder c.args.input.now.names.store.now c.begin.new.folder
    (file_state g.D.File.File c.begin.new.store.file ∷ (g.M.PassMachine.state c.begin.new.machine).files) (g.O.Sink.held c.args.out.now)
    (g.O.Sink.faults c.args.out.now))) (sym p.2) (c.in_err-recency.ensures.begun (g.O.Sink.held c.args.out.now) (g.O.Sink.faults c.args.out.now)))

pub walk_by_crew-requires-clause-stands : goal.walk_by_crew-requires-clause-stands
walk_by_crew-requires-clause-stands g c κs within = (
  (record {
    known = g.D.File.File.bytes c.args.store.now.file;
    kept = file_state g.D.File.File
        c.begin.new.store.file;
    first = (walk_state g.D.Folder c.args.input.now.names.store.now c.args.folder.now
        (file_state g.D.File.File c.args.store.now.file ∷ (g.M.PassMachine.state c.args.machine.now).files) (g.O.Sink.held c.args.out.now)
        (g.O.Sink.faults c.args.out.now));
  }),
  c.in_ok-recency.ensures.begun (g.O.Sink.held c.args.out.now) (g.O.Sink.faults c.args.out.now),
)

pub returns-clause-walked : goal.returns-clause-walked
returns-clause-walked g c = c.walk_by_crew.ensures.walked (record {
  known = g.D.File.File.bytes c.args.store.now.file;
  kept = file_state g.D.File.File
      c.begin.new.store.file;
  first = (walk_state g.D.Folder c.args.input.now.names.store.now c.args.folder.now
      (file_state g.D.File.File c.args.store.now.file ∷ (g.M.PassMachine.state c.args.machine.now).files) (g.O.Sink.held c.args.out.now)
      (g.O.Sink.faults c.args.out.now));
}) (c.in_ok-recency.ensures.begun (g.O.Sink.held c.args.out.now) (g.O.Sink.faults c.args.out.now))

pub returns-clause-counted : goal.returns-clause-counted
returns-clause-counted g c = c.walk_by_crew.ensures.counted

pub returns-in_err-recency-clause-store : goal.returns-in_err-recency-clause-store
returns-in_err-recency-clause-store g c = c.begin.ensures.kept.store

pub returns-in_err-recency-clause-kept : goal.returns-in_err-recency-clause-kept
returns-in_err-recency-clause-kept g c = begun_keeps g.D.Folder _ _ _ _ _ _ _ c.begin.ensures.kept

pub returns-clause-store : goal.returns-clause-store
returns-clause-store g c = c.begin.ensures.kept.store

pub returns-clause-kept : goal.returns-clause-kept
returns-clause-kept g c = kept_on _ _ _ (begun_keeps g.D.Folder _ _ _ _ _ _ _ c.begin.ensures.kept) c.walk_by_crew.ensures.kept

use Rattle.std.proofs.Common.{◌-◌, ◌∷◌, refl, sym, subst, arith}
use Rattle.std.proofs.lemmas.Result.{err_from_is_err_and}
use Rattle.vt_walk_decisions.specs.declared.steps.Next.{Next}
use Rattle.vt_walk.specs.WalkEffects.{state_by}
use Rattle.vt_walk.specs.States.{walk_state}
use Rattle.vt_walk.specs.WalkInputs.{given_of}
use Rattle.vt_walk.specs.WalkSteps.{LeftByRefusal}
use Rattle.vt_walk.specs.Following.{StandsNext}
use Rattle.vt_walk.specs.DrawnBy.{IsDrawnBySome}
use Rattle.vt_walk.proofs.Rounds.{first_at}
use Rattle.vt_walk.proofs.Passing.{pass_broke}
use Rattle.vt_walk.proofs.Keeping.{kept_on}
use Rattle.vt_walk.proofs.Aheads.{may_turn, next_stands, next_left, end_counts}
use Rattle.vt_walk.specs.OutputFolders.{folder_of}
use Rattle.vt_walk.proofs.walk_steps.take_steps.Goals as goal

pub draw_next-requires-clause-may : goal.draw_next-requires-clause-may
draw_next-requires-clause-may g c =
    let b = c.requires.stands.0 in
    let s = first_at (IsDrawnBySome g.M.PassMachine) (given_of g.M.PassMachine.drawing c.args.input.now b.known) b.first
    (walk_state (folder_of g.D.OutputFolder) c.args.input.now.names.store.now c.args.folder.now (b.kept ∷ (g.M.PassMachine.state c.args.machine.now).files)
    (g.O.Sink.held c.args.out.now) (g.O.Sink.faults c.args.out.now)) (g.M.PassMachine.state c.args.machine.now) c.args.recency.now
    (record { picture = 0; batch = c.new.result; tally = c.new-2.result; reads = c.args.input.now.pinned }) c.requires.stands.1 refl c.new.ensures c.new-2.ensures c.requires.input.pages in (
      b.known,
      s.run,
      may_turn (IsDrawnBySome g.M.PassMachine) (given_of g.M.PassMachine.drawing c.args.input.now b.known) b.first 1
          (record { picture = 0; batch = c.new.result; tally = c.new-2.result; reads = c.args.input.now.pinned })
          (walk_state (folder_of g.D.OutputFolder) c.args.input.now.names.store.now c.args.folder.now (b.kept ∷ (g.M.PassMachine.state c.args.machine.now).files)
          (g.O.Sink.held c.args.out.now) (g.O.Sink.faults c.args.out.now)) (g.M.PassMachine.state c.args.machine.now) c.args.recency.now s,
    )

pub returns-in_err-next-clause-walked : goal.returns-in_err-next-clause-walked
returns-in_err-next-clause-walked g c =
    let p = err_from_is_err_and c.from_residual.result c.from_residual.ensures.1 in
    λ b at. rw p.1 (pass_broke (IsDrawnBySome g.M.PassMachine) (given_of g.M.PassMachine.drawing c.args.input.now b.known) 1
    (record { picture = 0; batch = c.new.result; tally = c.new-2.result; reads = c.args.input.now.pinned }) b.first c.args.input.now.names.store.now b.kept
    (g.O.Sink.held c.args.out.now) (g.O.Sink.faults c.args.out.now) (g.D.OutputFolder.files c.args.folder.now) (g.D.OutputFolder.asked c.args.folder.now)
    (g.D.OutputFolder.faults c.args.folder.now) (g.M.PassMachine.state c.args.machine.now) (g.M.PassMachine.state c.draw_next.new.machine)
    c.args.recency.now c.draw_next.new.recency (first_at (IsDrawnBySome g.M.PassMachine) (given_of g.M.PassMachine.drawing c.args.input.now b.known) b.first
    (walk_state (folder_of g.D.OutputFolder) c.args.input.now.names.store.now c.args.folder.now (b.kept ∷ (g.M.PassMachine.state c.args.machine.now).files)
    (g.O.Sink.held c.args.out.now) (g.O.Sink.faults c.args.out.now)) (g.M.PassMachine.state c.args.machine.now) c.args.recency.now
    (record { picture = 0; batch = c.new.result; tally = c.new-2.result; reads = c.args.input.now.pinned }) at refl c.new.ensures c.new-2.ensures c.requires.input.pages) c.in_err-next.ensures.more
    c.in_err-next.ensures.refused p.0 p.2)

pub loop-number-init : goal.loop-number-init
loop-number-init g c =
    let b = c.requires.stands.0 in
    let s = first_at (IsDrawnBySome g.M.PassMachine) (given_of g.M.PassMachine.drawing c.args.input.now b.known) b.first
    (walk_state (folder_of g.D.OutputFolder) c.args.input.now.names.store.now c.args.folder.now (b.kept ∷ (g.M.PassMachine.state c.args.machine.now).files)
    (g.O.Sink.held c.args.out.now) (g.O.Sink.faults c.args.out.now)) (g.M.PassMachine.state c.args.machine.now) c.args.recency.now
    (record { picture = 0; batch = c.new.result; tally = c.new-2.result; reads = c.args.input.now.pinned }) c.requires.stands.1 refl c.new.ensures c.new-2.ensures c.requires.input.pages in
    record {
      some = (
        b,
        next_stands (IsDrawnBySome g.M.PassMachine) (given_of g.M.PassMachine.drawing c.args.input.now b.known) b.first 1
            (record { picture = 0; batch = c.new.result; tally = c.new-2.result; reads = c.args.input.now.pinned })
            (λ files. state_by (folder_of g.D.OutputFolder) g.O.Sink c.args.input.now.names.store.now c.args.folder.now c.args.out.now (b.kept ∷ files))
            (g.M.PassMachine.state c.args.machine.now) (g.M.PassMachine.state c.draw_next.new.machine) c.args.recency.now c.draw_next.new.recency s
            c.in_ok-next.next (c.in_ok-next.ensures.next b.known s.run
            (may_turn (IsDrawnBySome g.M.PassMachine) (given_of g.M.PassMachine.drawing c.args.input.now b.known) b.first 1
            (record { picture = 0; batch = c.new.result; tally = c.new-2.result; reads = c.args.input.now.pinned })
            (walk_state (folder_of g.D.OutputFolder) c.args.input.now.names.store.now c.args.folder.now (b.kept ∷ (g.M.PassMachine.state c.args.machine.now).files)
            (g.O.Sink.held c.args.out.now) (g.O.Sink.faults c.args.out.now)) (g.M.PassMachine.state c.args.machine.now) c.args.recency.now s)),
      );
      each = λ b at.
          let s = first_at (IsDrawnBySome g.M.PassMachine) (given_of g.M.PassMachine.drawing c.args.input.now b.known) b.first
          (walk_state (folder_of g.D.OutputFolder) c.args.input.now.names.store.now c.args.folder.now (b.kept ∷ (g.M.PassMachine.state c.args.machine.now).files)
          (g.O.Sink.held c.args.out.now) (g.O.Sink.faults c.args.out.now)) (g.M.PassMachine.state c.args.machine.now) c.args.recency.now
          (record { picture = 0; batch = c.new.result; tally = c.new-2.result; reads = c.args.input.now.pinned }) at refl c.new.ensures c.new-2.ensures c.requires.input.pages in
          next_stands (IsDrawnBySome g.M.PassMachine) (given_of g.M.PassMachine.drawing c.args.input.now b.known) b.first 1
          (record { picture = 0; batch = c.new.result; tally = c.new-2.result; reads = c.args.input.now.pinned })
          (λ files. state_by (folder_of g.D.OutputFolder) g.O.Sink c.args.input.now.names.store.now c.args.folder.now c.args.out.now (b.kept ∷ files))
          (g.M.PassMachine.state c.args.machine.now) (g.M.PassMachine.state c.draw_next.new.machine) c.args.recency.now c.draw_next.new.recency s
          c.in_ok-next.next (c.in_ok-next.ensures.next b.known s.run
          (may_turn (IsDrawnBySome g.M.PassMachine) (given_of g.M.PassMachine.drawing c.args.input.now b.known) b.first 1
          (record { picture = 0; batch = c.new.result; tally = c.new-2.result; reads = c.args.input.now.pinned })
          (walk_state (folder_of g.D.OutputFolder) c.args.input.now.names.store.now c.args.folder.now (b.kept ∷ (g.M.PassMachine.state c.args.machine.now).files)
          (g.O.Sink.held c.args.out.now) (g.O.Sink.faults c.args.out.now)) (g.M.PassMachine.state c.args.machine.now) c.args.recency.now s));
      idle = c.in_ok-next.ensures.idle;
      kept = record { same = c.draw_next.ensures.same; asked = refl; faults = omega arith; out_faults = omega arith };
    }

pub take_step-requires-clause-stands : goal.take_step-requires-clause-stands
take_step-requires-clause-stands g c =
    let s = c.loop-number.invariant.some in
    let b = s.0 in (
      b,
      subst (λ (x : Next). StandsNext (IsDrawnBySome g.M.PassMachine) (given_of g.M.PassMachine.drawing c.args.input.now b.known) c.loop-number.number x b.first
          (λ files. state_by (folder_of g.D.OutputFolder) g.O.Sink c.args.input.now.names.store.now c.loop-number.folder c.loop-number.out (b.kept ∷ files)) (g.M.PassMachine.state c.loop-number.machine)
          c.loop-number.recency) c.in-Pass.is s.1,
    )

pub loop-number-preserved : goal.loop-number-preserved
loop-number-preserved g c =
    let i = c.loop-number.invariant in
    let t = c.in_ok-next-in-Pass.ensures in
    record {
      some = (
        i.some.0,
        t.taken i.some.0 (subst (λ (x : Next). StandsNext (IsDrawnBySome g.M.PassMachine) (given_of g.M.PassMachine.drawing c.args.input.now i.some.0.known)
            c.loop-number.number x i.some.0.first
            (λ files. state_by (folder_of g.D.OutputFolder) g.O.Sink c.args.input.now.names.store.now c.loop-number.folder c.loop-number.out (i.some.0.kept ∷ files))
            (g.M.PassMachine.state c.loop-number.machine) c.loop-number.recency) c.in-Pass.is i.some.1),
      );
      each = λ b at. t.taken b (subst (λ (x : Next). StandsNext (IsDrawnBySome g.M.PassMachine) (given_of g.M.PassMachine.drawing c.args.input.now b.known)
          c.loop-number.number x b.first
          (λ files. state_by (folder_of g.D.OutputFolder) g.O.Sink c.args.input.now.names.store.now c.loop-number.folder c.loop-number.out (b.kept ∷ files))
          (g.M.PassMachine.state c.loop-number.machine) c.loop-number.recency) c.in-Pass.is (i.each b at));
      idle = t.idle;
      kept = kept_on _ _ _ i.kept t.kept;
    }

pub returns-in-End-clause-walked : goal.returns-in-End-clause-walked
returns-in-End-clause-walked g c = λ b at. (subst (λ (x : Next). StandsNext (IsDrawnBySome g.M.PassMachine) (given_of g.M.PassMachine.drawing c.args.input.now b.known)
    c.loop-number.number x b.first
    (λ files. state_by (folder_of g.D.OutputFolder) g.O.Sink c.args.input.now.names.store.now c.loop-number.folder c.loop-number.out (b.kept ∷ files))
    (g.M.PassMachine.state c.loop-number.machine) c.loop-number.recency) c.in-End.is (c.loop-number.invariant.each b at)).last

pub returns-in-End-clause-counted : goal.returns-in-End-clause-counted
returns-in-End-clause-counted g c =
    let s = c.loop-number.invariant.some in
    let b = s.0 in
    end_counts (IsDrawnBySome g.M.PassMachine) (given_of g.M.PassMachine.drawing c.args.input.now b.known) b.first c.loop-number.number c.in-End.reads
    (state_by (folder_of g.D.OutputFolder) g.O.Sink c.args.input.now.names.store.now c.loop-number.folder c.loop-number.out
    (b.kept ∷ (g.M.PassMachine.state c.loop-number.machine).files))
    (record { passes = c.loop-number.number - 1; reads = c.in-End.reads })
    (subst (λ (x : Next). StandsNext (IsDrawnBySome g.M.PassMachine) (given_of g.M.PassMachine.drawing c.args.input.now b.known) c.loop-number.number x b.first
    (λ files. state_by (folder_of g.D.OutputFolder) g.O.Sink c.args.input.now.names.store.now c.loop-number.folder c.loop-number.out (b.kept ∷ files))
    (g.M.PassMachine.state c.loop-number.machine) c.loop-number.recency) c.in-End.is s.1) refl refl

pub returns-clause-walked : goal.returns-clause-walked
returns-clause-walked g c = λ b at. next_left (IsDrawnBySome g.M.PassMachine) (given_of g.M.PassMachine.drawing c.args.input.now b.known) b.first c.loop-number.number c.loop-number.next
    c.args.input.now.names.store.now b.kept (g.O.Sink.held c.loop-number.out) (g.O.Sink.faults c.loop-number.out)
    (g.D.OutputFolder.files c.loop-number.folder) (g.D.OutputFolder.asked c.loop-number.folder) (g.D.OutputFolder.faults c.loop-number.folder)
    (g.M.PassMachine.state c.loop-number.machine) c.loop-number.recency (c.loop-number.invariant.each b at)

pub returns-in_err-next-in-Pass-clause-walked : goal.returns-in_err-next-in-Pass-clause-walked
returns-in_err-next-in-Pass-clause-walked g c =
    let p = err_from_is_err_and c.from_residual-in_err-next-in-Pass.result c.from_residual-in_err-next-in-Pass.ensures.1 in
    λ b at. rw p.1 (subst (LeftByRefusal (IsDrawnBySome g.M.PassMachine) (given_of g.M.PassMachine.drawing c.args.input.now b.known) b.first
    (walk_state (folder_of g.D.OutputFolder) c.args.input.now.names.store.now c.take_step.new.folder
    (b.kept ∷ (g.M.PassMachine.state c.take_step.new.machine).files) (g.O.Sink.held c.take_step.new.out) (g.O.Sink.faults c.take_step.new.out)))
    (sym p.2) (c.in_err-next-in-Pass.ensures.taken b (subst (λ (x : Next). StandsNext (IsDrawnBySome g.M.PassMachine) (given_of g.M.PassMachine.drawing c.args.input.now b.known)
    c.loop-number.number x b.first
    (λ files. state_by (folder_of g.D.OutputFolder) g.O.Sink c.args.input.now.names.store.now c.loop-number.folder c.loop-number.out (b.kept ∷ files))
    (g.M.PassMachine.state c.loop-number.machine) c.loop-number.recency) c.in-Pass.is (c.loop-number.invariant.each b at))))

pub returns-in_err-next-in-Pass-clause-kept : goal.returns-in_err-next-in-Pass-clause-kept
returns-in_err-next-in-Pass-clause-kept g c = kept_on _ _ _ c.loop-number.invariant.kept c.take_step.ensures.kept

pub returns-in-End-clause-kept : goal.returns-in-End-clause-kept
returns-in-End-clause-kept g c = c.loop-number.invariant.kept

pub returns-clause-kept : goal.returns-clause-kept
returns-clause-kept g c = c.loop-number.invariant.kept

pub returns-in_err-next-clause-kept : goal.returns-in_err-next-clause-kept
returns-in_err-next-clause-kept g c = record { same = c.draw_next.ensures.same; asked = refl; faults = omega arith; out_faults = omega arith }

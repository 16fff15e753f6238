use Rattle.std.proofs.Common.{[], ◌∷◌, ◌<◌, ◌≤◌, Option, Err, refl, ap, sym, subst, rules, arith}
use Rattle.std.specs.Prelude.{MatchBool}
use Rattle.vt_walk_decisions.specs.Machines.{file_state}
use Rattle.vt_walk_decisions.specs.declared.error.WalkError.{WalkError}
use Rattle.vt_outside.specs.Files.{Asked}
use Rattle.vt_walk.specs.States.{walk_state}
use Rattle.vt_walk.specs.Closing.{AreOtherNamesAsBefore}
use Rattle.vt_walk.specs.WalkInputs.{given_of}
use Rattle.vt_walk.specs.WalkSteps.{LeftByRefusal}
use Rattle.vt_walk.specs.DrawnBy.{IsDrawnBySome}
use Rattle.vt_walk.proofs.Concluding.{closed_same, known_there, opened_first, refused_first}
use Rattle.vt_walk.proofs.walk.walk_store.Goals as goal

pub open_loaders-requires-clause-there : goal.open_loaders-requires-clause-there
open_loaders-requires-clause-there g c κs within =
    known_there (g.D.Folder.files c.args.folder.now) c.args.input.now.names.store.now
    (g.D.File.File.bytes c.args.store.now.file) c.requires.bytes c.requires.known_too

pub returns-in-Ok-clause-walked : goal.returns-in-Ok-clause-walked
returns-in-Ok-clause-walked g c =
    let name = c.args.input.now.names.store.now in
    opened_first g.D.Folder name (IsDrawnBySome g.M.PassMachine)
    (given_of g.M.PassMachine.drawing c.args.input.now
    (g.D.File.File.bytes c.args.store.now.file))
    c.walk_stores.result (file_state g.D.File.File c.args.store.now.file) c.args.folder.now c.open_loaders.new.folder (g.O.Sink.held c.args.out.now)
    (g.O.Sink.faults c.args.out.now)
    (walk_state g.D.Folder name c.walk_stores.new.folder (file_state g.D.File.File c.walk_stores.new.store.file ∷ []) (g.O.Sink.held c.walk_stores.new.out)
    (g.O.Sink.faults c.walk_stores.new.out))
    c.open_loaders.ensures.kept.files c.open_loaders.ensures.kept.asked c.open_loaders.ensures.kept.faults c.walk_stores.ensures.walked

pub returns-in-Err-clause-walked : goal.returns-in-Err-clause-walked
returns-in-Err-clause-walked g c =
    let drawn = IsDrawnBySome g.M.PassMachine in
    let given = given_of g.M.PassMachine.drawing c.args.input.now
    (g.D.File.File.bytes c.args.store.now.file) in
    let name = c.args.input.now.names.store.now in
    let kept = file_state g.D.File.File c.args.store.now.file in
    let held = g.O.Sink.held c.args.out.now in
    let faults = g.O.Sink.faults c.args.out.now in
    subst
    (λ (e : WalkError). LeftByRefusal drawn given (walk_state g.D.Folder name c.args.folder.now (kept ∷ []) held faults)
    (walk_state g.D.Folder name c.open_loaders.new.folder (kept ∷ []) held faults) e)
    (sym c.into.ensures)
    (refused_first g.D.Folder name drawn given kept c.args.folder.now c.open_loaders.new.folder held faults c.in-Err.refusal
    c.open_loaders.ensures.kept.files c.open_loaders.ensures.kept.asked c.open_loaders.ensures.kept.faults
    (λ is. c.in-Err.ensures.failed (ap Err is)))

pub returns-then-has_too_few_frames-clause-walked : goal.returns-then-has_too_few_frames-clause-walked
returns-then-has_too_few_frames-clause-walked g c = (
  search rules,
  record {
    frames_are = refl;
    needed_are = c.requires.input.pages;
    few = subst (λ b. MatchBool b (c.args.input.now.settings.frames < c.args.input.now.pinned)
        (c.args.input.now.pinned ≤ c.args.input.now.settings.frames)) c.if-has_too_few_frames.true c.has_too_few_frames.ensures;
    none = record { files = refl; held = refl };
  },
)

pub returns-in-Ok-clause-counted : goal.returns-in-Ok-clause-counted
returns-in-Ok-clause-counted g c = c.walk_stores.ensures.counted

pub returns-in-Ok-clause-closed : goal.returns-in-Ok-clause-closed
returns-in-Ok-clause-closed g c =
    let closed = c.walk_stores.ensures.closed in
    let same = c.open_loaders.ensures.kept.asked in
    let name = c.args.input.now.names.store.now in
    record {
      opened = closed.opened;
      others = subst (λ (a : Option Asked). AreOtherNamesAsBefore name a (g.D.Folder.asked c.walk_stores.new.folder)) same closed.others;
      faults = omega (arith, c.open_loaders.ensures.kept.faults, closed.faults);
      out_faults = closed.out_faults;
    }

pub returns-in-Err-clause-closed : goal.returns-in-Err-clause-closed
returns-in-Err-clause-closed g c =
    closed_same _ _ _ _ _ _ _ c.requires.opened c.open_loaders.ensures.kept.asked c.open_loaders.ensures.kept.faults

pub returns-then-has_too_few_frames-clause-closed : goal.returns-then-has_too_few_frames-clause-closed
returns-then-has_too_few_frames-clause-closed g c = closed_same _ _ _ _ _ _ _ c.requires.opened refl (omega arith)

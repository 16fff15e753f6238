use Rattle.std.proofs.Common.{◌≡◌, List, sum, Option, ap, sym, ◌∙◌, subst, arith}
use Rattle.std.specs.Prelude.{is_some}
use Rattle.vt_outside.specs.Counts.{RoseBy}
use Rattle.vt_walk_decisions.specs.Requests.{FileState, counts_of}
use Rattle.vt_outside.specs.Files.{Asked}
use Rattle.vt_walk_decisions.specs.Machines.{file_state, files_of}
use Rattle.vt_walk.specs.States.{AreOpen}
use Rattle.vt_walk.specs.Closing.{with_closed, AreOtherNamesAsBefore}
use Rattle.vt_walk.specs.WalkInputs.{given_of}
use Rattle.vt_walk.specs.DrawnBy.{IsDrawnBySome}
use Rattle.vt_walk.proofs.Closings.{closed_knows, others_closed, same_open}
use Rattle.vt_walk.proofs.Concluding.{open_known, one_open, machine_closed}
use Rattle.vt_walk.proofs.walk.walk_machine.Goals as goal

pub walk_all-walked-requires-clause-all_known : goal.walk_all-walked-requires-clause-all_known
walk_all-walked-requires-clause-all_known g c κs within =
    open_known 1 c.args.input.now.settings.crew.loaders c.args.input.now.names.store.now (g.D.Folder.asked c.args.folder.now)
    (file_state g.D.File.File c.args.store.now.file) (g.M.PassMachine.state c.args.machine).files c.requires.opened c.requires.loaders

pub returns-clause-walked : goal.returns-clause-walked
returns-clause-walked g c =
    let left = (g.M.PassMachine.state c.walk_all-walked.new.machine).files in
    let mid = c.walk_all-walked.new.folder in
    let last = c.close_stores.new.folder in
    machine_closed g.D.Folder c.args.input.now.names.store.now (IsDrawnBySome g.M.PassMachine)
    (given_of g.M.PassMachine.drawing c.args.input.now
    (g.D.File.File.bytes c.args.store.now.file))
    c.walk_all-walked.result (file_state g.D.File.File c.args.store.now.file) (file_state g.D.File.File c.walk_all-walked.new.store.file)
    (g.M.PassMachine.state c.args.machine).files left c.args.folder.now mid last _ _ _ _ c.args.input.now.settings.crew.loaders
    c.requires.loaders c.requires.no_places c.requires.no_faults c.walk_all-walked.ensures.kept.same c.walk_all-walked.ensures.kept.asked
    (c.close_stores.ensures.asked ∙ ap (λ (fs : List FileState). with_closed fs (g.D.Folder.asked mid)) c.end.ensures)
    (subst (λ (fs : List FileState). RoseBy (sum (counts_of fs)) (g.D.Folder.faults mid) (g.D.Folder.faults last)) c.end.ensures c.close_stores.ensures.rose)
    c.close_stores.ensures.files c.walk_all-walked.ensures.walked

pub returns-clause-counted : goal.returns-clause-counted
returns-clause-counted g c = c.walk_all-walked.ensures.counted

pub returns-clause-closed : goal.returns-clause-closed
returns-clause-closed g c =
    let left = (g.M.PassMachine.state c.walk_all-walked.new.machine).files in
    let name = c.args.input.now.names.store.now in
    let loaders = c.args.input.now.settings.crew.loaders in
    let old = g.D.Folder.asked c.args.folder.now in
    let mid = g.D.Folder.asked c.walk_all-walked.new.folder in
    let last = g.D.Folder.asked c.close_stores.new.folder in
    let kept = c.walk_all-walked.ensures.kept in
    let all_known : is_some last ≡ is_some old =
    ap (λ (a : Option Asked). is_some a) c.close_stores.ensures.asked
    ∙ closed_knows (files_of g.D.File.File c.end.result.elements) mid ∙ ap (λ (a : Option Asked). is_some a) kept.asked in
    record {
      opened = one_open 1 name old last (file_state g.D.File.File c.args.store.now.file)
          (file_state g.D.File.File c.walk_all-walked.new.store.file) c.requires.opened c.walk_all-walked.ensures.store all_known;
      others = subst (λ (a : Option Asked). AreOtherNamesAsBefore name a last) kept.asked
          (others_closed name loaders left mid last
          (same_open loaders name (g.M.PassMachine.state c.args.machine).files left mid
          (subst (λ (a : Option Asked). AreOpen loaders name a (g.M.PassMachine.state c.args.machine).files) (sym kept.asked) c.requires.loaders)
          kept.same)
          (c.close_stores.ensures.asked ∙ ap (λ (fs : List FileState). with_closed fs mid) c.end.ensures));
      faults = omega (arith, kept.faults, c.close_stores.ensures.faults);
      out_faults = kept.out_faults;
    }

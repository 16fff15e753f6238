use Rattle.std.proofs.Common.{◌≡◌, ℕ, List, [], ◌∷◌, sum, Option, refl, ap, sym, ◌∙◌, subst, arith}
use Rattle.std.specs.Prelude.{is_some}
use Rattle.vt_outside.specs.Counts.{RoseBy}
use Rattle.vt_outside.specs.Files.{Asked}
use Rattle.vt_walk_decisions.specs.Requests.{FileState, counts_of}
use Rattle.vt_walk_decisions.specs.Machines.{file_state, files_of, setup_of}
use Rattle.vt_walk_decisions.specs.declared.error.WalkError.{WalkError}
use Rattle.vt_walk.specs.States.{AreOpen, places_of, walk_state}
use Rattle.vt_walk.specs.Closing.{with_closed}
use Rattle.vt_walk.specs.WalkInputs.{given_of}
use Rattle.vt_walk.specs.WalkSteps.{LeftByRefusal}
use Rattle.vt_walk.specs.DrawnBy.{IsDrawnBySome}
use Rattle.vt_walk.proofs.Closings.{closed_knows, others_closed}
use Rattle.vt_walk.proofs.Concluding.{one_open, stores_closed}
use Rattle.vt_walk.proofs.walk.walk_stores.Goals as goal

pub walk_machine-requires-clause-begins : goal.walk_machine-requires-clause-begins
walk_machine-requires-clause-begins g c κs within = record {
  setup = c.in-Ok.ensures.begins.setup
      ∙ ap (λ (known : Option (List ℕ)). setup_of c.args.input.now.geometry.now c.args.input.now.depth c.args.input.now.path.now
      c.args.input.now.settings.frames c.args.input.now.settings.crew known)
      c.requires.stores.known_is;
  journal = c.in-Ok.ensures.begins.journal;
}

pub walk_machine-requires-clause-no_faults : goal.walk_machine-requires-clause-no_faults
walk_machine-requires-clause-no_faults g c κs within =
    ap (λ (fs : List FileState). sum (counts_of fs)) c.in-Ok.ensures.begins.files_are ∙ c.requires.stores.no_faults

pub walk_machine-requires-clause-no_places : goal.walk_machine-requires-clause-no_places
walk_machine-requires-clause-no_places g c κs within =
    ap (λ (fs : List FileState). places_of fs) c.in-Ok.ensures.begins.files_are ∙ c.requires.stores.no_places

pub walk_machine-requires-clause-loaders : goal.walk_machine-requires-clause-loaders
walk_machine-requires-clause-loaders g c κs within =
    subst (λ (fs : List FileState). AreOpen c.args.input.now.settings.crew.loaders c.args.input.now.names.store.now (g.D.Folder.asked c.args.folder.now) fs)
    (sym c.in-Ok.ensures.begins.files_are) c.requires.stores.opened

pub returns-in-Err-clause-walked : goal.returns-in-Err-clause-walked
returns-in-Err-clause-walked g c =
    let drawn = IsDrawnBySome g.M.PassMachine in
    let given = given_of g.M.PassMachine.drawing c.args.input.now
    (g.D.File.File.bytes c.args.store.now.file) in
    let name = c.args.input.now.names.store.now in
    let kept = file_state g.D.File.File c.args.store.now.file in
    let opened = files_of g.D.File.File c.args.stores.elements in
    let held = g.O.Sink.held c.args.out.now in
    let faults = g.O.Sink.faults c.args.out.now in
    let old = c.args.folder.now in
    let last = c.close_stores.new.folder in
    subst (λ (e : WalkError). LeftByRefusal drawn given (walk_state g.D.Folder name old (kept ∷ []) held faults) (walk_state g.D.Folder name last
    (kept ∷ []) held faults) e)
    (sym c.into.ensures)
    (stores_closed g.D.Folder name drawn given kept opened old last held faults c.args.input.now.settings.crew.loaders
    c.requires.stores.opened c.requires.stores.no_places c.requires.stores.no_faults
    (c.close_stores.ensures.asked ∙ ap (λ (fs : List FileState). with_closed fs (g.D.Folder.asked old)) c.in-Err.ensures.refused)
    (subst (λ (fs : List FileState). RoseBy (sum (counts_of fs)) (g.D.Folder.faults old)
    (g.D.Folder.faults last)) c.in-Err.ensures.refused c.close_stores.ensures.rose)
    c.close_stores.ensures.files)

pub returns-in-Ok-clause-counted : goal.returns-in-Ok-clause-counted
returns-in-Ok-clause-counted g c = c.walk_machine.ensures.counted

pub returns-in-Ok-clause-closed : goal.returns-in-Ok-clause-closed
returns-in-Ok-clause-closed g c = c.walk_machine.ensures.closed

pub returns-in-Err-clause-closed : goal.returns-in-Err-clause-closed
returns-in-Err-clause-closed g c =
    let name = c.args.input.now.names.store.now in
    let old = g.D.Folder.asked c.args.folder.now in
    let last = g.D.Folder.asked c.close_stores.new.folder in
    let kept = file_state g.D.File.File c.args.store.now.file in
    let all_known : is_some last ≡ is_some old =
    ap (λ (a : Option Asked). is_some a) c.close_stores.ensures.asked ∙ closed_knows (files_of g.D.File.File c.in-Err.stores.elements) old in
    record {
      opened = one_open 1 name old last kept kept c.requires.opened (record { name = refl; all_known = refl }) all_known;
      others = others_closed name c.args.input.now.settings.crew.loaders (files_of g.D.File.File c.args.stores.elements) old last
          c.requires.stores.opened (c.close_stores.ensures.asked ∙ ap (λ (fs : List FileState). with_closed fs old) c.in-Err.ensures.refused);
      faults = c.close_stores.ensures.faults;
      out_faults = omega arith;
    }

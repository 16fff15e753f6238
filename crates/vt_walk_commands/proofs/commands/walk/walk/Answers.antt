use Rattle.std.proofs.lemmas.Result.{err_from_is_err_and}
use Rattle.vt_command_inputs.specs.Effects.{folder_state, sink_state}
use Rattle.vt_command_words.specs.Walk.{shown_walk}
use Rattle.vt_walk_commands.specs.Machines.{kind_of}
use Rattle.vt_command_inputs.specs.Reads.{file_state, Closed}
use Rattle.vt_walk_commands.specs.commands.Walk.{WalkOf}
use Rattle.vt_walk_commands.proofs.Walking.{HasInputs, path_refused, store_refused, many_refused, not_many, names_apart, walk_ends}
use Rattle.vt_walk_commands.proofs.commands.walk.walk.Goals as goal

pub returns-in_err-path : goal.returns-in_err-path
returns-in_err-path g c =
    let p = err_from_is_err_and c.from_residual.result c.from_residual.ensures.1 in
    let m = kind_of g.M.PassMachine in
    rw (p.1, p.2) (path_refused m (shown_walk c.args.words.now) c.in_err-path.field-0.0 (folder_state g.D.Folder c.args.folder.now)
    (folder_state g.D.Folder c.read_path.new.folder) (sink_state g.O.Sink c.args.out.now) c.in_err-path.ensures)

pub returns-in_err-store : goal.returns-in_err-store
returns-in_err-store g c =
    let p = err_from_is_err_and c.from_residual-in_err-store.result c.from_residual-in_err-store.ensures.1 in
    let m = kind_of g.M.PassMachine in
    rw (p.1, p.2) (store_refused m (shown_walk c.args.words.now) c.in_ok-path.path c.in_err-store.field-0.0
    (folder_state g.D.Folder c.args.folder.now) (folder_state g.D.Folder c.read_path.new.folder) (folder_state g.D.Folder c.open_store.new.folder)
    (sink_state g.O.Sink c.args.out.now) c.in_ok-path.ensures c.in_err-store.ensures.refused)

pub returns-then-has_many_texels : goal.returns-then-has_many_texels
returns-then-has_many_texels g c =
    let m = kind_of g.M.PassMachine in
    let words = shown_walk c.args.words.now in
    let store = c.in_ok-store.store in
    let file = file_state g.D.File.File store.file in
    let of : WalkOf = record { path = c.in_ok-path.path; shape = store.shape; depth = store.depth } in
    let f0 = folder_state g.D.Folder c.args.folder.now in
    let f1 = folder_state g.D.Folder c.read_path.new.folder in
    let f2 = folder_state g.D.Folder c.open_store.new.folder in
    let f3 = folder_state g.D.Folder c.close.new.self in
    let inputs : HasInputs words of file f0 f1 f2 = record { path_read = c.in_ok-path.ensures; opened = c.in_ok-store.ensures.opens } in
    let shut : Closed (file_state g.D.File.File c.into_file.result) (record { before = f2; after = f3 }) =
    record { files = c.close.ensures.files; asked = c.close.ensures.asked; kept = c.close.ensures.kept; faults = c.close.ensures.faults } in
    let closed : Closed file (record { before = f2; after = f3 }) = rw c.into_file.ensures at shut in
    many_refused m words of file f0 f1 f2 f3 (sink_state g.O.Sink c.args.out.now) inputs closed
    (rw c.geometry.ensures.shape at c.has_many_texels.ensures.0 c.if-has_many_texels.true)

pub returns : goal.returns
returns g c =
    let m = kind_of g.M.PassMachine in
    let words = shown_walk c.args.words.now in
    let store = c.in_ok-store.store in
    let file = file_state g.D.File.File store.file in
    let of : WalkOf = record { path = c.in_ok-path.path; shape = store.shape; depth = store.depth } in
    let f0 = folder_state g.D.Folder c.args.folder.now in
    let f1 = folder_state g.D.Folder c.read_path.new.folder in
    let f2 = folder_state g.D.Folder c.open_store.new.folder in
    let f3 = folder_state g.D.Folder c.walk_with-walked.new.folder in
    let inputs : HasInputs words of file f0 f1 f2 = record { path_read = c.in_ok-path.ensures; opened = c.in_ok-store.ensures.opens } in
    let e = c.walk_with-walked.ensures in
    walk_ends m words of file f0 f1 f2 f3 (sink_state g.O.Sink c.args.out.now) (sink_state g.O.Sink c.walk_with-walked.new.out)
    c.walk_with-walked.result c.answer_of.result (record {
      inputs = inputs;
      few_texels = not_many words of c.geometry.result c.has_many_texels.result c.geometry.ensures.shape c.has_many_texels.ensures.1 c.if-has_many_texels.false;
      apart = names_apart words c.requires.apart;
      came = e.walked;
      few_frames = e.few;
      others = e.others;
    }) c.answer_of.ensures

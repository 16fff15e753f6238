use Rattle.std.proofs.Common.{ℕ, List, sym, subst}
use Rattle.std.proofs.lemmas.Result.{err_from_is_err_and}
use Rattle.vt_tiles.specs.StoreViews.{StoreView}
use Rattle.vt_command_inputs.specs.Effects.{folder_state, sink_state}
use Rattle.vt_command_words.specs.Replay.{shown_replay}
use Rattle.vt_command_inputs.specs.Inputs.{JournalInput, TextContent}
use Rattle.vt_command_inputs.specs.Reads.{file_state, OpensStore, TookInput}
use Rattle.vt_walk_commands.proofs.Replaying.{HasInputs, path_refused, store_refused, journal_refused, answer_refused, answer_unknown, answer_known}
use Rattle.vt_walk_commands.proofs.commands.replay.replay.Goals as goal

pub returns-in_err-path : goal.returns-in_err-path
returns-in_err-path g c =
    let p = err_from_is_err_and c.from_residual.result c.from_residual.ensures.1 in
    rw (p.1, p.2) (path_refused (shown_replay c.args.words.now) c.in_err-path.field-0.0 (folder_state g.D.Folder c.args.folder.now)
    (folder_state g.D.Folder c.read_path.new.folder) (sink_state g.O.Sink c.args.out.now) c.in_err-path.ensures)

pub returns-in_err-store : goal.returns-in_err-store
returns-in_err-store g c =
    let p = err_from_is_err_and c.from_residual-in_err-store.result c.from_residual-in_err-store.ensures.1 in
    rw (p.1, p.2) (store_refused (shown_replay c.args.words.now) c.in_ok-path.path c.in_err-store.field-0.0
    (folder_state g.D.Folder c.args.folder.now) (folder_state g.D.Folder c.read_path.new.folder) (folder_state g.D.Folder c.open_store.new.folder)
    (sink_state g.O.Sink c.args.out.now) c.in_ok-path.ensures c.in_err-store.ensures.refused)

pub returns-in_err-store-2 : goal.returns-in_err-store-2
returns-in_err-store-2 g c =
    let p = err_from_is_err_and c.from_residual-in_err-store-2.result c.from_residual-in_err-store-2.ensures.1 in
    let store = c.in_ok-store.store in
    rw (p.1, p.2) (journal_refused (shown_replay c.args.words.now) c.in_ok-path.path store.shape store.depth (file_state g.D.File.File store.file)
    c.in_err-store-2.field-0.0 (folder_state g.D.Folder c.args.folder.now) (folder_state g.D.Folder c.read_path.new.folder)
    (folder_state g.D.Folder c.open_store.new.folder) (folder_state g.D.Folder c.read_beside.new.folder) (sink_state g.O.Sink c.args.out.now)
    c.in_ok-path.ensures c.in_ok-store.ensures.opens c.in_err-store-2.ensures.refused)

pub returns-in_err-pictures : goal.returns-in_err-pictures
returns-in_err-pictures g c =
    let p = err_from_is_err_and c.from_residual-in_err-pictures.result c.from_residual-in_err-pictures.ensures.1 in
    let words = shown_replay c.args.words.now in
    let f0 = folder_state g.D.Folder c.args.folder.now in
    let f1 = folder_state g.D.Folder c.read_path.new.folder in
    let f2 = folder_state g.D.Folder c.open_store.new.folder in
    let f3 = folder_state g.D.Folder c.read_beside.new.folder in
    let f4 = folder_state g.D.Folder c.play-played.new.folder in
    let store = c.in_ok-store-2.store in
    let file = file_state g.D.File.File store.file in
    let text = c.deref.result.now in
    let opened : OpensStore words.store store.shape store.depth file (record { before = f1; after = f2 }) =
    subst (λ (s : StoreView _). OpensStore words.store s.shape s.depth (file_state g.D.File.File s.file) (record { before = f1; after = f2 }))
    (sym c.in_ok-store-2.ensures.same) c.in_ok-store.ensures.opens in
    let read : TookInput (JournalInput words.journal) (TextContent text) (record { before = f2; after = f3 }) =
    subst (λ (t : List ℕ). TookInput (JournalInput words.journal) (TextContent t) (record { before = f2; after = f3 }))
    (sym c.deref.ensures.value) c.in_ok-store-2.ensures.took in
    let inputs : HasInputs words c.in_ok-path.path store.shape store.depth file text f0 f1 f2 f3 =
    record { path_read = c.in_ok-path.ensures; opened = opened; text_read = read } in
    let e = c.play-played.ensures in
    rw (p.1, p.2) (answer_refused words c.in_ok-path.path store.shape store.depth file text f0 f1 f2 f3 f4 (sink_state g.O.Sink c.args.out.now)
    c.play-played.result c.in_err-pictures.field-0.0 inputs e.closed e.leaves e.failed c.in_err-pictures.ensures)

pub returns-in_err-put_end : goal.returns-in_err-put_end
returns-in_err-put_end g c =
    let p = err_from_is_err_and c.from_residual-in_err-put_end.result c.from_residual-in_err-put_end.ensures.1 in
    let words = shown_replay c.args.words.now in
    let f0 = folder_state g.D.Folder c.args.folder.now in
    let f1 = folder_state g.D.Folder c.read_path.new.folder in
    let f2 = folder_state g.D.Folder c.open_store.new.folder in
    let f3 = folder_state g.D.Folder c.read_beside.new.folder in
    let f4 = folder_state g.D.Folder c.play-played.new.folder in
    let store = c.in_ok-store-2.store in
    let file = file_state g.D.File.File store.file in
    let text = c.deref.result.now in
    let opened : OpensStore words.store store.shape store.depth file (record { before = f1; after = f2 }) =
    subst (λ (s : StoreView _). OpensStore words.store s.shape s.depth (file_state g.D.File.File s.file) (record { before = f1; after = f2 }))
    (sym c.in_ok-store-2.ensures.same) c.in_ok-store.ensures.opens in
    let read : TookInput (JournalInput words.journal) (TextContent text) (record { before = f2; after = f3 }) =
    subst (λ (t : List ℕ). TookInput (JournalInput words.journal) (TextContent t) (record { before = f2; after = f3 }))
    (sym c.deref.ensures.value) c.in_ok-store-2.ensures.took in
    let inputs : HasInputs words c.in_ok-path.path store.shape store.depth file text f0 f1 f2 f3 =
    record { path_read = c.in_ok-path.ensures; opened = opened; text_read = read } in
    let e = c.play-played.ensures in
    rw (p.1, p.2) (answer_unknown words c.in_ok-path.path store.shape store.depth file text f0 f1 f2 f3 f4 (sink_state g.O.Sink c.args.out.now)
    (sink_state g.O.Sink c.put_end.new.out) c.play-played.result c.in_ok-pictures.pictures c.in_err-put_end.field-0.0 inputs e.closed e.leaves
    c.in_ok-pictures.ensures c.in_err-put_end.ensures)

pub returns : goal.returns
returns g c =
    let words = shown_replay c.args.words.now in
    let f0 = folder_state g.D.Folder c.args.folder.now in
    let f1 = folder_state g.D.Folder c.read_path.new.folder in
    let f2 = folder_state g.D.Folder c.open_store.new.folder in
    let f3 = folder_state g.D.Folder c.read_beside.new.folder in
    let f4 = folder_state g.D.Folder c.play-played.new.folder in
    let store = c.in_ok-store-2.store in
    let file = file_state g.D.File.File store.file in
    let text = c.deref.result.now in
    let opened : OpensStore words.store store.shape store.depth file (record { before = f1; after = f2 }) =
    subst (λ (s : StoreView _). OpensStore words.store s.shape s.depth (file_state g.D.File.File s.file) (record { before = f1; after = f2 }))
    (sym c.in_ok-store-2.ensures.same) c.in_ok-store.ensures.opens in
    let read : TookInput (JournalInput words.journal) (TextContent text) (record { before = f2; after = f3 }) =
    subst (λ (t : List ℕ). TookInput (JournalInput words.journal) (TextContent t) (record { before = f2; after = f3 }))
    (sym c.deref.ensures.value) c.in_ok-store-2.ensures.took in
    let inputs : HasInputs words c.in_ok-path.path store.shape store.depth file text f0 f1 f2 f3 =
    record { path_read = c.in_ok-path.ensures; opened = opened; text_read = read } in
    let e = c.play-played.ensures in
    answer_known words c.in_ok-path.path store.shape store.depth file text f0 f1 f2 f3 f4 (sink_state g.O.Sink c.args.out.now)
    (sink_state g.O.Sink c.put_end.new.out) c.play-played.result c.in_ok-pictures.pictures inputs e.closed e.leaves e.refused
    c.in_ok-pictures.ensures c.in_ok-put_end.ensures

use Rattle.std.proofs.Common.{[], ◌∷◌, Ok, Err, refl}
use Rattle.std.proofs.lemmas.Result.{err_from_is_err_and}
use Rattle.vt_outside.specs.Effects.{folder_state, sink_state}
use Rattle.vt_command_inputs.specs.Lines.{store_line}
use Rattle.vt_command_inputs.specs.Inputs.{StoreInput, StoreContent}
use Rattle.vt_store_commands.specs.commands.Info.{shown_info, info_task}
use Rattle.vt_command_inputs.proofs.Ending.{read_none, read_more, ends_refused, ends_done, ends_stopped}
use Rattle.vt_command_inputs.proofs.Leaving.{left_text}
use Rattle.vt_store_commands.proofs.commands.info.info.Goals as goal

pub returns-in_err-header : goal.returns-in_err-header
returns-in_err-header g c =
    let p = err_from_is_err_and c.from_residual.result c.from_residual.ensures.1 in
    let words = shown_info c.args.words.now in
    let before = folder_state g.D.Folder c.args.folder.now in
    rw (p.1, p.2) (ends_refused (info_task words) [] [] (StoreInput words.store) [] c.in_err-header.field-0.0
    before before (folder_state g.D.Folder c.read_store_header.new.folder) (sink_state g.O.Sink c.args.out.now) refl (read_none before)
    c.in_err-header.ensures.header)

pub returns-in_err-put_store_line : goal.returns-in_err-put_store_line
returns-in_err-put_store_line g c =
    let p = err_from_is_err_and c.from_residual-in_err-put_store_line.result c.from_residual-in_err-put_store_line.ensures.1 in
    let words = shown_info c.args.words.now in
    let before = folder_state g.D.Folder c.args.folder.now in
    let read = folder_state g.D.Folder c.read_store_header.new.folder in
    let shape = c.in_ok-header.header.geometry in
    let depth = c.in_ok-header.header.depth in
    let out = sink_state g.O.Sink c.args.out.now in
    let shown = sink_state g.O.Sink c.put_store_line.new.out in
    rw (p.1, p.2) (ends_stopped (info_task words) (StoreContent shape depth ∷ []) before read read out shown c.in_err-put_store_line.field-0.0
    (read_more [] [] (StoreInput words.store) (StoreContent shape depth) before before read (read_none before) c.in_ok-header.ensures.header)
    (left_text (store_line shape depth) read out shown (Err c.in_err-put_store_line.field-0.0) c.in_err-put_store_line.ensures))

pub returns : goal.returns
returns g c =
    let words = shown_info c.args.words.now in
    let before = folder_state g.D.Folder c.args.folder.now in
    let read = folder_state g.D.Folder c.read_store_header.new.folder in
    let shape = c.in_ok-header.header.geometry in
    let depth = c.in_ok-header.header.depth in
    let out = sink_state g.O.Sink c.args.out.now in
    let shown = sink_state g.O.Sink c.put_store_line.new.out in
    ends_done (info_task words) (StoreContent shape depth ∷ []) before read read out shown
    (read_more [] [] (StoreInput words.store) (StoreContent shape depth) before before read (read_none before) c.in_ok-header.ensures.header)
    (left_text (store_line shape depth) read out shown (Ok tt) c.in_ok-put_store_line.ensures)

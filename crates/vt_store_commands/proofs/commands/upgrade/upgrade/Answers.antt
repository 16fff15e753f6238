use Rattle.std.proofs.Common.{[], ◌∷◌, Ok, Err, refl, subst}
use Rattle.std.specs.Option.{unwrap_or}
use Rattle.std.proofs.lemmas.Result.{err_from_is_err_and}
use Rattle.vt_pages.specs.Shape.{Shape}
use Rattle.vt_store_commands.specs.commands.Upgrade.{shown_upgrade, upgrade_task, expected_wide}
use Rattle.vt_outside.specs.Effects.{folder_state, sink_state, sink_effect}
use Rattle.vt_command_inputs.specs.Lines.{store_line}
use Rattle.vt_command_inputs.specs.Inputs.{NarrowStore, NarrowContent}
use Rattle.vt_command_inputs.specs.Reads.{file_state}
use Rattle.vt_outside.specs.Expectations.{PutsText}
use Rattle.vt_command_inputs.proofs.Ending.{read_none, read_more, ends_refused, ends_done, ends_stopped}
use Rattle.vt_command_inputs.proofs.Leaving.{left_writing, left_putting}
use Rattle.vt_command_inputs.proofs.OpenWriting.{read_first}
use Rattle.vt_store_commands.proofs.Upgrading.{store_took, new_written, new_stopped}
use Rattle.vt_store_commands.proofs.commands.upgrade.upgrade.Goals as goal

pub returns-in_err-store : goal.returns-in_err-store
returns-in_err-store g c =
    let p = err_from_is_err_and c.from_residual.result c.from_residual.ensures.1 in
    let words = shown_upgrade c.args.words.now in
    let before = folder_state g.D.Folder c.args.folder.now in
    rw (p.1, p.2) (ends_refused (upgrade_task words) [] [] (NarrowStore words.store) [] c.in_err-store.field-0.0
    before before (folder_state g.D.Folder c.open_narrow.new.folder) (sink_state g.O.Sink c.args.out.now) refl (read_none before)
    c.in_err-store.ensures.refused)

pub returns-in_err-write_wide : goal.returns-in_err-write_wide
returns-in_err-write_wide g c =
    let p = err_from_is_err_and c.from_residual-in_err-write_wide.result c.from_residual-in_err-write_wide.ensures.1 in
    let words = shown_upgrade c.args.words.now in
    let before = folder_state g.D.Folder c.args.folder.now in
    let opened = folder_state g.D.Folder c.open_narrow.new.folder in
    let after = folder_state g.D.Folder c.write_wide.new.folder in
    let store = c.in_ok-store.store in
    let file = file_state g.D.File.File store.file in
    let bytes = unwrap_or file.bytes [] in
    let out = sink_state g.O.Sink c.args.out.now in
    let error = c.in_err-write_wide.field-0.0 in
    let o = c.in_ok-store.ensures.opens in
    let narrow = c.in_ok-store.ensures.narrow in
    let w = c.in_err-write_wide.ensures in
    rw (p.1, p.2) (ends_stopped (upgrade_task words) (NarrowContent store.shape bytes ∷ []) before (read_first before after) after out out error
    (read_more [] [] (NarrowStore words.store) (NarrowContent store.shape bytes) before before (read_first before after) (read_none before)
    (store_took words.store words.new_store store.shape store.depth file before opened after (Err error) narrow o w))
    (left_writing (expected_wide words.new_store store.shape bytes) (read_first before after) after out error
    (new_stopped words.store words.new_store store.shape store.depth file before opened after error o w)))

pub returns-in_err-put_store_line : goal.returns-in_err-put_store_line
returns-in_err-put_store_line g c =
    let p = err_from_is_err_and c.from_residual-in_err-put_store_line.result c.from_residual-in_err-put_store_line.ensures.1 in
    let words = shown_upgrade c.args.words.now in
    let before = folder_state g.D.Folder c.args.folder.now in
    let opened = folder_state g.D.Folder c.open_narrow.new.folder in
    let after = folder_state g.D.Folder c.write_wide.new.folder in
    let store = c.in_ok-store.store in
    let file = file_state g.D.File.File store.file in
    let bytes = unwrap_or file.bytes [] in
    let out = sink_state g.O.Sink c.args.out.now in
    let shown = sink_state g.O.Sink c.put_store_line.new.out in
    let error = c.in_err-put_store_line.field-0.0 in
    let o = c.in_ok-store.ensures.opens in
    let narrow = c.in_ok-store.ensures.narrow in
    let w = c.in_ok-write_wide.ensures in
    let puts = subst (λ (s : Shape). PutsText {T = Unit {0}} (store_line s 2) (sink_effect g.O.Sink c.args.out.now c.put_store_line.new.out) (Err error))
    c.geometry-geometry.ensures.shape c.in_err-put_store_line.ensures in
    rw (p.1, p.2) (ends_stopped (upgrade_task words) (NarrowContent store.shape bytes ∷ []) before (read_first before after) after out shown error
    (read_more [] [] (NarrowStore words.store) (NarrowContent store.shape bytes) before before (read_first before after) (read_none before)
    (store_took words.store words.new_store store.shape store.depth file before opened after (Ok tt) narrow o w))
    (left_putting (expected_wide words.new_store store.shape bytes) (read_first before after) after out shown (Err error)
    (new_written words.store words.new_store store.shape store.depth file before opened after o w) puts))

pub returns : goal.returns
returns g c =
    let words = shown_upgrade c.args.words.now in
    let before = folder_state g.D.Folder c.args.folder.now in
    let opened = folder_state g.D.Folder c.open_narrow.new.folder in
    let after = folder_state g.D.Folder c.write_wide.new.folder in
    let store = c.in_ok-store.store in
    let file = file_state g.D.File.File store.file in
    let bytes = unwrap_or file.bytes [] in
    let out = sink_state g.O.Sink c.args.out.now in
    let shown = sink_state g.O.Sink c.put_store_line.new.out in
    let o = c.in_ok-store.ensures.opens in
    let narrow = c.in_ok-store.ensures.narrow in
    let w = c.in_ok-write_wide.ensures in
    let puts = subst (λ (s : Shape). PutsText {T = Unit {0}} (store_line s 2) (sink_effect g.O.Sink c.args.out.now c.put_store_line.new.out) (Ok tt))
    c.geometry-geometry.ensures.shape c.in_ok-put_store_line.ensures in
    ends_done (upgrade_task words) (NarrowContent store.shape bytes ∷ []) before (read_first before after) after out shown
    (read_more [] [] (NarrowStore words.store) (NarrowContent store.shape bytes) before before (read_first before after) (read_none before)
    (store_took words.store words.new_store store.shape store.depth file before opened after (Ok tt) narrow o w))
    (left_putting (expected_wide words.new_store store.shape bytes) (read_first before after) after out shown (Ok tt)
    (new_written words.store words.new_store store.shape store.depth file before opened after o w) puts)

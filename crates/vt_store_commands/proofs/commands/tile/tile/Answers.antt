use Rattle.std.proofs.Common.{[], ◌∷◌, Ok, Err, ℕ, refl, ap, subst}
use Rattle.std.specs.Option.{unwrap_or}
use Rattle.std.proofs.lemmas.Result.{err_from_is_err_and}
use Rattle.vt_pages.specs.Shape.{Shape}
use Rattle.vt_ppm.specs.Strips.{texture_of}
use Rattle.vt_store_commands.specs.commands.Tile.{shown_tile, tile_task, made_store, expected_store}
use Rattle.vt_outside.specs.Effects.{folder_state, sink_state}
use Rattle.vt_command_inputs.specs.Lines.{store_line}
use Rattle.vt_command_inputs.specs.Inputs.{TiledTexture, TextureContent, AreStrips}
use Rattle.vt_command_inputs.specs.OpenWrites.{WritesMade}
use Rattle.vt_command_inputs.specs.Reads.{file_state}
use Rattle.vt_outside.specs.Expectations.{PutsText}
use Rattle.vt_command_inputs.proofs.Ending.{read_none, read_more, ends_refused, ends_done, ends_stopped}
use Rattle.vt_command_inputs.proofs.Leaving.{left_writing, left_putting}
use Rattle.vt_command_inputs.proofs.OpenWriting.{read_first}
use Rattle.vt_store_commands.proofs.Tiling.{texture_took, store_written, store_stopped}
use Rattle.vt_store_commands.proofs.commands.tile.tile.Goals as goal

pub returns-in_err-reader : goal.returns-in_err-reader
returns-in_err-reader g c =
    let p = err_from_is_err_and c.from_residual.result c.from_residual.ensures.1 in
    let words = shown_tile c.args.words.now in
    let before = folder_state g.D.Folder c.args.folder.now in
    rw (p.1, p.2) (ends_refused (tile_task words) [] [] (TiledTexture words.texture words.tile) [] c.in_err-reader.field-0.0
    before before (folder_state g.D.Folder c.open_pages.new.folder) (sink_state g.O.Sink c.args.out.now) refl (read_none before)
    c.in_err-reader.ensures.refused)

pub returns-in_err-write_store : goal.returns-in_err-write_store
returns-in_err-write_store g c =
    let p = err_from_is_err_and c.from_residual-in_err-write_store.result c.from_residual-in_err-write_store.ensures.1 in
    let words = shown_tile c.args.words.now in
    let before = folder_state g.D.Folder c.args.folder.now in
    let opened = folder_state g.D.Folder c.open_pages.new.folder in
    let after = folder_state g.D.Folder c.write_store.new.folder in
    let header = c.in_ok-reader.reader.header in
    let file = file_state g.D.File.File c.in_ok-reader.reader.file in
    let texture = texture_of header (unwrap_or file.bytes []) in
    let out = sink_state g.O.Sink c.args.out.now in
    let error = c.in_err-write_store.field-0.0 in
    let o = c.in_ok-reader.ensures.opens in
    let w = subst (λ (t : ℕ). WritesMade file (made_store header t) (AreStrips header t) words.store (record { before = opened; after = after }) (Err error))
    (ap (λ (s : Shape). s.tile) c.in_ok-reader.ensures.shape) c.in_err-write_store.ensures in
    rw (p.1, p.2) (ends_stopped (tile_task words) (TextureContent texture ∷ []) before (read_first before after) after out out error
    (read_more [] [] (TiledTexture words.texture words.tile) (TextureContent texture) before before (read_first before after) (read_none before)
    (texture_took words.texture words.store words.tile header file before opened after (Err error) c.in_ok-reader.ensures.few o w))
    (left_writing (expected_store words.store texture words.tile) (read_first before after) after out error
    (store_stopped words.texture words.store words.tile header file before opened after error o w)))

pub returns-in_err-put_store_line : goal.returns-in_err-put_store_line
returns-in_err-put_store_line g c =
    let p = err_from_is_err_and c.from_residual-in_err-put_store_line.result c.from_residual-in_err-put_store_line.ensures.1 in
    let words = shown_tile c.args.words.now in
    let before = folder_state g.D.Folder c.args.folder.now in
    let opened = folder_state g.D.Folder c.open_pages.new.folder in
    let after = folder_state g.D.Folder c.write_store.new.folder in
    let header = c.in_ok-reader.reader.header in
    let file = file_state g.D.File.File c.in_ok-reader.reader.file in
    let texture = texture_of header (unwrap_or file.bytes []) in
    let out = sink_state g.O.Sink c.args.out.now in
    let shown = sink_state g.O.Sink c.put_store_line.new.out in
    let error = c.in_err-put_store_line.field-0.0 in
    let o = c.in_ok-reader.ensures.opens in
    let shape = c.in_ok-reader.ensures.shape in
    let w = subst (λ (t : ℕ). WritesMade file (made_store header t) (AreStrips header t) words.store (record { before = opened; after = after }) (Ok tt))
    (ap (λ (s : Shape). s.tile) shape) c.in_ok-write_store.ensures in
    let puts = subst (λ (s : Shape). PutsText {T = Unit {0}} (store_line s texture.depth) (record { before = out; after = shown }) (Err error)) shape
    (subst (λ (d : ℕ). PutsText {T = Unit {0}} (store_line c.in_ok-reader.geometry d) (record { before = out; after = shown }) (Err error))
    c.depth-depth.ensures.value c.in_err-put_store_line.ensures) in
    rw (p.1, p.2) (ends_stopped (tile_task words) (TextureContent texture ∷ []) before (read_first before after) after out shown error
    (read_more [] [] (TiledTexture words.texture words.tile) (TextureContent texture) before before (read_first before after) (read_none before)
    (texture_took words.texture words.store words.tile header file before opened after (Ok tt) c.in_ok-reader.ensures.few o w))
    (left_putting (expected_store words.store texture words.tile) (read_first before after) after out shown (Err error)
    (store_written words.texture words.store words.tile header file before opened after o w) puts))

pub returns : goal.returns
returns g c =
    let words = shown_tile c.args.words.now in
    let before = folder_state g.D.Folder c.args.folder.now in
    let opened = folder_state g.D.Folder c.open_pages.new.folder in
    let after = folder_state g.D.Folder c.write_store.new.folder in
    let header = c.in_ok-reader.reader.header in
    let file = file_state g.D.File.File c.in_ok-reader.reader.file in
    let texture = texture_of header (unwrap_or file.bytes []) in
    let out = sink_state g.O.Sink c.args.out.now in
    let shown = sink_state g.O.Sink c.put_store_line.new.out in
    let o = c.in_ok-reader.ensures.opens in
    let shape = c.in_ok-reader.ensures.shape in
    let w = subst (λ (t : ℕ). WritesMade file (made_store header t) (AreStrips header t) words.store (record { before = opened; after = after }) (Ok tt))
    (ap (λ (s : Shape). s.tile) shape) c.in_ok-write_store.ensures in
    let puts = subst (λ (s : Shape). PutsText {T = Unit {0}} (store_line s texture.depth) (record { before = out; after = shown }) (Ok tt)) shape
    (subst (λ (d : ℕ). PutsText {T = Unit {0}} (store_line c.in_ok-reader.geometry d) (record { before = out; after = shown }) (Ok tt))
    c.depth-depth.ensures.value c.in_ok-put_store_line.ensures) in
    ends_done (tile_task words) (TextureContent texture ∷ []) before (read_first before after) after out shown
    (read_more [] [] (TiledTexture words.texture words.tile) (TextureContent texture) before before (read_first before after) (read_none before)
    (texture_took words.texture words.store words.tile header file before opened after (Ok tt) c.in_ok-reader.ensures.few o w))
    (left_putting (expected_store words.store texture words.tile) (read_first before after) after out shown (Ok tt)
    (store_written words.texture words.store words.tile header file before opened after o w) puts)

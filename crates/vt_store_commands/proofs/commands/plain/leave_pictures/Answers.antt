use Rattle.std.proofs.Common.{ℕ, Ok, Err, refl, subst}
use Rattle.std.proofs.lemmas.Result.{err_from_is_err_and}
use Rattle.vt_outside.specs.Effects.{folder_state, sink_state, folder_effect, sink_effect}
use Rattle.vt_command_inputs.specs.Lines.{end_line}
use Rattle.vt_outside.specs.Expectations.{PutsText}
use Rattle.vt_command_inputs.proofs.Leaving.{unleft, left_writing, left_putting}
use Rattle.vt_store_commands.specs.SeenTextures.{seen_path}
use Rattle.vt_store_commands.proofs.SeenTextures.{tile_some}
use Rattle.vt_store_commands.proofs.SeenPictures.{levels_few, levels_seen, surface_is, writes_seen}
use Rattle.vt_store_commands.proofs.commands.plain.leave_pictures.Goals as goal

pub returns-in_err-chain : goal.returns-in_err-chain
returns-in_err-chain g c =
    let p = err_from_is_err_and c.from_residual.result c.from_residual.ensures.1 in
    let words = c.args.words.now in
    rw (p.1, p.2) (unleft (seen_path words.prefix.now words.filter c.args.seen words.tile c.args.path.now)
    (folder_state g.D.Folder c.args.folder.now) (sink_state g.O.Sink c.args.out.now))

pub write_all-requires-after_bounds : goal.write_all-requires-after_bounds
write_all-requires-after_bounds g c κs within =
    let s = c.args.seen in
    let tile = c.args.words.now.tile in
    let some = tile_some tile c.requires.tile in
    let enough = c.requires.enough in
    levels_seen _ s tile c.args.path.now some enough c.in_ok-chain.ensures refl
    (surface_is s tile c.levels.result c.in_ok-chain.chain some enough.sides c.in_ok-chain.ensures c.levels.ensures.value)
    (levels_few s.width s.height tile c.requires.tile enough.limits.width_high enough.limits.height_high)

pub returns-in_err-write_all : goal.returns-in_err-write_all
returns-in_err-write_all g c =
    let p = err_from_is_err_and c.from_residual-in_err-write_all.result c.from_residual-in_err-write_all.ensures.1 in
    let s = c.args.seen in
    let words = c.args.words.now in
    let some = tile_some words.tile c.requires.tile in
    rw (p.1, p.2) (left_writing (seen_path words.prefix.now words.filter s words.tile c.args.path.now) (folder_state g.D.Folder c.args.folder.now)
    (folder_state g.D.Folder c.write_all.new.folder) (sink_state g.O.Sink c.args.out.now) c.in_err-write_all.field-0.0
    (writes_seen words.filter _ s words.tile c.args.path.now words.prefix.now (folder_effect g.D.Folder c.args.folder.now c.write_all.new.folder)
    (Err c.in_err-write_all.field-0.0) c.in_ok-chain.ensures refl
    (surface_is s words.tile c.levels.result c.in_ok-chain.chain some c.requires.enough.sides c.in_ok-chain.ensures c.levels.ensures.value)
    c.in_err-write_all.ensures))

pub returns : goal.returns
returns g c =
    let s = c.args.seen in
    let words = c.args.words.now in
    let some = tile_some words.tile c.requires.tile in
    left_putting (seen_path words.prefix.now words.filter s words.tile c.args.path.now) (folder_state g.D.Folder c.args.folder.now)
    (folder_state g.D.Folder c.write_all.new.folder) (sink_state g.O.Sink c.args.out.now) (sink_state g.O.Sink c.put_end.new.out) c.put_end.result
    (writes_seen words.filter _ s words.tile c.args.path.now words.prefix.now (folder_effect g.D.Folder c.args.folder.now c.write_all.new.folder)
    (Ok tt) c.in_ok-chain.ensures refl
    (surface_is s words.tile c.levels.result c.in_ok-chain.chain some c.requires.enough.sides c.in_ok-chain.ensures c.levels.ensures.value)
    c.in_ok-write_all.ensures)
    (subst (λ (n : ℕ). PutsText (end_line n) (sink_effect g.O.Sink c.args.out.now c.put_end.new.out) c.put_end.result) c.pictures.ensures.value c.put_end.ensures)

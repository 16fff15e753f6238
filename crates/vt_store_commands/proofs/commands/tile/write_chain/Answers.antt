use Rattle.std.proofs.Common.{◌≡◌, ◌⊎◌, ℕ, Err, ap, subst, arith, refl, inl}
use Rattle.vt_pages.specs.Shape.{Shape}
use Rattle.vt_outside.specs.Effects.{folder_state}
use Rattle.vt_tiles.specs.Made.{HoldsMade, HoldsMadeFront}
use Rattle.vt_ppm.specs.StripPlaces.{strips_of, strip_places}
use Rattle.vt_command_inputs.specs.Inputs.{AreStrips}
use Rattle.vt_command_inputs.specs.Reads.{file_state, Closed}
use Rattle.vt_store_commands.specs.commands.Tile.{made_store}
use Rattle.vt_command_inputs.proofs.OpenWriting.{made_written, made_stopped}
use Rattle.vt_store_commands.proofs.Tiling.{strips_tried}
use Rattle.vt_store_commands.proofs.commands.tile.write_chain.Goals as goal

pub returns-in-Ok : goal.returns-in-Ok
returns-in-Ok g c =
    let e = c.in-Ok.ensures in
    let mid = folder_state g.D.Folder c.write_strips-written.new.folder in
    let after = folder_state g.D.Folder c.close.new.self in
    let old = file_state g.D.File.File c.args.chain.file in
    let new = file_state g.D.File.File c.write_strips-written.new.chain.file in
    let header = c.args.chain.header in
    let tile = c.args.geometry.now.tile in
    let shut : Closed (file_state g.D.File.File c.into_file.result) (record { before = mid; after = after }) =
    record { files = c.close.ensures.files; asked = c.close.ensures.asked; kept = c.close.ensures.kept; faults = c.close.ensures.faults } in
    let closed : Closed new (record { before = mid; after = after }) = rw c.into_file.ensures at shut in
    let side : c.args.chain.tile ≡ tile = ap (λ (s : Shape). s.tile) c.requires in
    made_written (made_store header tile) (AreStrips header tile) c.args.name.now (folder_state g.D.Folder c.args.folder.now) mid after old new
    (strip_places header tile (strips_of header tile))
    (subst (λ (t : ℕ). HoldsMade old.bytes (made_store header t) c.args.name.now (g.D.Folder.files c.args.folder.now) mid.files) side e.whole)
    (strips_of header tile, omega arith, inl refl) e.all_read e.name e.asked e.faults closed

pub returns-in-Err : goal.returns-in-Err
returns-in-Err g c =
    let e = c.in-Err.ensures in
    let mid = folder_state g.D.Folder c.write_strips-written.new.folder in
    let after = folder_state g.D.Folder c.close.new.self in
    let old = file_state g.D.File.File c.args.chain.file in
    let new = file_state g.D.File.File c.write_strips-written.new.chain.file in
    let header = c.args.chain.header in
    let tile = c.args.geometry.now.tile in
    let tried = strips_tried header tile old.asked new.asked e.front_read in
    let shut : Closed (file_state g.D.File.File c.into_file.result) (record { before = mid; after = after }) =
    record { files = c.close.ensures.files; asked = c.close.ensures.asked; kept = c.close.ensures.kept; faults = c.close.ensures.faults } in
    let closed : Closed new (record { before = mid; after = after }) = rw c.into_file.ensures at shut in
    let side : c.args.chain.tile ≡ tile = ap (λ (s : Shape). s.tile) c.requires in
    made_stopped (made_store header tile) (AreStrips header tile) c.args.name.now (folder_state g.D.Folder c.args.folder.now) mid after old new
    tried.0 c.outside_error.result
    (subst (λ (t : ℕ). (mid.files ≡ g.D.Folder.files c.args.folder.now)
    ⊎ HoldsMadeFront old.bytes (made_store header t) c.args.name.now (g.D.Folder.files c.args.folder.now) mid.files) side e.part)
    tried.1 tried.2 (λ is. e.failed (ap Err (c.outside_error.ensures.0 is))) e.name e.asked e.faults closed

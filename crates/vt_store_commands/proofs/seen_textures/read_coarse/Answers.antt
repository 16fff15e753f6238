use Rattle.std.proofs.Common.{◌≡◌, [], Err, ap}
use Rattle.std.proofs.lemmas.Result.{err_from_is_err_and}
use Rattle.std.specs.Option.{unwrap_or}
use Rattle.vt_ppm.specs.Strips.{texture_of}
use Rattle.vt_outside.specs.Effects.{folder_state}
use Rattle.vt_command_inputs.specs.Reads.{Closed, file_state}
use Rattle.vt_command_inputs.proofs.Seeing.{texture_there}
use Rattle.vt_store_commands.proofs.SeenTextures.{tile_some, coarse_took, coarse_refused, enough_of, files_of}
use Rattle.vt_store_commands.proofs.seen_textures.read_coarse.Goals as goal

pub returns-in_err-seen-clause-refused : goal.returns-in_err-seen-clause-refused
returns-in_err-seen-clause-refused g c =
    let p = err_from_is_err_and c.from_residual-in_err-seen.result c.from_residual-in_err-seen.ensures.1 in
    let before = folder_state g.D.Folder c.args.folder.now in
    let opened = folder_state g.D.Folder c.open_image.new.folder in
    let after = folder_state g.D.Folder c.close.new.self in
    let old = file_state g.D.File.File c.in_ok-reader.reader.file in
    let new = file_state g.D.File.File c.seen_in-seen.new.reader.file in
    let shut : Closed (file_state g.D.File.File c.into_file.result) (record { before = opened; after = after }) =
    record { files = c.close.ensures.files; asked = c.close.ensures.asked; kept = c.close.ensures.kept; faults = c.close.ensures.faults } in
    let closed : Closed new (record { before = opened; after = after }) = rw c.into_file.ensures at shut in
    rw (p.1, p.2) (coarse_refused c.args.name.now c.in_ok-reader.reader.header before opened after old new c.in_ok-reader.ensures.opens closed
    c.seen_in-seen.ensures.name c.in_err-seen.field-0.0 c.in_err-seen.ensures.tried (λ is. c.in_err-seen.ensures.failed (ap Err is)))

pub returns-clause-sees : goal.returns-clause-sees
returns-clause-sees g c =
    let h = c.in_ok-reader.reader.header in
    let s = c.in_ok-seen.field-0 in
    let before = folder_state g.D.Folder c.args.folder.now in
    let opened = folder_state g.D.Folder c.open_image.new.folder in
    let after = folder_state g.D.Folder c.close.new.self in
    let old = file_state g.D.File.File c.in_ok-reader.reader.file in
    let new = file_state g.D.File.File c.seen_in-seen.new.reader.file in
    let o = c.in_ok-reader.ensures.opens in
    let shut : Closed (file_state g.D.File.File c.into_file.result) (record { before = opened; after = after }) =
    record { files = c.close.ensures.files; asked = c.close.ensures.asked; kept = c.close.ensures.kept; faults = c.close.ensures.faults } in
    let closed : Closed new (record { before = opened; after = after }) = rw c.into_file.ensures at shut in
    record {
      texture = texture_of h (unwrap_or old.bytes []);
      took = coarse_took c.args.name.now h before opened after old new o closed c.seen_in-seen.ensures.name c.in_ok-reader.ensures.sides
          c.in_ok-seen.ensures.read;
      enough = enough_of old.bytes h c.args.tile c.args.path.now s (tile_some c.args.tile c.requires.tile) o.limits c.in_ok-seen.ensures.seen c.requires.wants;
      files = λ known picture inside.
          let there = texture_there c.args.name.now h old (record { before = before; after = opened }) o known in
          let is : unwrap_or old.bytes [] ≡ there.0 = ap (λ t. unwrap_or t []) there.1 in
          rw is (files_of there.0 old.bytes h c.args.tile c.args.path.now s picture there.1 there.3 c.in_ok-seen.ensures.seen inside c.requires.wants);
    }

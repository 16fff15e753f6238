use Rattle.std.proofs.Common.{◌≡◌, ℕ, ◌+◌, ◌-◌, ◌*◌, Ok, Err, length, refl, ap, sym, subst, ◌∙◌, arith}
use Rattle.std.proofs.lemmas.Result.{err_from_is_err_and}
use Rattle.vt_pictures.specs.Names.{picture_name}
use Rattle.vt_outside.specs.Effects.{folder_state, folder_effect}
use Rattle.vt_outside.proofs.Writing.{written_as}
use Rattle.vt_pictures.proofs.WrittenPictures.{HasPictures, more_pictures, stopped_pictures}
use Rattle.vt_store_commands.specs.PlainFiles.{picture_file_of, file_size}
use Rattle.vt_store_commands.proofs.PlainFiles.{length-file, piece_is, held_parts, file_within}
use Rattle.vt_store_commands.proofs.plain_groups.write_files.Goals as goal

pub loop-picture-init : goal.loop-picture-init
loop-picture-init g c = λ before was. record { files = was.1; asks = was.0 }

pub loop-picture-preserved : goal.loop-picture-preserved
loop-picture-preserved g c = λ before was.
    let p = c.args.pictures.now in
    let size = c.file_size-size.result in
    let picture = c.loop-picture.picture in
    let at = size * (picture - c.args.first) in
    let name = picture_name c.args.prefix.now picture in
    let each : (i : ℕ) → length (picture_file_of p i) ≡ size = λ i. length-file p c.requires.space.has i ∙ sym c.file_size-size.ensures.value in
    let piece = piece_is (picture_file_of p) size each c.args.first picture c.args.end (at + size - at) c.args.room.now _ (omega arith) (omega arith) (omega arith)
    (held_parts p c.args.first c.args.end c.args.room.now c.requires) in
    more_pictures c.args.prefix.now (picture_file_of p) picture before (folder_state g.D.Folder c.loop-picture.folder)
    (folder_state g.D.Folder c.write_named.new.folder) (c.loop-picture.invariant before was)
    (written_as name _ name (picture_file_of p picture) (folder_effect g.D.Folder c.loop-picture.folder c.write_named.new.folder) (Ok tt) refl piece
    c.in_ok-write_named.ensures)

pub slice_bounds-write_named-end : goal.slice_bounds-write_named-end
slice_bounds-write_named-end g c =
    let p = c.args.pictures.now in
    let size = c.file_size-size.result in
    let whole : size * (c.args.end - c.args.first) ≡ file_size p * (c.args.end - c.args.first) =
    ap (λ (n : ℕ). n * (c.args.end - c.args.first)) c.file_size-size.ensures.value in
    file_within size c.args.first c.loop-picture.picture c.args.end (length c.args.room.now) (omega (arith, whole, c.requires.space.fits)) (omega arith)
    (omega arith)

pub returns-in_err-write_named : goal.returns-in_err-write_named
returns-in_err-write_named g c = λ before was.
    let q = err_from_is_err_and c.from_residual.result c.from_residual.ensures.1 in
    let p = c.args.pictures.now in
    let size = c.file_size-size.result in
    let picture = c.loop-picture.picture in
    let at = size * (picture - c.args.first) in
    let name = picture_name c.args.prefix.now picture in
    let each : (i : ℕ) → length (picture_file_of p i) ≡ size = λ i. length-file p c.requires.space.has i ∙ sym c.file_size-size.ensures.value in
    let piece = piece_is (picture_file_of p) size each c.args.first picture c.args.end (at + size - at) c.args.room.now _ (omega arith) (omega arith) (omega arith)
    (held_parts p c.args.first c.args.end c.args.room.now c.requires) in
    rw (q.1, q.2) (stopped_pictures c.args.prefix.now (picture_file_of p) picture (length p.path.now.cameras) before (folder_state g.D.Folder c.loop-picture.folder)
    (folder_state g.D.Folder c.write_named.new.folder) c.in_err-write_named.field-0.0 (omega (arith, c.requires.space.few, c.loop-picture-test.true))
    (c.loop-picture.invariant before was)
    (written_as name _ name (picture_file_of p picture) (folder_effect g.D.Folder c.loop-picture.folder c.write_named.new.folder)
    (Err c.in_err-write_named.field-0.0) refl piece c.in_err-write_named.ensures))

pub returns : goal.returns
returns g c = λ before was.
    let p = c.args.pictures.now in
    let last : c.loop-picture.picture ≡ c.args.end = omega (arith, c.requires.space.order, c.loop-picture-test.false) in
    let h = subst (λ (n : ℕ). HasPictures c.args.prefix.now (picture_file_of p) n before (folder_state g.D.Folder c.loop-picture.folder)) last
    (c.loop-picture.invariant before was) in (h.asks, h.files)

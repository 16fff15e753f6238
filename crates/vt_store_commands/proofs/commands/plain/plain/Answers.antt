use Rattle.std.proofs.Common.{[], ◌∷◌, Ok, Err, refl, length, subst}
use Rattle.std.specs.Option.{IsSome}
use Rattle.std.proofs.lemmas.Result.{err_from_is_err_and}
use Rattle.vt_outside.specs.Effects.{folder_state, sink_state, call_effect}
use Rattle.vt_pictures.specs.Pictures.{expected_pictures}
use Rattle.vt_command_inputs.specs.Inputs.{PathInput, TextureInput, PathContent, TextureContent}
use Rattle.vt_command_inputs.specs.Lines.{end_line}
use Rattle.vt_store_commands.specs.commands.Plain.{shown_plain, plain_task}
use Rattle.vt_store_commands.specs.Pictures.{plain_file}
use Rattle.vt_store_commands.specs.SeenTextures.{seen_file}
use Rattle.vt_command_inputs.proofs.Ending.{read_none, read_more, ends_refused, ends_done, ends_stopped}
use Rattle.vt_store_commands.proofs.Drawing.{pictures_alike}
use Rattle.vt_store_commands.proofs.SeenPictures.{leaves_alike}
use Rattle.vt_store_commands.proofs.commands.plain.plain.Goals as goal

pub returns-in_err-path : goal.returns-in_err-path
returns-in_err-path g c =
    let p = err_from_is_err_and c.from_residual.result c.from_residual.ensures.1 in
    let words = shown_plain c.args.words.now in
    let before = folder_state g.D.Folder c.args.folder.now in
    rw (p.1, p.2) (ends_refused (plain_task words) [] [] (PathInput words.path) (TextureInput words.texture ∷ []) c.in_err-path.field-0.0
    before before (folder_state g.D.Folder c.read_path.new.folder) (sink_state g.O.Sink c.args.out.now) refl (read_none before) c.in_err-path.ensures)

pub returns-in_err-seen : goal.returns-in_err-seen
returns-in_err-seen g c =
    let p = err_from_is_err_and c.from_residual-in_err-seen.result c.from_residual-in_err-seen.ensures.1 in
    let words = shown_plain c.args.words.now in
    let before = folder_state g.D.Folder c.args.folder.now in
    let mid = folder_state g.D.Folder c.read_path.new.folder in
    rw (p.1, p.2) (ends_refused (plain_task words) (PathInput words.path ∷ []) (PathContent c.in_ok-path.path ∷ [])
    (TextureInput words.texture) [] c.in_err-seen.field-0.0
    before mid (folder_state g.D.Folder c.read_seen.new.folder) (sink_state g.O.Sink c.args.out.now) refl
    (read_more [] [] (PathInput words.path) (PathContent c.in_ok-path.path) before before mid (read_none before) c.in_ok-path.ensures)
    c.in_err-seen.ensures.refused)

pub leave_pictures-requires-clause-enough : goal.leave_pictures-requires-clause-enough
leave_pictures-requires-clause-enough g c κs within = c.in_ok-seen.ensures.sees.enough

pub returns-in_err-leave_pictures : goal.returns-in_err-leave_pictures
returns-in_err-leave_pictures g c =
    let p = err_from_is_err_and c.from_residual-in_err-leave_pictures.result c.from_residual-in_err-leave_pictures.ensures.1 in
    let words = shown_plain c.args.words.now in
    let before = folder_state g.D.Folder c.args.folder.now in
    let mid = folder_state g.D.Folder c.read_path.new.folder in
    let read = folder_state g.D.Folder c.read_seen.new.folder in
    let shown = c.in_ok-path.path in
    let s = c.in_ok-seen.seen in
    let sees = c.in_ok-seen.ensures.sees in
    let n = length shown.cameras in
    let file = seen_file words.filter s words.tile shown in
    let other = plain_file words.filter sees.texture words.tile shown in
    let path = PathContent shown in
    let texture = TextureContent sees.texture in
    let left = leaves_alike (expected_pictures words.prefix file n) (expected_pictures words.prefix other n) (end_line n)
    (call_effect g.D.Folder g.O.Sink c.read_seen.new.folder c.leave_pictures.new.folder c.args.out.now c.leave_pictures.new.out)
    (Err c.in_err-leave_pictures.field-0.0)
    (λ known. pictures_alike words.prefix file other n (λ i low. sees.files (subst IsSome sees.took.files known) i low))
    c.in_err-leave_pictures.ensures in
    rw (p.1, p.2) (ends_stopped (plain_task words) (path ∷ texture ∷ []) before read (folder_state g.D.Folder c.leave_pictures.new.folder)
    (sink_state g.O.Sink c.args.out.now) (sink_state g.O.Sink c.leave_pictures.new.out) c.in_err-leave_pictures.field-0.0
    (read_more (PathInput words.path ∷ []) (path ∷ []) (TextureInput words.texture) texture before mid read
    (read_more [] [] (PathInput words.path) path before before mid (read_none before) c.in_ok-path.ensures) sees.took)
    left)

pub returns : goal.returns
returns g c =
    let words = shown_plain c.args.words.now in
    let before = folder_state g.D.Folder c.args.folder.now in
    let mid = folder_state g.D.Folder c.read_path.new.folder in
    let read = folder_state g.D.Folder c.read_seen.new.folder in
    let shown = c.in_ok-path.path in
    let s = c.in_ok-seen.seen in
    let sees = c.in_ok-seen.ensures.sees in
    let n = length shown.cameras in
    let file = seen_file words.filter s words.tile shown in
    let other = plain_file words.filter sees.texture words.tile shown in
    let path = PathContent shown in
    let texture = TextureContent sees.texture in
    let left = leaves_alike (expected_pictures words.prefix file n) (expected_pictures words.prefix other n) (end_line n)
    (call_effect g.D.Folder g.O.Sink c.read_seen.new.folder c.leave_pictures.new.folder c.args.out.now c.leave_pictures.new.out)
    (Ok tt)
    (λ known. pictures_alike words.prefix file other n (λ i low. sees.files (subst IsSome sees.took.files known) i low))
    c.in_ok-leave_pictures.ensures in
    ends_done (plain_task words) (path ∷ texture ∷ []) before read (folder_state g.D.Folder c.leave_pictures.new.folder)
    (sink_state g.O.Sink c.args.out.now) (sink_state g.O.Sink c.leave_pictures.new.out)
    (read_more (PathInput words.path ∷ []) (path ∷ []) (TextureInput words.texture) texture before mid read
    (read_more [] [] (PathInput words.path) path before before mid (read_none before) c.in_ok-path.ensures) sees.took)
    left

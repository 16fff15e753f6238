use Rattle.std.proofs.Common.{◌≡◌, ℕ, List, [], Option, Some, None, Ok, refl, sym, ap}
use Rattle.std.specs.Option.{option_map}
use Rattle.std.proofs.lemmas.List.{append-nil}
use Rattle.std.proofs.lemmas.Result.{err_from_is_err_and}
use Rattle.vt_outside.specs.Files.{gained}
use Rattle.vt_store_commands.specs.commands.Gen.{shown_gen, expected_gen, gen_task}
use Rattle.vt_outside.specs.Effects.{folder_state}
use Rattle.vt_command_inputs.proofs.Ending.{read_none, ends_done, ends_stopped}
use Rattle.vt_command_inputs.proofs.Leaving.{left_writing, left_putting}
use Rattle.vt_store_commands.proofs.commands.generate.generate.Goals as goal

nothing_gained : (held : Option (List ℕ)) → held ≡ option_map (gained []) held
nothing_gained None = refl
nothing_gained (Some text) = ap Some (sym (append-nil text))

pub returns-in_err-write_texture : goal.returns-in_err-write_texture
returns-in_err-write_texture g c = λ out.
    let p = err_from_is_err_and c.from_residual.result c.from_residual.ensures.1 in
    let words = shown_gen c.args.words.now in
    let before = folder_state g.D.Folder c.args.folder.now in
    let after = folder_state g.D.Folder c.write_texture.new.folder in
    rw (p.1, p.2) (ends_stopped (gen_task words) [] before before after out out c.in_err-write_texture.field-0.0 (read_none before)
    (left_writing (expected_gen words []) before after out c.in_err-write_texture.field-0.0 c.in_err-write_texture.ensures))

pub returns : goal.returns
returns g c = λ out.
    let words = shown_gen c.args.words.now in
    let before = folder_state g.D.Folder c.args.folder.now in
    let after = folder_state g.D.Folder c.write_texture.new.folder in
    ends_done (gen_task words) [] before before after out out (read_none before)
    (left_putting (expected_gen words []) before after out out (Ok tt) c.in_ok-write_texture.ensures (nothing_gained out.held))

use Rattle.std.proofs.Common.{ℕ, List, Err, ap, subst, sym}
use Rattle.std.specs.Prelude.{OnSome}
use Rattle.std.specs.Option.{IsSome}
use Rattle.std.proofs.lemmas.Result.{err_from_is_err_and}
use Rattle.vt_outside.specs.Counts.{Rose}
use Rattle.vt_outside.specs.Files.{bytes_at}
use Rattle.vt_outside.specs.Effects.{folder_state}
use Rattle.vt_command_inputs.proofs.Reading.{not_opened}
use Rattle.vt_command_inputs.proofs.input.open_input.Goals as goal

pub returns-in_err-open-clause-refused : goal.returns-in_err-open-clause-refused
returns-in_err-open-clause-refused g c = λ input is.
    let p = err_from_is_err_and c.from_residual.result c.from_residual.ensures.1 in
    let opened = c.in_err-open.ensures in
    let before = folder_state g.D.Folder c.args.folder.now in
    let after = folder_state g.D.Folder c.open.new.self in
    rw (p.1, p.2) (not_opened input before after c.in_err-open.field-0.0 opened.files opened.asked opened.faults
    (λ e. subst (λ (n : List ℕ). OnSome before.files (IsSome (bytes_at before.files n)) → Rose before.faults after.faults) (sym is)
    (opened.failed (ap Err e))))

pub returns-clause-opened : goal.returns-clause-opened
returns-clause-opened g c =
    let opened = c.in_ok-open.ensures in
    record {
      files = opened.files;
      asked = opened.asked;
      faults = opened.faults;
      bytes = opened.bytes;
      known_too = opened.known_too;
      no_places = opened.no_places;
      name_is = opened.name;
      no_faults = opened.no_faults;
    }

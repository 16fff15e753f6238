use Rattle.std.proofs.Common.{Err, ap, refl}
use Rattle.std.proofs.lemmas.Result.{err_from_is_err_and}
use Rattle.vt_command_words.specs.Arguments.{texts}
use Rattle.vt_commands.specs.Words.{shown_words}
use Rattle.vt_command_inputs.specs.Effects.{call_effect}
use Rattle.vt_commands.proofs.Clauses.{runs_unread, runs_command}
use Rattle.vt_commands.proofs.Waits.{is_waiting}
use Rattle.vt_commands.proofs.waiting.do_waiting.Goals as goal

pub returns-in_err-command : goal.returns-in_err-command
returns-in_err-command g c =
    let p = err_from_is_err_and c.from_residual.result c.from_residual.ensures.1 in
    rw (p.1, p.2) (runs_unread g.Ms.Machines.kinds _ (texts c.args.words.now) _
    c.in_err-command.field-0.0 (record { folder = refl; out = refl }) (λ is. c.in_err-command.ensures.usage (ap Err is)))

pub perform_waiting-requires-clause-waits : goal.perform_waiting-requires-clause-waits
perform_waiting-requires-clause-waits g c lives outlive = is_waiting (texts c.args.words.now) c.requires (shown_words c.in_ok-command.command) c.in_ok-command.ensures.read

pub returns : goal.returns
returns g c =
    runs_command g.Ms.Machines.kinds _ (texts c.args.words.now)
    (call_effect g.D.Folder g.O.Sink c.args.folder.now c.perform_waiting.new.folder c.args.out.now c.perform_waiting.new.out)
    c.perform_waiting.result (shown_words c.in_ok-command.command) c.in_ok-command.ensures.read c.perform_waiting.ensures

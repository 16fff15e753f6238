use Rattle.std.proofs.Common.{ℕ, List, subst}
use Rattle.vt_command_words.specs.Arguments.{texts}
use Rattle.vt_command_inputs.specs.Effects.{sink_effect}
use Rattle.vt_command_inputs.specs.Refusals.{EndPrinted}
use Rattle.vt_commands.specs.Runs.{run_of}
use Rattle.vt_commands.proofs.Clauses.{is_run}
use Rattle.vt_commands.proofs.waiting.run_waiting.Goals as goal

pub returns : goal.returns
returns g c =
    rw c.status_of.ensures (is_run (run_of g.Ms.Machines.kinds g.D.Folder g.O.Sink g.E.Sink
    (texts c.args.words.now) c.args.folder.now c.do_waiting-end.new.folder c.args.out.now c.do_waiting-end.new.out
    c.args.err.now c.print_end.new.err) _ c.do_waiting-end.result c.do_waiting-end.ensures
    (subst (λ (usage : List ℕ). EndPrinted usage c.do_waiting-end.result (sink_effect g.E.Sink c.args.err.now c.print_end.new.err))
    c.usage_line.ensures c.print_end.ensures))

use Rattle.std.proofs.Common.{ℕ, List, subst}
use Rattle.vt_command_words.specs.Arguments.{texts}
use Rattle.vt_command_inputs.specs.Effects.{sink_effect}
use Rattle.vt_command_inputs.specs.Refusals.{EndPrinted}
use Rattle.vt_commands.specs.Runs.{run_of}
use Rattle.vt_commands.specs.Waits.{no_machines}
use Rattle.vt_commands.proofs.Clauses.{is_run}
use Rattle.vt_commands.proofs.at_once.run_at_once.Goals as goal

pub returns : goal.returns
returns g c =
    rw c.status_of.ensures (is_run (run_of no_machines g.D.Folder g.O.Sink g.E.Sink (texts c.args.words.now) c.args.folder.now
    c.do_at_once-end.new.folder c.args.out.now c.do_at_once-end.new.out c.args.err.now c.print_end.new.err)
    _ c.do_at_once-end.result c.do_at_once-end.ensures
    (subst (λ (usage : List ℕ). EndPrinted usage c.do_at_once-end.result (sink_effect g.E.Sink c.args.err.now c.print_end.new.err))
    c.usage_line.ensures c.print_end.ensures))

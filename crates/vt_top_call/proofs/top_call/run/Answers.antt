use Rattle.std.proofs.Common.{sym, ◌∙◌}
use Rattle.vt_commands.specs.Arguments.{texts}
use Rattle.vt_commands.specs.Runs.{run_of}
use Rattle.vt_commands.specs.Waits.{no_machines}
use Rattle.vt_commands.proofs.Waits.{by_any}
use Rattle.vt_top_call.proofs.top_call.run.Goals as goal

pub returns : goal.returns
returns g c =
    by_any g.Ms.Machines.kinds
    (run_of no_machines g.D.Folder g.O.Sink g.E.Sink (texts c.args.words.now) c.args.folder.now c.run_at_once.new.folder
    c.args.out.now c.run_at_once.new.out c.args.err.now c.run_at_once.new.err)
    c.run_at_once.result (sym c.may_wait.ensures ∙ c.if-may_wait.false) c.run_at_once.ensures

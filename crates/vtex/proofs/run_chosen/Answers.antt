use Rattle.std.proofs.Common.{sym, ◌∙◌}
use Rattle.vt_command_words.specs.declared.machines.MachineChoice.TheVariants.{Standard, SwappedTable, SharedRows, Bilinear}
use Rattle.vt_top_call.specs.Words.{shown_words}
use Rattle.vt_top_call.proofs.Choosing.{run_by_choice}
use Rattle.vtex.proofs.run_chosen.Goals as goal

pub returns-in-Standard : goal.returns-in-Standard
returns-in-Standard g c =
    run_by_choice _ Standard c.run_one.result (shown_words c.args.command.now) c.requires (sym c.choice_of.ensures ∙ c.in-Standard.is) c.run_one.ensures

pub returns-in-SwappedTable : goal.returns-in-SwappedTable
returns-in-SwappedTable g c =
    run_by_choice _ SwappedTable c.run_one-in-SwappedTable.result (shown_words c.args.command.now) c.requires (sym c.choice_of.ensures ∙ c.in-SwappedTable.is) c.run_one-in-SwappedTable.ensures

pub returns-in-SharedRows : goal.returns-in-SharedRows
returns-in-SharedRows g c =
    run_by_choice _ SharedRows c.run_one-in-SharedRows.result (shown_words c.args.command.now) c.requires (sym c.choice_of.ensures ∙ c.in-SharedRows.is) c.run_one-in-SharedRows.ensures

pub returns-in-Bilinear : goal.returns-in-Bilinear
returns-in-Bilinear g c =
    run_by_choice _ Bilinear c.run_one-in-Bilinear.result (shown_words c.args.command.now) c.requires (sym c.choice_of.ensures ∙ c.in-Bilinear.is) c.run_one-in-Bilinear.ensures

use Rattle.std.proofs.Common.{◌∙◌, ap, ap₂, sym, []}
use Rattle.std.proofs.lemmas.List.{map_more}
use Rattle.clap.specs.Words.{with_rule}
use Rattle.vt_command_words.specs.Arguments.{app, rule_for}
use Rattle.vt_command_words.specs.declared.arguments.Argument.TheVariants as argument
use Rattle.vt_command_words.proofs.arguments.command_of.Goals as goal

pub loop-row-preserved : goal.loop-row-preserved
loop-row-preserved c =
    let at = c.loop-row in
    let none = argument.Word (record { ref_ptr = (0, 0); now = [] }) in
    c.in_ok-command.ensures.shape c.argument_of.ensures.local ∙ ap₂ with_rule at.invariant c.argument_of.ensures.rule
    ∙ ap (app c.args.name.now) (sym (map_more rule_for c.args.rows.now at.row-index none c.loop-row-test.true))

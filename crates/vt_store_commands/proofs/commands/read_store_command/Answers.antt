use Rattle.std.proofs.Common.{◌∙◌, sym}
use Rattle.clap.specs.Words.{rows_of, found_of}
use Rattle.vt_command_words.specs.Arguments.{texts}
use Rattle.vt_store_commands.specs.commands.{kind_of, rules_of, values_for, shown_store, IsLawfulStore}
use Rattle.vt_command_words.proofs.Asked.{asked_of, simple_by, not_named, not_found, is_found, same_asked}
use Rattle.vt_store_commands.proofs.commands.read_store_command.Goals as goal

pub returns-in_default : goal.returns-in_default
returns-in_default c =
    not_named _ _ _ shown_store IsLawfulStore kind_of rules_of values_for c.args.name.now (texts c.args.words.now)
    (sym c.kind_of.ensures ∙ c.in_default.is)

pub find-requires : goal.find-requires
find-requires c = simple_by c.args.name.now _ (rules_of c.in-Some.kind) c.rows_of.ensures.rules c.rows_of.ensures.simple

pub returns-in_err-matches : goal.returns-in_err-matches
returns-in_err-matches c =
    same_asked _ _ shown_store IsLawfulStore _ _ _
    (asked_of _ _ kind_of rules_of values_for c.args.name.now (texts c.args.words.now) c.in-Some.kind _
    (sym c.kind_of.ensures ∙ c.in-Some.is) c.rows_of.ensures.rules)
    (not_found _ _ shown_store IsLawfulStore _ (values_for c.in-Some.kind) _ c.from_residual.result c.from_residual.ensures.1
    c.in_err-matches.ensures.usage)

pub returns : goal.returns
returns c =
    same_asked _ _ shown_store IsLawfulStore _ _ _
    (asked_of _ _ kind_of rules_of values_for c.args.name.now (texts c.args.words.now) c.in-Some.kind _
    (sym c.kind_of.ensures ∙ c.in-Some.is) c.rows_of.ensures.rules)
    (rw c.ok_or.ensures.value
    (is_found _ _ shown_store IsLawfulStore _ (rows_of (found_of c.in_ok-matches.matches)) (values_for c.in-Some.kind) c.values_of.result
    c.in_ok-matches.ensures.found c.values_of.ensures.read c.values_of.ensures.lawful))

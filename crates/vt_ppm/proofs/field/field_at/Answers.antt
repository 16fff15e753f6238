use Rattle.std.proofs.Common.{sym, ap, ◌∙◌, subst, inl, inr}
use Rattle.std.specs.Str.Parse.{AllDigits, digits_value}
use Rattle.vt_ppm.proofs.Fields.{no_field_at, many_digits_at, field_made_at}
use Rattle.vt_ppm.proofs.Runs.{run_is_digits}
use Rattle.vt_ppm.proofs.field.field_at.Goals as goal
use Rattle.vt_ppm.proofs.field.field_at.Goals.{then-gap-eq0-via-then-gap-eq0, then-gap-eq0-via-else-gap-eq0+then-count-eq0}

pub returns-then-gap-eq0-clause-broken : goal.returns-then-gap-eq0-clause-broken
returns-then-gap-eq0-clause-broken c =
    no_field_at c.args.bytes.now c.split_at.result.1.now c.split_at-2.result.1.now c.args.from c.gap_run-gap.result c.digit_run-count.result
    c.requires c.split_at.ensures.back c.gap_run-gap.ensures c.split_at-2.ensures.back c.digit_run-count.ensures.run
    (elim c.then-gap-eq0.branch [
      | then-gap-eq0-via-then-gap-eq0 w ↦ inl w.if-gap-eq0.true
      | then-gap-eq0-via-else-gap-eq0+then-count-eq0 w ↦ inr w.if-count-eq0.true
    ])

pub returns-then-count-gt-MOST_DIGITS-clause-broken : goal.returns-then-count-gt-MOST_DIGITS-clause-broken
returns-then-count-gt-MOST_DIGITS-clause-broken c =
    many_digits_at c.args.bytes.now c.split_at.result.1.now c.split_at-2.result.1.now c.args.from c.gap_run-gap.result c.digit_run-count.result
    c.requires c.split_at.ensures.back c.gap_run-gap.ensures c.split_at-2.ensures.back c.digit_run-count.ensures.run
    c.if-gap-eq0.false c.if-count-gt-MOST_DIGITS.true

pub number_of-value-requires-clause-numeral : goal.number_of-value-requires-clause-numeral
number_of-value-requires-clause-numeral c = subst (AllDigits 10) (sym c.split_at-3.ensures.front)
    (run_is_digits c.split_at-2.result.1.now c.digit_run-count.result c.digit_run-count.ensures.run)

pub returns-clause-field : goal.returns-clause-field
returns-clause-field c =
    field_made_at c.args.bytes.now c.split_at.result.1.now c.split_at-2.result.1.now c.args.from c.gap_run-gap.result c.digit_run-count.result
    c.requires c.split_at.ensures.back c.gap_run-gap.ensures c.split_at-2.ensures.back c.digit_run-count.ensures.run
    c.number_of-value.result c.if-gap-eq0.false c.if-count-eq0.false c.if-count-gt-MOST_DIGITS.false
    (c.number_of-value.ensures ∙ ap (digits_value 10) c.split_at-3.ensures.front)

use Rattle.std.proofs.Common.{refl, ap, Ok}
use Rattle.vt_text.proofs.Reading.{outside_from_size, none_within, ok_from_size, found_from_size, not_outside, outside_from_read}
use Rattle.vt_text.proofs.numbers.decimal.Goals as goal

pub returns-in_default-number_of-clause-found : goal.returns-in_default-number_of-clause-found
returns-in_default-number_of-clause-found c = λ z f within. absurd
    (none_within _ _ _ z (outside_from_size c.args.field.now _ _ c.args.least c.args.most c.in-Some.ensures c.ranges.least
    c.ranges.most c.in_default-number_of.ensures) f within)

pub returns-in_default-number_of-clause-out_of_range : goal.returns-in_default-number_of-clause-out_of_range
returns-in_default-number_of-clause-out_of_range c = (
  λ _. outside_from_size c.args.field.now _ _ c.args.least c.args.most c.in-Some.ensures c.ranges.least c.ranges.most
      c.in_default-number_of.ensures,
  λ _. refl,
)

pub returns-then-not-is_within-clause-found : goal.returns-then-not-is_within-clause-found
returns-then-not-is_within-clause-found c = λ z f within. absurd
    (none_within _ _ _ z (outside_from_read c.args.field.now _ _ c.in-Some-number_of.number c.args.least c.args.most
    c.in-Some.ensures c.in-Some-number_of.ensures c.ranges.least c.ranges.most c.if-not-is_within.ensures) f within)

pub returns-then-not-is_within-clause-out_of_range : goal.returns-then-not-is_within-clause-out_of_range
returns-then-not-is_within-clause-out_of_range c = (
  λ _. outside_from_read c.args.field.now _ _ c.in-Some-number_of.number c.args.least c.args.most c.in-Some.ensures
      c.in-Some-number_of.ensures c.ranges.least c.ranges.most c.if-not-is_within.ensures,
  λ _. refl,
)

pub returns-clause-found : goal.returns-clause-found
returns-clause-found c = λ z f within. ap Ok
    (found_from_size c.args.field.now _ _ c.in-Some-number_of.number c.args.least c.args.most c.in-Some.ensures
    c.in-Some-number_of.ensures c.ranges.least c.ranges.most z f)

pub returns-clause-ok : goal.returns-clause-ok
returns-clause-ok c = ok_from_size c.args.field.now _ _ c.in-Some-number_of.number c.args.least c.args.most c.in-Some.ensures
    c.in-Some-number_of.ensures c.ranges.least c.ranges.most c.if-not-is_within.ensures

pub returns-clause-out_of_range : goal.returns-clause-out_of_range
returns-clause-out_of_range c = (
  λ e. (cc),
  λ outside. absurd (not_outside c.args.field.now _ _ c.in-Some-number_of.number c.args.least c.args.most
      c.in-Some.ensures c.in-Some-number_of.ensures c.ranges.least c.ranges.most c.if-not-is_within.ensures outside),
)

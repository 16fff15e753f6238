use Rattle.std.proofs.lemmas.List.{take_rest}
use Rattle.vt_text.proofs.Reading.{none_after_minus, none_minus_zero, none_plain, minus_sized, plain_sized}
use Rattle.vt_text.proofs.numbers.signed_size.Goals as goal

pub returns-in_default : goal.returns-in_default
returns-in_default c = none_after_minus c.args.field.now _ (take_rest c.args.field.now 1) (c.if-begins_with_minus.ensures) (c.in_default.ensures)

pub returns-then-size-eq0 : goal.returns-then-size-eq0
returns-then-size-eq0 c = none_minus_zero c.args.field.now _ c.in-Some.size (take_rest c.args.field.now 1)
    (c.if-begins_with_minus.ensures) (c.in-Some.ensures).1 c.if-size-eq0.true

pub returns-then-begins_with_minus : goal.returns-then-begins_with_minus
returns-then-begins_with_minus c = minus_sized c.args.field.now _ c.in-Some.size (take_rest c.args.field.now 1)
    (c.if-begins_with_minus.ensures) (c.in-Some.ensures).0 (c.in-Some.ensures).1 c.if-size-eq0.false

pub returns-in_default-size_of_digits : goal.returns-in_default-size_of_digits
returns-in_default-size_of_digits c = none_plain c.args.field.now (c.if-begins_with_minus.ensures) (c.in_default-size_of_digits.ensures)

pub returns : goal.returns
returns c = plain_sized c.args.field.now c.in-Some-size_of_digits.size (c.in-Some-size_of_digits.ensures).0 (c.in-Some-size_of_digits.ensures).1

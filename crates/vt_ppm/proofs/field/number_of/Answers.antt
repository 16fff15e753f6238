use Rattle.std.proofs.Common.{arith, get_or}
use Rattle.std.specs.Int.{IsInRange}
use Rattle.std.proofs.lemmas.Int.Digits.{digits_value_more}
use Rattle.std.proofs.lemmas.Str.Parse.{digit_at}
use Rattle.std.proofs.lemmas.Str.{digit_value_digit}
use Rattle.vt_ppm.proofs.Runs.{value_is_small}
use Rattle.vt_ppm.proofs.field.number_of.Goals as goal

pub overflow_mul-value : goal.overflow_mul-value
overflow_mul-value c = omega (
  arith,
  c.loop-byte.invariant,
  value_is_small c.args.digits.now c.loop-byte.byte-index c.requires.numeral c.requires.few
      c.loop-byte-test.true,
)

pub overflow_sub-byte : goal.overflow_sub-byte
overflow_sub-byte c = omega (arith, digit_at c.args.digits.now c.loop-byte.byte-index c.requires.numeral c.loop-byte-test.true)

pub overflow_add-value : goal.overflow_add-value
overflow_add-value c = omega (
  arith,
  c.loop-byte.invariant,
  c.from.ensures,
  digit_at c.args.digits.now c.loop-byte.byte-index c.requires.numeral
      c.loop-byte-test.true,
  value_is_small c.args.digits.now c.loop-byte.byte-index c.requires.numeral c.requires.few c.loop-byte-test.true,
)

pub loop-byte-preserved : goal.loop-byte-preserved
loop-byte-preserved c =
    let r : IsInRange 48 57 (get_or c.args.digits.now c.loop-byte.byte-index 0) =
    digit_at c.args.digits.now c.loop-byte.byte-index c.requires.numeral c.loop-byte-test.true in
    omega (
      arith,
      r,
      c.loop-byte.invariant,
      c.from.ensures,
      digit_value_digit
          (get_or c.args.digits.now c.loop-byte.byte-index 0) r,
      digits_value_more 10 c.args.digits.now c.loop-byte.byte-index c.loop-byte-test.true,
    )

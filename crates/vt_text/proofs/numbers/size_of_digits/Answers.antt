use Rattle.std.proofs.Common.{inl, inr}
use Rattle.vt_text.proofs.Reading.{not_plain, more_digits, more_size}
use Rattle.vt_text.proofs.numbers.size_of_digits.Goals as goal
use Rattle.vt_text.proofs.numbers.size_of_digits.Goals.{then-byte-lt48-via-then-byte-lt48, then-byte-lt48-via-else-byte-lt48+then-byte-gt57}

pub returns-then-byte-lt48 : goal.returns-then-byte-lt48
returns-then-byte-lt48 c = not_plain c.args.digits.now c.loop-byte.byte-index c.loop-byte-test.true
    (elim c.then-byte-lt48.branch [
      | then-byte-lt48-via-then-byte-lt48 w ↦ inl w.if-byte-lt48.true
      | then-byte-lt48-via-else-byte-lt48+then-byte-gt57 w ↦ inr w.if-byte-gt57.true
    ])

pub loop-byte-preserved : goal.loop-byte-preserved
loop-byte-preserved c = record {
  digits = more_digits c.args.digits.now c.loop-byte.byte-index c.loop-byte-test.true c.if-byte-lt48.false c.if-byte-gt57.false c.loop-byte.invariant.digits;
  size = more_size c.args.digits.now c.loop-byte.byte-index _ _ _ _ c.loop-byte-test.true c.if-byte-lt48.false
      c.if-byte-gt57.false c.loop-byte.invariant.size c.from-digit.ensures c.saturating_mul.ensures c.saturating_add-size.ensures;
}

use Rattle.std.proofs.Common.{◌≡◌, ◌-◌, ◌^◌, take, min}
use Rattle.std.specs.Str.Parse.{AllDigits, digits_value}
use Rattle.vt_text.proofs.numbers.size_of_digits.Given as goal

abbrev pub invariant-loop-byte : goal.invariant-loop-byte
invariant-loop-byte l = record {
  digits : AllDigits 10 (take l.byte-index l.digits);
  size : l.size ≡ min (digits_value 10 (take l.byte-index l.digits)) (2 ^ 64 - 1);
}

use Rattle.std.proofs.Common.{rules, refl, arith}
use Rattle.vt_walk_decisions.proofs.judging.judge.Goals as goal

pub returns-then-passed-room : goal.returns-then-passed-room
returns-then-passed-room c = record {
  settled = search rules;
  none_lost = omega arith;
  picture_is = refl;
  wanted_are = refl;
  room_is = refl;
  unfit = c.if-passed-room.true;
}

pub returns : goal.returns
returns c = record { none_lost = λ settled. omega arith; fits = λ settled. omega arith }

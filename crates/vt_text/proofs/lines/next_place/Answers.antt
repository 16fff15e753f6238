use Rattle.std.proofs.Common.{arith}
use Rattle.vt_text.proofs.Parts.{parts-found, parts-absent}
use Rattle.vt_text.proofs.lines.next_place.Goals as goal

pub returns-then-text-place-clause-cut : goal.returns-then-text-place-clause-cut
returns-then-text-place-clause-cut c = parts-found c.args.byte c.args.text.now c.args.at c.loop-place.place
    c.loop-place.auto.place c.loop-place-test.true c.if-text-place.true c.loop-place.invariant

pub returns-clause-cut : goal.returns-clause-cut
returns-clause-cut c = parts-absent c.args.byte c.args.text.now c.args.at c.requires (λ k low high. c.loop-place.invariant k low (omega arith))

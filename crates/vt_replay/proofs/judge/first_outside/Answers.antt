use Rattle.std.proofs.Common.{◌≡◌, ◌-◌, [], length, take, drop, sym, ap, ◌∙◌, subst, length-drop}
use Rattle.std.proofs.Math.Seq.{take-length}
use Rattle.vt_replay.specs.Flaws.{BeginsOutside}
use Rattle.vt_replay.proofs.Scanning.{scan_more, scan_hit, scan_end}
use Rattle.vt_replay.proofs.judge.first_outside.Goals as goal

pub lines-preserved : goal.lines-preserved
lines-preserved c =
    scan_more c.args.pictures c.args.text.now c.lines.at c.lines.number c.in-Some.end c.lines.invariant c.in-Some.ensures.line
    c.in-Some.ensures.place.0 c.in-Some.ensures.place.1 c.if-begins_outside.ensures

pub returns-then-begins_outside-2 : goal.returns-then-begins_outside-2
returns-then-begins_outside-2 c =
    let text = c.args.text.now in
    let rest : take (length text - c.lines.at) (drop c.lines.at text) ≡ drop c.lines.at text =
    ap (λ n. take n (drop c.lines.at text)) (sym (length-drop c.lines.at text)) ∙ take-length (drop c.lines.at text) in
    scan_hit c.args.pictures text c.lines.at c.lines.number (drop c.lines.at text) [] c.lines.invariant c.in_default.ensures.line
    (subst (BeginsOutside c.args.pictures) rest c.if-begins_outside-2.ensures)

pub returns : goal.returns
returns c =
    let text = c.args.text.now in
    let rest : take (length text - c.lines.at) (drop c.lines.at text) ≡ drop c.lines.at text =
    ap (λ n. take n (drop c.lines.at text)) (sym (length-drop c.lines.at text)) ∙ take-length (drop c.lines.at text) in
    scan_end c.args.pictures text c.lines.at c.lines.number (drop c.lines.at text) c.lines.invariant c.in_default.ensures.line
    (λ outside. c.if-begins_outside-2.ensures (subst (BeginsOutside c.args.pictures) (sym rest) outside))

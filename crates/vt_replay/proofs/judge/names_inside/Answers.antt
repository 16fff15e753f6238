use Rattle.std.proofs.Common.{◌≡◌, ◌∙◌, Some, pos, arith}
use Rattle.std.proofs.lemmas.Int.{ints}
use Rattle.vt_text.specs.Numbers.{number_spelling}
use Rattle.vt_replay.proofs.judge.names_inside.Goals as goal

pub returns-in-Err : goal.returns-in-Err
returns-in-Err c = λ n low at.
    let both : Some c.in-Some.text.now ≡ Some (number_spelling n) = c.in-Some.ensures ∙ at in
    let same : c.in-Some.text.now ≡ number_spelling n = cc in
    let read = c.decimal.ensures.found (pos n) same (omega (arith, ints), omega (arith, ints)) in
    cc

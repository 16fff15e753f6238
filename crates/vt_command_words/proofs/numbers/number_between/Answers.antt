use Rattle.std.proofs.Common.{◌≡◌, ◌∙◌, ap, sym, Some, pos, to_z, of_z, w64, rules, List, ℕ}
use Rattle.std.specs.Prelude.{nat_abs}
use Rattle.vt_command_words.proofs.Spelled.{number_read, number_refused}
use Rattle.vt_command_words.specs.Numbers.{number_between}
use Rattle.vt_command_words.proofs.numbers.number_between.Goals as goal

pub returns-in-Ok-clause-read : goal.returns-in-Ok-clause-read
returns-in-Ok-clause-read c =
    let low_is : to_z w64 (of_z w64 c.from.result) ≡ pos c.args.least = search rules in
    let high_is : to_z w64 (of_z w64 c.from-2.result) ≡ pos c.args.most = search rules in
    let same : to_z w64 (of_z w64 c.in-Ok.number) ≡ c.in-Ok.number = search rules in
    let read = c.in-Ok.ensures.ok in
    ap (λ z. Some (nat_abs z)) same ∙ sym (number_read c.args.least c.args.most c.in-Ok.number _ _ _ read.0 read.1 low_is high_is)
    ∙ ap (λ (t : List ℕ). number_between c.args.least c.args.most t) c.as_bytes.ensures.value

pub returns-in-Err-clause-read : goal.returns-in-Err-clause-read
returns-in-Err-clause-read c =
    let low_is : to_z w64 (of_z w64 c.from.result) ≡ pos c.args.least = search rules in
    let high_is : to_z w64 (of_z w64 c.from-2.result) ≡ pos c.args.most = search rules in
    sym (number_refused c.in-Err.field-0 c.args.least c.args.most _ _ c.as_bytes.result.now c.in-Err.ensures.found low_is high_is)
    ∙ ap (λ (t : List ℕ). number_between c.args.least c.args.most t) c.as_bytes.ensures.value

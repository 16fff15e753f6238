use Rattle.std.proofs.Common.{◌≡◌, ◌*◌, ◌≤◌, length, refl, arith}
use Rattle.std.proofs.lemmas.List.{length-take-le}
use Rattle.vt_store.proofs.Widening.{wide_line, front_length}
use Rattle.vt_store.proofs.widen.widen_line.Goals as goal

pub returns : goal.returns
returns c = λ columns full.
    let few : 3 * c.args.count ≤ 384 = omega (arith, c.requires.few) in
    let long : length c.put_span.new.out ≡ 3 * c.args.count = front_length c.put_span.new.out _ (3 * c.args.count) c.put_span.auto.out few in
    wide_line c.args.texels.now c.put_span.new.out c.double_bytes.new.out columns c.args.count long
    (c.put_span.ensures columns 0 c.args.count full refl (length-take-le (3 * c.args.count) _ few)) c.double_bytes.ensures.first
    c.double_bytes.ensures.second

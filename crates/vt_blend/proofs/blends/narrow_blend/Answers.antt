use Rattle.std.proofs.Common.{◌≡◌, ◌+◌, ◌*◌, ◌%◌, ◌∙◌}
use Rattle.std.proofs.Math.Nat.{div-one}
use Rattle.vt_blend.specs.Blends.{blended, blended_word}
use Rattle.vt_blend.proofs.blends.narrow_blend.Goals as goal

pub returns : goal.returns
unfolding blended_word
returns c =
    let w = c.args.w.now in
    let t = c.args.t.now in
    let blue : c.narrow_channel-3.result ≡ blended w (t.first % 256) (t.second % 256) (t.third % 256) (t.fourth % 256) =
    c.narrow_channel-3.ensures.value
    ∙ λ i. blended w (div-one t.first i % 256) (div-one t.second i % 256) (div-one t.third i % 256) (div-one t.fourth i % 256) in
    λ i. c.narrow_channel.ensures.value i * 65536 + c.narrow_channel-2.ensures.value i * 256 + blue i

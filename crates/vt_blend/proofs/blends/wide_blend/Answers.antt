use Rattle.std.proofs.Common.{◌≡◌, ◌+◌, ◌*◌, ◌%◌, ◌∙◌}
use Rattle.std.proofs.Math.Nat.{div-one}
use Rattle.vt_blend.specs.Blends.{blended, blended_word}
use Rattle.vt_blend.proofs.blends.wide_blend.Goals as goal

pub returns : goal.returns
unfolding blended_word
returns c =
    let w = c.args.w.now in
    let t = c.args.t.now in
    let blue : c.wide_channel-3.result ≡ blended w (t.first % 65536) (t.second % 65536) (t.third % 65536) (t.fourth % 65536) =
    c.wide_channel-3.ensures.value
    ∙ λ i. blended w (div-one t.first i % 65536) (div-one t.second i % 65536) (div-one t.third i % 65536) (div-one t.fourth i % 65536) in
    λ i. c.wide_channel.ensures.value i * 4294967296 + c.wide_channel-2.ensures.value i * 65536 + blue i

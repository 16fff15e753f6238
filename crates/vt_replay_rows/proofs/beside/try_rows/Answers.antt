use Rattle.std.proofs.Common.{◌≡◌, ℕ, ◌+◌, ◌*◌, length, sym, ap, ◌∙◌, arith}
use Rattle.std.proofs.lemmas.Nat.{mul-le}
use Rattle.vt_definitions.specs.Depths.{texel_length}
use Rattle.vt_replay_rows.proofs.Trying.{may_front, tried_none, tried_then}
use Rattle.vt_replay_rows.proofs.beside.try_rows.Goals as goal

pub loop-k-init : goal.loop-k-init
loop-k-init g c = record {
  tried = λ known tiles. tried_none _ _ _ c.args.left.now c.args.samples.now;
  counted = λ p inside. (let none = c.clear.ensures p inside in omega (arith, none));
}

pub try_next-requires-clause-may : goal.try_next-requires-clause-may
try_next-requires-clause-may g c =
    let left : length c.loop-k.left ≡ length c.args.left.now = omega arith in
    let samples : length c.loop-k.samples ≡ length c.args.samples.now = omega arith in
    may_front c.args.shot.now c.args.replay_lookup.now c.args.first (length c.args.left.now) (length c.args.samples.now) c.requires.may
    (length c.loop-k.left) (length c.loop-k.samples) (omega (arith, left)) (samples ∙ c.requires.may.room
    ∙ ap (λ (n : ℕ). n * (texel_length c.args.shot.now.depth * c.args.shot.now.path.now.width)) (sym left))

pub try_next-requires-clause-room : goal.try_next-requires-clause-room
try_next-requires-clause-room g c = λ p inside.
    let at = c.loop-k in
    let wide = c.args.shot.now.path.now.width in
    let counted = at.invariant.counted p inside in
    let height = c.height-height.ensures in
    let width = c.width-width.ensures in
    let within = c.requires.may.inside in
    let most = mul-le (at.k + 1) (4 * wide) 2048 8192 (omega (arith, c.loop-k-test.true, within, height.value, height.high))
    (omega (arith, width.value, width.high)) in
    omega (arith, counted, most)

pub loop-k-preserved : goal.loop-k-preserved
loop-k-preserved g c =
    let at = c.loop-k in
    record {
      tried = λ known tiles. tried_then _ _ _ c.args.left.now at.left c.try_next.new.left c.args.samples.now at.samples c.try_next.new.samples
          (at.invariant.tried known tiles) (c.try_next.ensures.tried known tiles);
      counted = λ p inside. omega (arith, c.try_next.ensures.counted p inside, at.invariant.counted p (omega arith));
    }

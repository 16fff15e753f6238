use Rattle.std.proofs.Common.{◌∙◌, arith, rules}
use Rattle.vt_mip.proofs.Fronts.{front_alone, texture_alone, front_more, first_made, smaller, front_whole}
use Rattle.vt_mip.proofs.chain.Chain.build.Goals as goal

pub loop-alloc-init : goal.loop-alloc-init
loop-alloc-init g c = record {
  front = front_alone _ _ _ c.width.ensures.limits (search rules);
  texture = texture_alone
      c.args.image c.push.new.self.items (search rules);
}

pub loop-alloc-preserved : goal.loop-alloc-preserved
loop-alloc-preserved g c = record {
  front = front_more _ _ _ c.loop-alloc.invariant.front (search rules) c.in_ok-add_level.ensures;
  texture = first_made _ _ c.loop-alloc.invariant.front.some c.in_ok-add_level.ensures ∙ c.loop-alloc.invariant.texture;
}

pub loop-alloc-smaller : goal.loop-alloc-smaller
loop-alloc-smaller g c = smaller _ _ c.args.tile (grind arith) c.loop-alloc.invariant.front (search rules) c.in_ok-add_level.ensures

pub invariant_of-result : goal.invariant_of-result
invariant_of-result g c = front_whole _ _ (grind arith) c.loop-alloc.invariant.front (search rules)

use Rattle.std.proofs.Common.{◌+◌, [], ◌∷◌, ◌++◌, length, map, reverse, sym, ap, ◌∙◌, subst, arith}
use Rattle.std.proofs.lemmas.List.{length-append, length-reverse, reverse-reverse}
use Rattle.vt_pass_pool.specs.Pools.{AreSamplers}
use Rattle.vt_pass_pool.proofs.MadeSamplers.{samplers_none, samplers_more, readers_more, all_home, all_read}
use Rattle.vt_pass_pool.proofs.making.new_samplers.Goals as goal

pub loop-number-init : goal.loop-number-init
loop-number-init g c =
    let made = c.in_ok-left.ensures in
    let none = c.reserve.ensures.elements ∙ c.new-samplers.ensures in
    record {
      first = subst (AreSamplers c.args.geometry.now 0) (sym none) (samplers_none c.args.geometry.now);
      spare = (let r = c.in_ok-reserve.ensures.room in let n = c.from.ensures in omega (arith, r, n));
      number = (let a = ap length made in let b = length-reverse c.args.readers.elements in let n = c.requires in omega (arith, a, b, n));
      readers = sym (reverse-reverse c.args.readers.elements) ∙ ap reverse (sym made)
          ∙ ap (λ l. map (λ a. a.reader) l ++ reverse c.in_ok-left.left.elements) (sym none);
    }

pub unreachable-requires : goal.unreachable-requires
unreachable-requires g c =
    let none = ap length c.in-None.ensures.none.0 in
    let n = c.loop-number.invariant.number in
    let t = c.loop-number-test.true in
    omega (arith, none, n, t)

pub loop-number-preserved : goal.loop-number-preserved
loop-number-preserved g c =
    let l = c.loop-number.invariant in
    let was = c.in-Some.ensures.some in
    let made = c.in_ok-sampler-in-Some.ensures in
    let old = c.loop-number.samplers.elements in
    let a = c.in_ok-sampler-in-Some.sampler in
    record {
      first = subst (AreSamplers c.args.geometry.now (c.loop-number.number + 1)) (sym c.push.ensures.elements)
          (samplers_more c.args.geometry.now c.loop-number.number old a l.first made.sampler);
      spare = (let r = l.spare in let e = c.push.ensures.spare in omega (arith, r, e));
      number = (let n = l.number in let e = ap length was ∙ length-append c.pop.new.self.elements _ in omega (arith, n, e));
      readers = readers_more old a c.loop-number.left.elements c.pop.new.self.elements c.args.readers.elements l.readers
          (was ∙ ap (λ r. c.pop.new.self.elements ++ r ∷ []) (sym made.reader))
          ∙ ap (λ s. map (λ x. x.reader) s ++ reverse c.pop.new.self.elements) (sym c.push.ensures.elements);
    }

pub returns-clause-samplers : goal.returns-clause-samplers
returns-clause-samplers g c =
    let low = c.loop-number.auto.number-end in
    let high = c.loop-number-test.false in
    subst (λ n. AreSamplers c.args.geometry.now n c.loop-number.samplers.elements) (omega (arith, low, high)) c.loop-number.invariant.first

pub returns-clause-home : goal.returns-clause-home
returns-clause-home g c = λ w home.
    let l = c.loop-number.invariant in
    let low = c.loop-number.auto.number-end in
    let high = c.loop-number-test.false in
    let n = l.number in
    all_home g.T.PageTable w c.args.count c.loop-number.samplers.elements c.args.readers.elements
    (all_read c.args.readers.elements _ c.loop-number.left.elements l.readers (omega (arith, low, high, n))) home

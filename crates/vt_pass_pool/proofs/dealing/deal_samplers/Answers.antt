use Rattle.std.proofs.Common.{◌≡◌, ℕ, ◌+◌, ◌<◌, [], ◌∷◌, ◌++◌, Some, length, set, take, get_or, sym, ap, ◌∙◌, subst, arith}
use Rattle.std.specs.Prelude.{slice_get}
use Rattle.std.proofs.lemmas.List.{length-set, length-map, length-take-le}
use Rattle.std.proofs.lemmas.Option.{slice_get_within, slice_get-get_or}
use Rattle.vt_pass_pool.specs.Pools.{IsSameSampler, HasWay, ways_of}
use Rattle.vt_pass_pool.proofs.Listed.{one_more, each_more, rest_same, map_take_more, set_same, take_set_same}
use Rattle.vt_pass_pool.proofs.dealing.deal_samplers.Goals as goal

pub loop-i-init : goal.loop-i-init
loop-i-init g c = record {
  rows = c.requires.rows;
  count = λ i. length c.args.samplers.now;
  out = λ k low i. slice_get c.args.samplers.now k;
  same = λ k a b low there is. absurd (omega (arith, low));
  readers = λ k a b low there is. absurd (omega (arith, low));
  ways = λ line dealt k b low is. absurd (omega (arith, low));
  dealt = λ line dealt. dealt;
}

pub deal_sampler-requires-clause-inside : goal.deal_sampler-requires-clause-inside
deal_sampler-requires-clause-inside g c =
    let l = c.loop-i.invariant in
    let ys = c.loop-i.samplers in
    let i : ℕ = c.loop-i.i in
    let inside : i < length ys = (let t = c.loop-i-test.true in let n = l.count in omega (arith, t, n, c.loop-i.auto)) in
    let a = get_or ys i c.index-samplers-i.result in
    let at : slice_get ys i ≡ Some a = slice_get-get_or ys i c.index-samplers-i.result inside in
    let e = c.requires.numbers i a (sym (l.out i (omega arith)) ∙ at) in
    let n = l.count in let m = c.requires.inside in omega (arith, e, n, m, inside)

pub deal_sampler-requires-clause-none : goal.deal_sampler-requires-clause-none
deal_sampler-requires-clause-none g c =
    let l = c.loop-i.invariant in
    let ys = c.loop-i.samplers in
    let i : ℕ = c.loop-i.i in
    let inside : i < length ys = (let t = c.loop-i-test.true in let n = l.count in omega (arith, t, n, c.loop-i.auto)) in
    let a = get_or ys i c.index-samplers-i.result in
    let at : slice_get ys i ≡ Some a = slice_get-get_or ys i c.index-samplers-i.result inside in
    c.requires.none i a (sym (l.out i (omega arith)) ∙ at)

pub loop-i-preserved : goal.loop-i-preserved
loop-i-preserved g c =
    let l = c.loop-i.invariant in
    let o = c.in_ok-deal_sampler.ensures in
    let xs = c.args.samplers.now in
    let ys = c.loop-i.samplers in
    let i : ℕ = c.loop-i.i in
    let a = get_or ys i c.index-samplers-i.result in
    let b = c.deal_sampler.new.sampler in
    let schedule = g.S.Schedule in
    let inside : i < length ys = (let t = c.loop-i-test.true in let n = l.count in omega (arith, t, n, c.loop-i.auto)) in
    let at : slice_get ys i ≡ Some a = slice_get-get_or ys i c.index-samplers-i.result inside in
    let was : slice_get xs i ≡ Some a = sym (l.out i (omega arith)) ∙ at in
    let number : a.number ≡ i = c.requires.numbers i a was in
    let ways : length (ways_of (take i ys)) ≡ i = length-map (take i ys) (λ s. s.own) ∙ length-take-le i ys (omega (arith, inside)) in
    record {
      rows = o.rows;
      count = length-set ys i b ∙ l.count;
      out = rest_same xs ys i a b inside l.out;
      same = each_more xs ys i a b inside (λ k u v. IsSameSampler u v) was o.same l.same;
      readers = each_more xs ys i a b inside (λ k u v. v.reader ≡ u.reader) was o.reader l.readers;
      ways = λ line dealt. one_more xs ys i a b inside (λ k v. HasWay schedule c.args.rows.now c.args.height line v)
          (o.way line (ways_of (take i ys)) (l.dealt line dealt) (ways ∙ sym number)) (l.ways line dealt);
      dealt = λ line dealt.
          let all : ways_of (take (i + 1) (set ys i b)) ≡ ways_of (take i ys) ++ b.own ∷ [] =
          map_take_more (λ s. s.own) (set ys i b) i b (set_same ys i b inside) ∙ ap (λ z. ways_of z ++ b.own ∷ []) (take_set_same ys i b) in
          subst (λ owns. schedule.has_dealt c.args.rows.now c.args.height line c.args.count owns c.deal_sampler.new.home) (sym all)
          (o.dealt line (ways_of (take i ys)) (l.dealt line dealt) (ways ∙ sym number));
    }

pub returns-clause-same : goal.returns-clause-same
returns-clause-same g c =
    let l = c.loop-i.invariant in
    record {
      count = l.count;
      each = λ k a b there is. l.same k a b (let n = slice_get_within c.args.samplers.now k a there in let t = c.loop-i-test.false in omega (arith, n, t)) there is;
    }

pub returns-clause-readers : goal.returns-clause-readers
returns-clause-readers g c = λ k a b there is.
    c.loop-i.invariant.readers k a b (let n = slice_get_within c.args.samplers.now k a there in let t = c.loop-i-test.false in omega (arith, n, t)) there is

pub returns-clause-ways : goal.returns-clause-ways
returns-clause-ways g c = λ line dealt k b is.
    let l = c.loop-i.invariant in
    l.ways line dealt k b (let n = slice_get_within c.loop-i.samplers k b is in let t = c.loop-i-test.false in let m = l.count in omega (arith, n, t, m)) is

use Rattle.std.proofs.Common.{arith, ◌≡◌, ℕ, ◌+◌, ◌≤◌, ◌++◌, length, reverse, ap, ◌∙◌, subst, [], ◌∷◌, length-append}
use Rattle.vt_queue.proofs.Gathered.{append_nil}
use Rattle.vt_queue.specs.Queues.{queue_view_of, capacity_of}
use Rattle.std.specs.List.{range_with_len}
use Rattle.vt_load.specs.QueuedLoaders.{stores_of, numbers_of}
use Rattle.vt_load.proofs.Dealing.{split_more, order_more, popped_all, may_load, loaders_of, none_dealt, none_may, none_numbered, numbers_more}
use Rattle.vt_load.proofs.queued.deal.Goals as goal

pub loop-store-init : goal.loop-store-init
loop-store-init g c =
    let r = c.requires in
    let none : length c.args.loaders.now.elements ≡ 0 = ap length r.none in
    record {
      passes = r.passes;
      count = (let a = none in omega (arith, a));
      asks = (let a = r.splits.0 in omega (arith, a));
      asks_few = (let a = r.splits.0 in omega (arith, a));
      answers = (let a = r.splits.1 in omega (arith, a));
      answers_few = (let a = r.splits.1 in omega (arith, a));
      room = r.room;
      back = omega (arith, none);
      reads = r.reads;
      order = ap (λ l. c.args.stores.now.elements ++ reverse (stores_of l)) r.none ∙ append_nil _;
      numbers = none_numbered c.args.loaders.now.elements (length c.args.stores.now.elements) r.none;
      may = none_may g.F.File c.args.queues.now c.args.loaders.now.elements r.none;
      split = none_dealt (queue_view_of c.args.asks.now) (queue_view_of c.args.answers.now) c.args.loaders.now.elements r.none;
    }

pub loop-store-preserved : goal.loop-store-preserved
loop-store-preserved g c =
    let i = c.loop-store.invariant in
    let q = c.args.queues.now in
    let was = c.in-Some.ensures.some in
    let rest = c.pop.new.self.elements in
    let made = c.loader_for-loader.result in
    let is = c.loader_for-loader.ensures in
    let more = c.push.ensures.elements in
    let fewer : length c.loop-store.stores.elements ≡ length rest + 1 = ap length was ∙ length-append rest (c.in-Some.store ∷ []) in
    let one_more : length c.push.new.self.elements ≡ length c.loop-store.loaders.elements + 1 =
    ap length more ∙ length-append c.loop-store.loaders.elements (made ∷ []) in
    let popped = popped_all (λ s. capacity_of q.requests ≤ g.F.File.spare s.file) c.loop-store.stores.elements rest c.in-Some.store was i.reads in
    record {
      passes = is.passes;
      count = (let a = i.count in omega (arith, a, fewer, one_more));
      asks = (let a = i.asks in let b = is.left.0 in omega (arith, a, b, one_more));
      asks_few = (let a = i.asks_few in let b = is.less.0 in omega (arith, a, b));
      answers = (let a = i.answers in let b = is.left.1 in omega (arith, a, b, one_more));
      answers_few = (let a = i.answers_few in let b = is.less.1 in omega (arith, a, b));
      room = (let a = i.room in let b = c.push.ensures.spare in omega (arith, a, b, fewer));
      back = (let a = i.back in let b = c.in-Some.ensures.spare in omega (arith, a, b, one_more));
      reads = popped.0;
      order = order_more c.loop-store.stores.elements rest _ c.loop-store.loaders.elements c.push.new.self.elements c.in-Some.store made was more is.store
          i.order;
      numbers = numbers_more (length rest) c.loop-store.loaders.elements c.push.new.self.elements made more
          (is.number ∙ c.len-number.ensures) (subst (λ (n : ℕ). reverse (numbers_of c.loop-store.loaders.elements)
          ≡ range_with_len n (length c.loop-store.loaders.elements)) fewer i.numbers);
      may = may_load g.F.File q c.loop-store.loaders.elements c.push.new.self.elements made c.in-Some.store more is.store is.other popped.1 i.may;
      split = split_more _ _ _ _ _ _ c.loop-store.loaders.elements _ made i.split is.asks is.answers more;
    }

pub returns-clause-of : goal.returns-clause-of
returns-clause-of g c = λ s d known all.
    loaders_of g.F.File s d known c.loop-store.stores.elements c.args.stores.now.elements c.loop-store.loaders.elements c.in_default.ensures.none.0
    c.loop-store.invariant.order all

pub returns-clause-numbers : goal.returns-clause-numbers
returns-clause-numbers g c =
    let none : length c.loop-store.stores.elements ≡ 0 = ap length c.in_default.ensures.none.0 in
    let all : length c.loop-store.loaders.elements ≡ length c.args.stores.now.elements = omega (arith, none, c.loop-store.invariant.count) in
    c.loop-store.invariant.numbers ∙ ap (λ (n : ℕ). range_with_len n (length c.loop-store.loaders.elements)) none
    ∙ ap (λ (n : ℕ). range_with_len 0 n) all

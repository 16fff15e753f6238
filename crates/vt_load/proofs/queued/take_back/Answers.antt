use Rattle.std.proofs.Common.{arith, length, ◌≡◌, ◌+◌, ◌++◌, ap, sym, subst, refl, reverse, ◌∙◌, length-append, [], ◌∷◌}
use Rattle.vt_queue.specs.Queues.{queue_view_of, IsPassOfQueue}
use Rattle.vt_queue.specs.PassViews.{joined, all_joined}
use Rattle.vt_queue.proofs.Gathered.{append_nil}
use Rattle.vt_load.specs.QueuedLoaders.{AreOf, asks_of, answers_of, stores_of}
use Rattle.vt_load.proofs.Dealing.{popped_all, popped_joined, back_more}
use Rattle.vt_load.proofs.queued.take_back.Goals as goal

pub loop-loader-preserved : goal.loop-loader-preserved
loop-loader-preserved g c =
    let i = c.loop-loader.invariant in
    let was = c.in-Some.ensures.some in
    let rest = c.pop.new.self.elements in
    let parts = c.into_parts-store.ensures in
    let long : length c.loop-loader.loaders.elements ≡ length rest + 1 = ap length was ∙ length-append rest (c.in-Some.loader ∷ []) in
    let left = c.join.ensures.joined ∙ ap (λ p. joined (queue_view_of c.loop-loader.asks) (queue_view_of p.1)) parts in
    let given = c.join-in-Some.ensures.joined ∙ ap (λ p. joined (queue_view_of c.loop-loader.answers) (queue_view_of p.2)) parts in
    record {
      passes = record { requests = c.join.ensures.of; results = c.join-in-Some.ensures.of };
      crew = (popped_all (λ m. AreOf c.args.queues.now m.asks m.answers) c.loop-loader.loaders.elements rest c.in-Some.loader was i.crew).0;
      room = (let a = i.room in let b = c.push.ensures.spare in omega (arith, a, b, long));
      asks = popped_joined (λ m. queue_view_of m.asks) (queue_view_of c.loop-loader.asks) (queue_view_of c.join.new.into) _ c.loop-loader.loaders.elements rest
          c.in-Some.loader was left i.asks;
      answers = popped_joined (λ m. queue_view_of m.answers) (queue_view_of c.loop-loader.answers) (queue_view_of c.join-in-Some.new.into) _
          c.loop-loader.loaders.elements rest c.in-Some.loader was given i.answers;
      order = back_more c.loop-loader.stores.elements c.push.new.self.elements _ c.loop-loader.loaders.elements rest _ c.in-Some.loader was
          (ap (λ p. p.0) parts) c.push.ensures.elements i.order;
      shrinks = (let a = i.shrinks in omega (arith, a, long));
      asks_at_step = λ _. c.join.ensures.at_step;
      answers_at_step = λ _. c.join-in-Some.ensures.at_step;
    }

pub loop-loader-init : goal.loop-loader-init
loop-loader-init g c = let r = c.requires in record {
  passes = r.passes;
  crew = r.loaders;
  room = r.room;
  asks = refl;
  answers = refl;
  order = ap (λ l. l ++ reverse (stores_of c.args.loaders.elements)) r.none;
  shrinks = omega arith;
  asks_at_step = λ less. absurd (omega (arith, less));
  answers_at_step = λ less. absurd (omega (arith, less));
}

pub join-requires : goal.join-requires
join-requires g c =
    let crew = (popped_all (λ m. AreOf c.args.queues.now m.asks m.answers) c.loop-loader.loaders.elements c.pop.new.self.elements c.in-Some.loader
    c.in-Some.ensures.some c.loop-loader.invariant.crew).1 in (
      c.loop-loader.invariant.passes.requests,
      subst (λ p. IsPassOfQueue c.args.queues.now.requests p) (sym (ap (λ p. p.1) c.into_parts-store.ensures)) crew.requests,
    )

pub join-requires-in-Some : goal.join-requires-in-Some
join-requires-in-Some g c =
    let crew = (popped_all (λ m. AreOf c.args.queues.now m.asks m.answers) c.loop-loader.loaders.elements c.pop.new.self.elements c.in-Some.loader
    c.in-Some.ensures.some c.loop-loader.invariant.crew).1 in (
      c.loop-loader.invariant.passes.results,
      subst (λ p. IsPassOfQueue c.args.queues.now.results p) (sym (ap (λ p. p.2) c.into_parts-store.ensures)) crew.results,
    )

pub push-requires : goal.push-requires
push-requires g c =
    let rest = c.pop.new.self.elements in
    let long : length c.loop-loader.loaders.elements ≡ length rest + 1 = ap length c.in-Some.ensures.some ∙ length-append rest (c.in-Some.loader ∷ []) in
    let room = c.loop-loader.invariant.room in
    omega (arith, long, room)

pub loop-loader-smaller : goal.loop-loader-smaller
loop-loader-smaller g c =
    let rest = c.pop.new.self.elements in
    let long : length c.loop-loader.loaders.elements ≡ length rest + 1 = ap length c.in-Some.ensures.some ∙ length-append rest (c.in-Some.loader ∷ []) in
    omega (arith, long)

pub returns : goal.returns
returns g c =
    let i = c.loop-loader.invariant in
    let none : c.loop-loader.loaders.elements ≡ [] = c.in_default.ensures.none.0 in
    let stores = c.loop-loader.stores.elements in
    let some = c.requires.some in
    let gone : length c.loop-loader.loaders.elements ≡ 0 = ap length none in
    record {
      passes = i.passes;
      asks = ap (λ l. all_joined (queue_view_of c.loop-loader.asks) (asks_of l)) (sym none) ∙ i.asks;
      answers = ap (λ l. all_joined (queue_view_of c.loop-loader.answers) (answers_of l)) (sym none) ∙ i.answers;
      stores = sym (append_nil stores) ∙ ap (λ l. stores ++ reverse (stores_of l)) (sym none) ∙ i.order;
      asks_at_step = i.asks_at_step (omega (arith, gone, some));
      answers_at_step = i.answers_at_step (omega (arith, gone, some));
    }

use Rattle.std.proofs.Common.{inr, ap, ◌∙◌, ◌+◌, length, refl, arith}
use Rattle.vt_queue.specs.Queues.{queue_view_of}
use Rattle.vt_load.proofs.Loading.{begins, more_as, one_taken}
use Rattle.vt_load.proofs.load.load.Goals as goal

pub loop-left-init : goal.loop-left-init
loop-left-init g c = let r = c.requires in record {
  asks = (r.asks, refl);
  answers = (r.answers, refl);
  shape = refl;
  depth = refl;
  loads = begins g.F.File c.args.store.now.shape c.args.store.now.depth (queue_view_of c.args.asks.now) (queue_view_of c.args.answers.now) c.args.store.now.file;
  room = (let a = r.spare in let e = c.capacity-left.ensures in omega (arith, a, e));
  count = ap (λ n. length (queue_view_of c.args.asks.now).took + n) c.capacity-left.ensures;
}

pub loop-left-preserved : goal.loop-left-preserved
loop-left-preserved g c =
    let i = c.loop-left.invariant in
    let got = c.in-Some.ensures in
    let done = c.answer.ensures in
    let some = c.loop-left-test.true in
    record {
      asks = (got.of.0, got.of.1 ∙ i.asks.1);
      answers = (done.of.0, done.of.1 ∙ i.answers.1);
      shape = done.shape ∙ i.shape;
      depth = done.depth ∙ i.depth;
      loads = more_as g.F.File _ _ _ _ _ _ _ _ _ _ _ _ _ c.in-Some.request i.shape i.depth i.loads got.takes done.puts;
      room = (let a = i.room in let b = done.room in omega (arith, a, b, some));
      count = (let e = i.count in let more = one_taken _ _ _ got.takes in omega (arith, e, more, some));
    }

pub returns-clause-ended : goal.returns-clause-ended
returns-clause-ended g c = let e = c.loop-left.invariant.count in let none = c.loop-left-test.false in inr (omega (arith, e, none))

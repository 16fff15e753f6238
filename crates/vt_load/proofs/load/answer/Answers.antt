use Rattle.std.proofs.Common.{◌∙◌, sym, refl, arith}
use Rattle.vt_queue.specs.Queues.{queue_view_of}
use Rattle.vt_load.proofs.Loading.{dropped}
use Rattle.vt_load.proofs.load.answer.Goals as goal

pub returns-then-not-is_readable : goal.returns-then-not-is_readable
returns-then-not-is_readable g c = record {
  of = (c.requires.of, refl);
  puts = dropped g.F.File c.args.store.now.shape c.args.store.now.depth c.args.request (queue_view_of c.args.answers.now) c.args.store.now.file
      (sym c.is_readable.ensures ∙ c.if-not-is_readable.true);
  shape = refl;
  depth = refl;
  room = omega arith;
}

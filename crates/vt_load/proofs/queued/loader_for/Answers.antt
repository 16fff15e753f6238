use Rattle.std.proofs.Common.{sym, ap, ◌∙◌, subst}
use Rattle.vt_queue.specs.PassViews.{Splits}
use Rattle.vt_queue.specs.Queues.{queue_view_of, IsPassOfQueue}
use Rattle.vt_load.proofs.queued.loader_for.Goals as goal

pub returns : goal.returns
returns g c =
    let q = c.args.queues.now in
    let theirs = c.split_off-theirs.ensures in
    let given = c.split_off-results.ensures in
    let is = c.new-2.ensures in
    let asks = sym (ap (λ m. m.asks) is) in
    let answers = sym (ap (λ m. m.answers) is) in
    record {
      passes = record { requests = theirs.of; results = given.of };
      other = record { requests = subst (λ p. IsPassOfQueue q.requests p) asks theirs.other; results = subst (λ p. IsPassOfQueue q.results p) answers given.other };
      store = ap (λ m. m.loader.store) is ∙ ap (λ l. l.store) c.new.ensures;
      number = ap (λ m. m.loader.loader) is ∙ ap (λ l. l.loader) c.new.ensures;
      asks = subst (λ p. Splits (queue_view_of c.args.asks.now) (queue_view_of c.split_off-theirs.new.pass) (queue_view_of p)) asks theirs.splits;
      answers = subst (λ p. Splits (queue_view_of c.args.answers.now) (queue_view_of c.split_off-results.new.pass) (queue_view_of p)) answers given.splits;
      less = (theirs.less, given.less);
      left = (theirs.left, given.left);
    }

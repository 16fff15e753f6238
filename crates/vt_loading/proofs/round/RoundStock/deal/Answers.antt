use Rattle.std.proofs.Common.{◌≡◌, ◌+◌, ◌≤◌, length, ap, sym, ◌∙◌, subst}
use Rattle.vt_queue.specs.PassViews.{all_shares}
use Rattle.vt_queue.specs.Queues.{queue_view_of, queue_splits_of}
use Rattle.vt_load.specs.QueuedLoaders.{AreOf, AreSplitOff}
use Rattle.vt_loading.specs.RoundStocks.{RoundStockView}
use Rattle.vt_loading.proofs.round.RoundStock.deal.Goals as goal

pub deal-requires : goal.deal-requires
deal-requires g c =
    let r = c.requires in
    let inside = sym c.self.view_is in
    let stores = c.args.stores.elements in
    record {
      passes = subst (λ (x : RoundStockView _). AreOf c.args.queues.now x.asks c.args.answers.now) inside r.passes;
      splits = subst (λ (x : RoundStockView _). (queue_splits_of x.asks + 1 ≡ all_shares) × (queue_splits_of c.args.answers.now + 1 ≡ all_shares)) inside r.splits;
      few = r.few;
      none = ap (λ l. l.elements) c.replace-loaders.ensures.value ∙ c.self.inside.no_loaders;
      room = subst (λ n. length stores ≤ n) (sym (ap (λ l. l.spare) c.replace-loaders.ensures.value))
          (subst (λ (x : RoundStockView _). length stores ≤ x.loaders.spare) inside r.room);
      reads = r.reads;
    }

pub destroy_empty-requires : goal.destroy_empty-requires
destroy_empty-requires g c = ap (λ l. l.elements) c.replace.ensures.value ∙ c.self.inside.no_stores

pub returns : goal.returns
returns g c =
    let e = c.deal.ensures in
    let asks = queue_view_of c.deal.new.asks in
    let answers = queue_view_of c.deal.new.answers in
    let loaders = c.deal.new.loaders.elements in
    record {
      dealt = record {
        passes = e.passes;
        no_stores = ap (λ l. l.elements) c.replace.ensures.after ∙ e.stores;
        room = subst (λ n. length loaders ≤ n) (sym (ap (λ l. l.spare) c.replace.ensures.after)) e.room;
        stores_are = e.loaders;
        numbers_are = e.numbers;
        of = e.of;
        split = subst (λ (x : RoundStockView _). AreSplitOff (queue_view_of x.asks) asks (queue_view_of c.args.answers.now) answers loaders) c.self.view_is e.split_off;
        buffers = ap (λ (x : RoundStockView _). x.buffers) c.self.view_is;
      };
      may = e.may;
    }

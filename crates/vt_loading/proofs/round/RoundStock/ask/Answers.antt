use Rattle.std.proofs.Common.{◌+◌, ap, ◌∙◌, arith, subst, sym, length}
use Rattle.vt_tiles.specs.Format.{tile_length}
use Rattle.vt_loading.specs.RoundStocks.{RoundStockView, IsSetUp}
use Rattle.vt_loading.proofs.round.RoundStock.ask.Goals as goal

pub returns : goal.returns
returns g c = λ answers s d crew pages given.
    let set_up = subst (λ (r : RoundStockView _). IsSetUp c.args.queues.now r answers (tile_length s d) crew (length c.args.batch.now))
    (sym c.self.view_is) given in
    let asked = c.ask_batch.ensures in
    record {
      passes = record { requests = asked.of.0; results = set_up.new.passes.results };
      capacity = set_up.new.room;
      answers_capacity = set_up.new.answers_room;
      put = asked.asked s d pages set_up.places.sizes;
      no_answers = set_up.new.no_answers;
      asks_splits = ap (λ n. n + 1) asked.of.1 ∙ set_up.new.asks_splits;
      answers_splits = set_up.new.answers_splits;
      no_loaders = set_up.places.no_loaders;
      loaders = set_up.places.loaders;
      buffers = (let r = asked.room in omega (arith, r));
      sizes = asked.left (tile_length s d) set_up.places.sizes;
    }

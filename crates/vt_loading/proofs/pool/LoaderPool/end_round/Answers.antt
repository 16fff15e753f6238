use Rattle.std.proofs.Common.{refl, ap, sym, ◌∙◌, subst}
use Rattle.vt_loading.specs.RoundStocks.{AreEmptied}
use Rattle.vt_loading.specs.LoaderPools.{LoaderPoolView, MayEndStream, HasEndedStream}
use Rattle.vt_loading.proofs.StreamEnd.{ended_stream, emptied}
use Rattle.vt_loading.proofs.pool.LoaderPool.end_round.Goals as goal

pub returns-clause-ended : goal.returns-clause-ended
returns-clause-ended g c = λ batch b given.
    let q = c.args.queues.now in
    let answers = c.args.answers.now in
    let report = c.args.report.now in
    let k : LoaderPoolView _ = record {
      shape = c.self.inside.geometry;
      depth = c.self.inside.depth;
      crew = c.self.inside.crew;
      stores = c.self.inside.stores.elements;
      round = c.self.inside.round;
    } in
    let may = subst (λ (x : LoaderPoolView _). MayEndStream g.F.File q x batch c.args.loaders.elements answers report b) (sym c.self.view_is) given in
    let e = c.end_round-stores in
    let l : LoaderPoolView _ = record k { stores = c.replace.new.dest.elements; round = c.keep.new.self } in
    subst (λ (x : LoaderPoolView _). HasEndedStream g.F.File x l batch report b) c.self.view_is
    (ended_stream g.F.File q k batch c.args.loaders.elements answers report b may _ _ e.ensures.asks e.ensures.answers e.ensures.asks_at_step
    e.ensures.answers_at_step l c.replace.new.dest.elements c.keep.new.self e.new.self refl
    (ap (λ x. x.elements) c.replace.ensures.after ∙ e.ensures.stores) e.ensures.buffers c.keep.ensures.sizes)

pub returns-clause-emptied : goal.returns-clause-emptied
returns-clause-emptied g c =
    let q = c.args.queues.now in
    let answers = c.args.answers.now in
    let report = c.args.report.now in
    let k : LoaderPoolView _ = record {
      shape = c.self.inside.geometry;
      depth = c.self.inside.depth;
      crew = c.self.inside.crew;
      stores = c.self.inside.stores.elements;
      round = c.self.inside.round;
    } in
    let batch = c.requires.0 in
    let b = c.requires.1 in
    let may = subst (λ (x : LoaderPoolView _). MayEndStream g.F.File q x batch c.args.loaders.elements answers report b) (sym c.self.view_is) c.requires.2 in
    let e = c.end_round-stores in
    subst (λ a. AreEmptied q a e.new.answers) (sym c.keep.ensures.asks)
    (emptied g.F.File q k batch c.args.loaders.elements answers report b may _ _ e.ensures.asks e.ensures.answers e.ensures.asks_at_step
    e.ensures.answers_at_step e.new.self.asks e.new.answers e.ensures.passes refl refl)

use Rattle.std.proofs.Common.{length, sym, ap, ◌∙◌}
use Rattle.std.specs.Prelude.{slice_get}
use Rattle.vt_streaming.proofs.Refilled.{refilled}
use Rattle.vt_pass_pool.proofs.Readying.{dealt_pool}
use Rattle.vt_pass_pool.proofs.pool.PassPool.deal.Goals as goal

pub deal_samplers-requires-clause-numbers : goal.deal_samplers-requires-clause-numbers
deal_samplers-requires-clause-numbers g c = λ k a is.
    (c.requires.pool.samplers_are.each k a (ap (λ l. slice_get l k) (sym c.slice_mut.ensures.value) ∙ is)).number_is

pub deal_samplers-requires-clause-inside : goal.deal_samplers-requires-clause-inside
deal_samplers-requires-clause-inside g c = ap length c.slice_mut.ensures.value ∙ c.requires.pool.samplers_are.number

pub deal_samplers-requires-clause-none : goal.deal_samplers-requires-clause-none
deal_samplers-requires-clause-none g c = λ k a is.
    (c.requires.pool.samplers_are.each k a (ap (λ l. slice_get l k) (sym c.slice_mut.ensures.value) ∙ is)).none

pub returns-clause-dealt : goal.returns-clause-dealt
returns-clause-dealt g c =
    let k = c.args.self.now in
    let e = c.deal_samplers.ensures in
    let lent = c.slice_mut.ensures.value in
    let news = c.deal_samplers.new.samplers in
    dealt_pool g.T.PageTable g.S.Schedule c.args.rows.now k c.requires.pool c.slice_mut.result.now news lent _
    (refilled k.samplers.elements news (c.deal_samplers.auto.samplers ∙ ap length lent)) c.deal_samplers.new.home c.deal_samplers.result
    e.rows e.same e.readers e.ways e.dealt

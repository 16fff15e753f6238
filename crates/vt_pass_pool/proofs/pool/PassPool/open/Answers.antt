use Rattle.std.proofs.Common.{length, sym, ap, ◌∙◌, subst}
use Rattle.std.specs.Prelude.{slice_get}
use Rattle.vt_streaming.proofs.Refilled.{refilled}
use Rattle.vt_pass_pool.specs.Pools.{AreAtHome}
use Rattle.vt_pass_pool.proofs.Readying.{ready_pool}
use Rattle.vt_pass_pool.proofs.pool.PassPool.open.Goals as goal

pub open_samplers-requires-clause-home : goal.open_samplers-requires-clause-home
open_samplers-requires-clause-home g c =
    subst (AreAtHome g.T.PageTable c.args.writer.now) (sym c.slice_mut.ensures.value) c.requires.dealt.1.home

pub open_samplers-requires-clause-numbers : goal.open_samplers-requires-clause-numbers
open_samplers-requires-clause-numbers g c = λ k a is.
    (c.requires.dealt.1.pool.samplers_are.each k a (ap (λ l. slice_get l k) (sym c.slice_mut.ensures.value) ∙ is)).number_is

pub returns-clause-ready : goal.returns-clause-ready
returns-clause-ready g c = λ rows dealt.
    let k = c.args.self.now in
    let lent = c.slice_mut.ensures.value in
    let news = c.open_samplers.new.samplers in
    ready_pool g.T.PageTable g.S.Schedule c.args.table.now c.args.writer.now _ (length (g.T.PageTable.journal c.args.writer.now)) k
    c.slice_mut.result.now news lent _ (refilled k.samplers.elements news (c.open_samplers.auto.samplers ∙ ap length lent)) c.requires.shape
    c.open_samplers.ensures.opened rows dealt

use Rattle.std.proofs.Common.{◌<◌, get_or, refl, sym, ◌∙◌, subst}
use Rattle.vt_load.specs.Shape.{Shape}
use Rattle.vt_pass_pool.specs.Pages.{pages_of}
use Rattle.vt_pass_machine.proofs.Preparing.{ready_once}
use Rattle.vt_pass_machine.proofs.passes.begin_pass.Goals as goal

pub open-requires-clause-dealt : goal.open-requires-clause-dealt
open-requires-clause-dealt g c = (c.requires.prepared.0, c.requires.prepared.1.samplers)

pub open-requires-clause-of : goal.open-requires-clause-of
open-requires-clause-of g c = c.requires.prepared.1.fit.of

pub open-requires-clause-shape : goal.open-requires-clause-shape
open-requires-clause-shape g c = let h = c.requires.prepared.1 in h.fit.shape ∙ sym h.agree.shape

pub ask-requires : goal.ask-requires
ask-requires g c =
    let h = c.requires.prepared.1 in
    record {
      prepared = (_, _, h.prepared);
      inside = λ j e low. subst (λ (s : Shape). (get_or c.args.batch.now.elements j e).page < pages_of s) h.fit.shape (h.lawful.each j e low).page_inside;
    }

pub returns-clause-ready : goal.returns-clause-ready
returns-clause-ready g c = λ rows prepared.
    ready_once g.F.File g.T.PageTable g.S.Schedule c.args.table.now rows _ c.args.own.now _ c.args.streams.now c.ask.new.self
    c.args.pool.now c.open.new.self c.args.batch.now.elements prepared c.open.ensures.still refl refl c.open.ensures.room c.ask.ensures.rest
    (c.ask.ensures.asked _ _ prepared.prepared) (c.open.ensures.ready rows prepared.samplers) c.open.ensures.rest

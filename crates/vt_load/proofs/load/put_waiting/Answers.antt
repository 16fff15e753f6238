use Rattle.std.proofs.Common.{◌∙◌, refl, subst}
use Rattle.vt_queue.specs.declared.items.Loaded.{Loaded}
use Rattle.vt_queue.specs.declared.views.PassView.{PassView}
use Rattle.vt_queue.specs.Steps.{Puts}
use Rattle.vt_queue.specs.Queues.{queue_view_of}
use Rattle.vt_load.proofs.load.put_waiting.Goals as goal

pub loop-init : goal.loop-init
loop-init g c = record { of = c.requires; splits = refl; view = refl; item = refl }

pub loop-preserved : goal.loop-preserved
loop-preserved g c =
    let i = c.loop.invariant in
    let full = c.in-Err.ensures in
    record {
      of = full.of.0;
      splits = full.of.1 ∙ i.splits;
      view = full.same ∙ i.view;
      item = full.item ∙ i.item;
    }

pub returns-in-Ok : goal.returns-in-Ok
returns-in-Ok g c =
    let i = c.loop.invariant in
    let done = c.in-Ok.ensures in
    record {
      of = (done.of.0, done.of.1 ∙ i.splits);
      puts = subst (λ (z : PassView Loaded × Loaded). Puts z.0 z.1 (queue_view_of c.put.new.pass)) (λ k. (i.view k, i.item k)) done.puts;
    }

use Rattle.std.proofs.Common.{◌∙◌, refl, arith}
use Rattle.std.proofs.lemmas.Option.{slice_get-get_or}
use Rattle.vtex_c.proofs.Settling.{made_more, made_until}
use Rattle.vtex_c.proofs.settle.make_all.Goals as goal

pub loop-k-init : goal.loop-k-init
loop-k-init c = record { made = refl; same = refl }

pub loop-k-preserved : goal.loop-k-preserved
loop-k-preserved c =
    let inv = c.loop-k.invariant in
    let step = c.make-status.ensures in
    let done = c.if-status-ne-DONE.false in
    record {
      made = made_more c.args.steps.now c.args.tiles.now c.loop-k.k _ _ _ _ _ _ _
          (slice_get-get_or c.args.steps.now c.loop-k.k _ (omega arith)) inv.made step (omega (arith, done));
      same = step.kept (λ six. omega (arith, done, six)) ∙ inv.same;
    }

pub returns-then-status-ne-DONE : goal.returns-then-status-ne-DONE
returns-then-status-ne-DONE c =
    let inv = c.loop-k.invariant in
    made_until c.args.steps.now c.args.tiles.now c.loop-k.k _ _ _ _ _ _ _ _
    (slice_get-get_or c.args.steps.now c.loop-k.k _ (omega arith)) inv.made inv.same c.make-status.ensures c.if-status-ne-DONE.true

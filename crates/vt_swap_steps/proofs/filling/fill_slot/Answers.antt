use Rattle.std.proofs.Common.{sym, subst}
use Rattle.std.specs.Prelude.{drop, IfSome}
use Rattle.vt_swap_log.specs.declared.log.Front.{Front}
use Rattle.vt_swap_steps.specs.Tables.{IsPublished}
use Rattle.vt_swap_steps.proofs.Published.{published_if_filled}
use Rattle.vt_swap_steps.proofs.filling.fill_slot.Goals as goal

pub put-requires-clause-published : goal.put-requires-clause-published
put-requires-clause-published g c =
    let e = c.in-Some.ensures in
    subst (λ (f : Front). IfSome c.args.home.now (λ w. IsPublished w.desk.shown.value (drop w.behind w.log.items) f)) (sym e.tile.1)
    (published_if_filled c.args.home.now (λ w. w.desk.shown.value) (λ w. drop w.behind w.log.items) c.args.front.now c.note_tile.new.front
    c.args.frame c.args.page c.args.words.items c.requires.published e.cache e.added)

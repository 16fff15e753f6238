use Rattle.std.proofs.Common.{rules}
use Rattle.std.specs.Prelude.{drop}
use Rattle.vt_swap_steps.specs.Tables.{IsPublished, MayPublish}
use Rattle.vt_swap_steps.proofs.Published.{if_some_on, may_publish}
use Rattle.vt_swap_steps.proofs.publishing.note_and_publish.Goals as goal

pub publish_in-requires-clause-may : goal.publish_in-requires-clause-may
publish_in-requires-clause-may g c =
    if_some_on c.args.home.now (λ w. IsPublished w.desk.shown.value (drop w.behind w.log.items) c.args.front.now)
    (λ w. MayPublish w.desk.shown.value (drop w.behind w.log.items) c.args.change c.note_change.new.front)
    (λ w h. may_publish w.desk.shown.value (drop w.behind w.log.items) c.args.change c.args.front.now c.note_change.new.front h c.note_change.ensures.cache
    (c.note_change.ensures.added (search rules)) c.requires.early c.requires.frame) c.requires.published

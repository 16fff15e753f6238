use Rattle.std.proofs.Common.{◌∙◌, subst}
use Rattle.std.proofs.lemmas.List.{with_items_is}
use Rattle.vt_streamer.specs.Banks.{HasPublished}
use Rattle.vt_streamer.specs.Views.{StreamerView}
use Rattle.vt_streamer.proofs.Keeping.{kept_alike, alike_looked}
use Rattle.vt_streamer.proofs.Looking.{published_on}
use Rattle.vt_streamer.proofs.table_writer.TableWriter.try_publish.Goals as goal

pub invariant_of-self : goal.invariant_of-self
invariant_of-self c =
    let t = c.self.inside in
    let floors = with_items_is t.floors c.reach_all.new.floors (c.reach_all.auto.floors ∙ c.as_mut_slice-floors.ensures.len) in
    kept_alike t.geometry t.seat c.reach_all.new.writer t.samplers t.latest t.owners.items t.entries.items t.floors.items _ t.unmapped.items
    (alike_looked _ _ c.reach_all.ensures.looked) c.reach_all.ensures.sound (floors ∙ c.reach_all.ensures.floors) c.self.invariant

pub invariant_of-self-in-Some : goal.invariant_of-self-in-Some
invariant_of-self-in-Some c =
    let t = c.self.inside in
    let floors = with_items_is t.floors c.reach_all.new.floors (c.reach_all.auto.floors ∙ c.as_mut_slice-floors.ensures.len) in
    kept_alike t.geometry t.seat c.reach_all.new.writer t.samplers t.latest t.owners.items t.entries.items t.floors.items _ t.unmapped.items
    (alike_looked _ _ c.reach_all.ensures.looked) c.reach_all.ensures.sound (floors ∙ c.reach_all.ensures.floors) c.self.invariant

pub returns-in-None-clause-published : goal.returns-in-None-clause-published
returns-in-None-clause-published c =
    subst (λ (v : StreamerView). HasPublished v.writer c.publish.new.self.writer c.args.change) c.self.view_is
    (published_on c.self.inside.seat.view c.reach_all.new.writer.view c.publish.new.self.writer c.args.change c.reach_all.ensures.looked c.publish.ensures.published)

use Rattle.std.proofs.Common.{◌∙◌}
use Rattle.std.proofs.lemmas.List.{with_items_is}
use Rattle.vt_streamer.proofs.Keeping.{kept_alike, alike_looked}
use Rattle.vt_streamer.proofs.table_writer.TableWriter.try_bank.Goals as goal

pub invariant_of-self : goal.invariant_of-self
invariant_of-self c =
    let t = c.self.inside in
    let floors = with_items_is t.floors c.reach_all.new.floors (c.reach_all.auto.floors ∙ c.as_mut_slice-floors.ensures.len) in
    kept_alike t.geometry t.seat c.reach_all.new.writer t.samplers t.latest t.owners.items t.entries.items t.floors.items _ t.unmapped.items
    (alike_looked _ _ c.reach_all.ensures.looked) c.reach_all.ensures.sound (floors ∙ c.reach_all.ensures.floors) c.self.invariant

pub invariant_of-self-2 : goal.invariant_of-self-2
invariant_of-self-2 c =
    let t = c.self.inside in
    let floors = with_items_is t.floors c.reach_all.new.floors (c.reach_all.auto.floors ∙ c.as_mut_slice-floors.ensures.len) in
    kept_alike t.geometry t.seat c.reach_all.new.writer t.samplers t.latest t.owners.items t.entries.items t.floors.items _ t.unmapped.items
    (alike_looked _ _ c.reach_all.ensures.looked) c.reach_all.ensures.sound (floors ∙ c.reach_all.ensures.floors) c.self.invariant

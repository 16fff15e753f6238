use Rattle.std.proofs.Common.{not, nat_eq, sym, ap, ◌∙◌, subst, slice_set, ◌+◌}
use Rattle.std.specs.List.{filter}
use Rattle.std.specs.Map.{keys_of}
use Rattle.vt_plan.specs.Views.{RecencyView}
use Rattle.vt_evict.specs.Batches.{IsLawfulEntry}
use Rattle.vt_evict.specs.Kept.{applied}
use Rattle.vt_evict.proofs.SettleLemmas.{IsApplied, applied_some, applied_none, free_some, free_none}
use Rattle.vt_evict.proofs.Seen.{view_of}
use Rattle.vt_evict.proofs.recency.Recency.apply.Goals as goal

abbrev with_victim : goal.After-self-in-Some-1 → RecencyView
with_victim c =
    view_of c.self.inside.geometry c.self.inside.frames c.self.inside.pinned c.self.inside.entries.items (keys_of c.self.inside.order.entries)

victim_lawful : (c : goal.After-self-in-Some-1) → IsLawfulEntry (with_victim c) c.args.planned.now
victim_lawful c = subst (λ (u : RecencyView). IsLawfulEntry u c.args.planned.now) (sym c.self.view_is) c.requires

-- what the call did to the table before it, where a page loses its frame
victim_done : (c : goal.After-self-in-Some-1) → IsApplied (with_victim c) c.args.planned.now
    (slice_set (slice_set c.self.inside.entries.items c.in-Some.victim 0) c.args.planned.now.page (c.args.planned.now.frame + 1))
    (keys_of c.remove.new.order.entries)
victim_done c =
    applied_some (with_victim c) c.args.planned.now c.in-Some.victim (keys_of c.remove.new.order.entries) c.self.invariant.table (victim_lawful c) c.in-Some.is
    (c.remove.ensures.order ∙ ap (filter (λ y. not (nat_eq c.in-Some.victim y))) c.in_ok-insert.ensures.ok)

pub invariant_of-self-in-Some : goal.invariant_of-self-in-Some
invariant_of-self-in-Some c = record {
  table = (victim_done c).table;
  free_frames = free_some (with_victim c) c.args.planned.now c.in-Some.victim c.self.inside.free.keys c.self.invariant.table (victim_lawful c) c.in-Some.is
      c.self.invariant.free_frames;
  no_bound = c.remove.ensures.cap ∙ c.in_ok-insert.ensures.cap ∙ c.self.invariant.no_bound;
  walk = c.self.invariant.walk;
  none = c.self.invariant.none;
}

pub returns-in-Some-clause-applied : goal.returns-in-Some-clause-applied
returns-in-Some-clause-applied c = (victim_done c).view ∙ ap (λ (u : RecencyView). applied u c.args.planned.now) c.self.view_is

pub returns-in-Some-clause-table : goal.returns-in-Some-clause-table
returns-in-Some-clause-table c = (victim_done c).table

abbrev without : goal.After-self-in-None-1 → RecencyView
without c =
    view_of c.self.inside.geometry c.self.inside.frames c.self.inside.pinned c.self.inside.entries.items (keys_of c.self.inside.order.entries)

free_lawful : (c : goal.After-self-in-None-1) → IsLawfulEntry (without c) c.args.planned.now
free_lawful c = subst (λ (u : RecencyView). IsLawfulEntry u c.args.planned.now) (sym c.self.view_is) c.requires

-- what the call did to the table before it, where the frame was free
free_done : (c : goal.After-self-in-None-1) → IsApplied (without c) c.args.planned.now
    (slice_set c.self.inside.entries.items c.args.planned.now.page (c.args.planned.now.frame + 1)) (keys_of c.insert.new.order.entries)
free_done c =
    applied_none (without c) c.args.planned.now (keys_of c.insert.new.order.entries) c.self.invariant.table (free_lawful c) c.in-None.is
    c.in_ok-insert.ensures.ok

pub invariant_of-self-in-None : goal.invariant_of-self-in-None
invariant_of-self-in-None c = record {
  table = (free_done c).table;
  free_frames = free_none (without c) c.args.planned.now c.self.inside.free.keys c.take_frame.new.free.keys c.self.invariant.table (free_lawful c) c.in-None.is
      c.self.invariant.free_frames c.take_frame.ensures;
  no_bound = c.in_ok-insert.ensures.cap ∙ c.self.invariant.no_bound;
  walk = c.self.invariant.walk;
  none = c.self.invariant.none;
}

pub returns-in-None-clause-applied : goal.returns-in-None-clause-applied
returns-in-None-clause-applied c = (free_done c).view ∙ ap (λ (u : RecencyView). applied u c.args.planned.now) c.self.view_is

pub returns-in-None-clause-table : goal.returns-in-None-clause-table
returns-in-None-clause-table c = (free_done c).table

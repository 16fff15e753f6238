use Rattle.std.proofs.Common.{◌≡◌, ℕ, ◌-◌, List, sym, ap, ◌∙◌, subst}
use Rattle.std.specs.List.{filter}
use Rattle.std.specs.Map.{keys_of}
use Rattle.vt_plan.specs.Pages.{pages_of}
use Rattle.vt_plan.specs.Orders.{put_first}
use Rattle.vt_plan.specs.Views.{RecencyView, IsRecencyTable, is_loose_below, touched}
use Rattle.vt_evict.specs.Kept.{IsWalk}
use Rattle.vt_evict.proofs.TouchLemmas.{touched_is, touched_table}
use Rattle.vt_evict.proofs.Seen.{view_of}
use Rattle.vt_evict.proofs.recency.Recency.touch.Goals as goal

abbrev view : goal.After-put_first → RecencyView
view c =
    view_of c.self.inside.geometry c.self.inside.frames c.self.inside.pinned c.self.inside.entries.items (keys_of c.self.inside.order.entries)

-- the order after the call, by the table before it
order_is : (c : goal.After-put_first) → record (view c) { order = keys_of c.put_first.new.order.entries } ≡ touched (view c) c.args.wants.now.elements
order_is c =
    let keys : List ℕ = keys_of c.put_first.new.order.entries in
    let before : List ℕ = keys_of c.self.inside.order.entries in
    let walked : List ℕ = c.walk_lines.new.walk.walked.elements in
    let one : keys ≡ put_first (filter (is_loose_below c.self.inside.entries.items (c.page_count-pages.result - c.self.inside.pinned)) walked) before =
    subst (λ (l : List ℕ). keys ≡ put_first (filter (is_loose_below l (c.page_count-pages.result - c.self.inside.pinned)) walked) before)
    c.as_slice.ensures.value c.put_first.ensures.order in
    let two : keys ≡ put_first (filter (is_loose_below c.self.inside.entries.items (pages_of c.self.inside.geometry - c.self.inside.pinned)) walked) before =
    subst (λ (n : ℕ). keys ≡ put_first (filter (is_loose_below c.self.inside.entries.items (n - c.self.inside.pinned)) walked) before)
    c.page_count-pages.ensures.pages one in
    touched_is (view c) c.args.wants.now.elements walked keys c.walk_lines.ensures.walked two

table_is : (c : goal.After-put_first) → IsRecencyTable (record (view c) { order = keys_of c.put_first.new.order.entries })
table_is c = subst IsRecencyTable (sym (order_is c)) (touched_table (view c) c.args.wants.now.elements c.self.invariant.table)

pub invariant_of-self : goal.invariant_of-self
invariant_of-self c = record {
  table = table_is c;
  free_frames = c.self.invariant.free_frames;
  no_bound = c.put_first.ensures.cap ∙ c.self.invariant.no_bound;
  walk = subst (λ (n : ℕ). IsWalk n c.put_first.new.walk.marks.items c.put_first.new.walk.walked) c.page_count-pages.ensures.pages c.put_first.ensures.walk;
  none = c.put_first.ensures.none;
}

pub returns-clause-touched : goal.returns-clause-touched
returns-clause-touched c = order_is c ∙ ap (λ (v : RecencyView). touched v c.args.wants.now.elements) c.self.view_is

pub returns-clause-table : goal.returns-clause-table
returns-clause-table c = table_is c

use Rattle.std.proofs.Common.{◌≡◌, ℕ, ◌-◌, ◌<◌, not, List, ◌++◌, map, min, reverse, length, slice_index, slice_index_or, sym, ap, ◌∙◌, subst, arith}
use Rattle.std.specs.List.{filter, range_with_len}
use Rattle.std.specs.Map.{keys_of}
use Rattle.vt_plan.specs.FeedbackTypes.Wanted.{Wanted}
use Rattle.vt_plan.specs.Wants.{pages_wanted}
use Rattle.vt_plan.specs.declared.batches.Planned.{Planned}
use Rattle.vt_plan.specs.Orders.{line_pages}
use Rattle.vt_plan.specs.PageLists.{is_in}
use Rattle.vt_plan.specs.Views.{RecencyView}
use Rattle.vt_plan.specs.Plans.{candidates}
use Rattle.vt_plan.specs.Entries.{taken_at}
use Rattle.vt_evict.proofs.SettleLemmas.{order_facts}
use Rattle.vt_evict.proofs.PlanLemmas.{none_taken}
use Rattle.vt_evict.proofs.Seen.{view_of}
use Rattle.vt_evict.proofs.recency.Recency.put_taken.Goals as goal

pub put_victims-requires-clause-inside : goal.put_victims-requires-clause-inside
put_victims-requires-clause-inside c k d below =
    let v : RecencyView =
    view_of c.self.inside.geometry c.self.inside.frames c.self.inside.pinned c.self.inside.entries.items (keys_of c.self.inside.order.entries) in
    let h = order_facts v k d c.self.invariant.table below in
    omega (arith, h.inside, ap length c.as_slice-entries.ensures.value, c.self.invariant.table.entries_for_all)

pub put_victims-requires-clause-mapped : goal.put_victims-requires-clause-mapped
put_victims-requires-clause-mapped c k d below =
    let v : RecencyView =
    view_of c.self.inside.geometry c.self.inside.frames c.self.inside.pinned c.self.inside.entries.items (keys_of c.self.inside.order.entries) in
    let h = order_facts v k d c.self.invariant.table below in
    subst (λ (l : List ℕ). 0 < slice_index l (slice_index_or (keys_of c.self.inside.order.entries) k d)) (sym c.as_slice-entries.ensures.value) h.mapped

victims_are : (v : RecencyView) (wants : List Wanted) (kept : List ℕ) → kept ≡ line_pages v.shape (pages_wanted wants)
    → filter (λ p. not (is_in kept p)) (reverse v.order) ≡ candidates v wants
unfolding candidates
victims_are v wants kept e = ap (λ (l : List ℕ). filter (λ p. not (is_in l p)) (reverse v.order)) e

pub returns-then-len-most : goal.returns-then-len-most
returns-then-len-most c =
    none_taken c.args.self.now c.args.wants.now.elements c.args.missing.now c.args.most c.args.batch.now.elements
    (omega (arith, c.if-len-most.true, c.len.ensures))

pub returns : goal.returns
returns c =
    let v : RecencyView =
    view_of c.self.inside.geometry c.self.inside.frames c.self.inside.pinned c.self.inside.entries.items (keys_of c.self.inside.order.entries) in
    let wants : List Wanted = c.args.wants.now.elements in
    let before : List Planned = c.args.batch.now.elements in
    let victims : List ℕ = filter (λ p. not (is_in c.in_ok-kept.kept.keys p)) (reverse (keys_of c.self.inside.order.entries)) in
    let taken : List ℕ → List ℕ → List Planned = λ entries pages. before
    ++ map (taken_at entries c.args.missing.now pages (length before)) (range_with_len 0 (min (c.args.most - length before) (length pages))) in
    c.put_victims.ensures.put
    ∙ ap (λ (l : List ℕ). taken l victims) c.as_slice-entries.ensures.value
    ∙ ap (taken v.entries) (victims_are v wants c.in_ok-kept.kept.keys c.in_ok-kept.ensures)
    ∙ ap (λ (u : RecencyView). taken u.entries (candidates u wants)) c.self.view_is

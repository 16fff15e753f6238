use Rattle.std.proofs.Common.{◌≡◌, ℕ, ◌-◌, ◌<◌, nat_lt, List, length, ap, ◌∙◌, count_by, subst, arith}
use Rattle.std.specs.List.{All}
use Rattle.std.specs.Map.{keys_of}
use Rattle.std.proofs.lemmas.List.Elements.{All-map}
use Rattle.std.proofs.lemmas.List.Sums.{count_by-le-length}
use Rattle.vt_plan.specs.Pages.{pages_of}
use Rattle.vt_plan.specs.Wants.{pages_wanted}
use Rattle.vt_plan.specs.Orders.{line_pages}
use Rattle.vt_plan.specs.Views.{RecencyView, IsRecencyTable, pages_needed}
use Rattle.vt_evict.proofs.LineOrders.{lines_few}
use Rattle.vt_evict.proofs.TouchLemmas.{needed_is}
use Rattle.vt_evict.proofs.Seen.{view_of}
use Rattle.vt_evict.proofs.recency.Recency.needed.Goals as goal

pub overflow_cast-result : goal.overflow_cast-result
overflow_cast-result c =
    let v : RecencyView = c.args.self.now in
    let table : IsRecencyTable v = subst IsRecencyTable c.self.view_is c.self.invariant.table in
    let keys : c.as_slice.result.now ≡ line_pages v.shape (pages_wanted c.args.wants.now.elements) =
    c.as_slice.ensures.keys ∙ c.in_ok-pages.ensures ∙ ap (λ (u : RecencyView). line_pages u.shape (pages_wanted c.args.wants.now.elements)) c.self.view_is in
    let inside : All (λ p. p < pages_of v.shape) (pages_wanted c.args.wants.now.elements) =
    All-map (λ p. p < pages_of v.shape) (λ w. w.page) c.args.wants.now.elements c.requires in
    let few = lines_few v.shape (pages_wanted c.args.wants.now.elements) table.limits inside in
    omega (
      arith,
      count_by-le-length (λ p. nat_lt p (c.page_count.result - c.self.inside.pinned)) c.as_slice.result.now,
      c.count_below-needed.ensures,
      ap length keys,
      few,
      table.limits.most_pages,
    )

pub returns : goal.returns
returns c =
    let v : RecencyView =
    view_of c.self.inside.geometry c.self.inside.frames c.self.inside.pinned c.self.inside.entries.items (keys_of c.self.inside.order.entries) in
    c.count_below-needed.ensures
    ∙ ap (λ (l : List ℕ). count_by (λ p. nat_lt p (c.page_count.result - c.self.inside.pinned)) l) c.as_slice.ensures.keys
    ∙ ap (λ (n : ℕ). count_by (λ p. nat_lt p (n - c.self.inside.pinned)) c.in_ok-pages.pages.keys) c.page_count.ensures.pages
    ∙ needed_is v c.args.wants.now.elements c.in_ok-pages.pages.keys c.in_ok-pages.ensures
    ∙ ap (λ (u : RecencyView). pages_needed u c.args.wants.now.elements) c.self.view_is

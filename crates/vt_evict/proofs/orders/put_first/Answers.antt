use Rattle.std.proofs.Common.{◌≡◌, ℕ, ◌&&◌, false, List, drop, length, refl, sym, ap, ◌∙◌}
use Rattle.std.specs.List.{filter}
use Rattle.std.specs.Map.{keys_of}
use Rattle.std.proofs.Math.Seq.{drop-length}
use Rattle.vt_plan.specs.Orders.{put_first, promoted_if}
use Rattle.vt_plan.specs.PageLists.{is_in}
use Rattle.vt_plan.specs.Views.{is_loose_below}
use Rattle.vt_evict.proofs.ListLemmas.{put_first-none}
use Rattle.vt_plan.proofs.ListLemmas.{is_in-filter}
use Rattle.vt_evict.proofs.OrderLemmas.{step_back, put_back, back_start, still_in}
use Rattle.vt_evict.proofs.orders.put_first.Goals as goal

pub loop-page-init : goal.loop-page-init
loop-page-init c =
    let all : List ℕ = c.args.walk.now.walked.elements in
    record {
      walk = c.requires.walk;
      front = back_start all;
      order = sym (ap (λ (l : List ℕ). put_first (filter (is_loose_below c.args.entries.now c.args.unpinned) l) (keys_of c.args.order.now.entries))
          (drop-length all)
          ∙ put_first-none (keys_of c.args.order.now.entries));
      cap = refl;
    }

pub promote_loose-requires-clause-in_order : goal.promote_loose-requires-clause-in_order
promote_loose-requires-clause-in_order c below mapped =
    let all : List ℕ = c.args.walk.now.walked.elements in
    let h = step_back all c.loop-page.walk.walked.elements c.pop.new.self.walked.elements c.in-Some.page c.requires.walk.once
    c.loop-page.invariant.front c.in-Some.ensures.some in
    let rest : List ℕ = drop (length c.loop-page.walk.walked.elements) all in
    let new : is_in (filter (is_loose_below c.args.entries.now c.args.unpinned) rest) c.in-Some.page ≡ false =
    is_in-filter (is_loose_below c.args.entries.now c.args.unpinned) rest c.in-Some.page
    ∙ ap (λ b. b && is_loose_below c.args.entries.now c.args.unpinned c.in-Some.page) h.new in
    rw c.loop-page.invariant.order
    (still_in (filter (is_loose_below c.args.entries.now c.args.unpinned) rest) (keys_of c.args.order.now.entries) c.in-Some.page new
    (c.requires.in_order c.in-Some.page below mapped))

pub loop-page-preserved : goal.loop-page-preserved
loop-page-preserved c =
    let all : List ℕ = c.args.walk.now.walked.elements in
    let rest : List ℕ = drop (length c.loop-page.walk.walked.elements) all in
    let h = step_back all c.loop-page.walk.walked.elements c.pop.new.self.walked.elements c.in-Some.page c.requires.walk.once
    c.loop-page.invariant.front c.in-Some.ensures.some in
    record {
      walk = c.pop.ensures.walk;
      front = h.now;
      order = c.promote_loose.ensures.order
          ∙ ap (promoted_if (is_loose_below c.args.entries.now c.args.unpinned c.in-Some.page) c.in-Some.page) c.loop-page.invariant.order
          ∙ put_back (is_loose_below c.args.entries.now c.args.unpinned) c.in-Some.page rest (keys_of c.args.order.now.entries) h.new
          ∙ ap (λ (l : List ℕ). put_first (filter (is_loose_below c.args.entries.now c.args.unpinned) l) (keys_of c.args.order.now.entries)) (sym h.next);
      cap = c.promote_loose.ensures.cap ∙ c.loop-page.invariant.cap;
    }

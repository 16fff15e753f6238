use Rattle.std.proofs.Common.{◌≡◌, ℕ, ◌-◌, ◌&&◌, not, nat_lt, List, ◌++◌, [], replicate, sym, ap, ◌∙◌, subst}
use Rattle.std.specs.List.{range_with_len}
use Rattle.std.specs.Map.{keys_of}
use Rattle.vt_plan.specs.Shape.{Shape}
use Rattle.vt_plan.specs.Pages.{pages_of}
use Rattle.vt_plan.specs.Views.{RecencyView, IsRecencyTable, is_held, first_view}
use Rattle.vt_evict.proofs.FirstLemmas.{first_table, first_free}
use Rattle.vt_evict.proofs.recency.Recency.new.Goals as goal

first_is : (s : Shape) (frames pinned : ℕ) (entries order : List ℕ) → entries ≡ replicate (pages_of s - pinned) 0 ++ range_with_len 1 pinned → order ≡ []
    → ◌≡◌ {A = RecencyView} (record { shape = s; frames = frames; pinned = pinned; entries = entries; order = order }) (first_view s frames pinned)
unfolding first_view
first_is s frames pinned entries order e o = λ i. record { shape = s; frames = frames; pinned = pinned; entries = e i; order = o i }

pub invariant_of-result : goal.invariant_of-result
invariant_of-result c =
    let entries : c.in_ok-entries.entries.items ≡ replicate (pages_of c.args.geometry.now - c.args.pinned) 0 ++ range_with_len 1 c.args.pinned =
    c.in_ok-entries.ensures ∙ ap (λ (n : ℕ). replicate (n - c.args.pinned) 0 ++ range_with_len 1 c.args.pinned) c.page_count.ensures.pages in
    let keys : keys_of c.in_ok-order.order.entries ≡ [] = ap (λ o. keys_of o.entries) c.in_ok-order.ensures in
    let view = first_is c.args.geometry.now c.args.frames c.args.pinned c.in_ok-entries.entries.items (keys_of c.in_ok-order.order.entries)
    entries keys in
    record {
      table = subst IsRecencyTable (sym view) (first_table c.args.geometry.now c.args.frames c.args.pinned c.page_count.ensures.limits c.requires.most_frames
          c.requires.some_pinned
          c.requires.enough_frames c.requires.enough_pages);
      free_frames = λ f.
          c.in_ok-free.ensures f
          ∙ first_free c.args.geometry.now c.args.frames c.args.pinned c.requires.enough_pages f
          ∙ ap (λ (l : List ℕ). nat_lt f c.args.frames && not (is_held l f)) (sym entries);
      no_bound = ap (λ o. o.cap) c.in_ok-order.ensures;
      walk = c.in_ok-walk.ensures.walk;
      none = c.in_ok-walk.ensures.none;
    }

pub returns-clause-first : goal.returns-clause-first
returns-clause-first c =
    let entries : c.in_ok-entries.entries.items ≡ replicate (pages_of c.args.geometry.now - c.args.pinned) 0 ++ range_with_len 1 c.args.pinned =
    c.in_ok-entries.ensures ∙ ap (λ (n : ℕ). replicate (n - c.args.pinned) 0 ++ range_with_len 1 c.args.pinned) c.page_count.ensures.pages in
    let keys : keys_of c.in_ok-order.order.entries ≡ [] = ap (λ o. keys_of o.entries) c.in_ok-order.ensures in
    first_is c.args.geometry.now c.args.frames c.args.pinned c.in_ok-entries.entries.items (keys_of c.in_ok-order.order.entries) entries keys

pub returns-clause-table : goal.returns-clause-table
returns-clause-table c =
    let entries : c.in_ok-entries.entries.items ≡ replicate (pages_of c.args.geometry.now - c.args.pinned) 0 ++ range_with_len 1 c.args.pinned =
    c.in_ok-entries.ensures ∙ ap (λ (n : ℕ). replicate (n - c.args.pinned) 0 ++ range_with_len 1 c.args.pinned) c.page_count.ensures.pages in
    let keys : keys_of c.in_ok-order.order.entries ≡ [] = ap (λ o. keys_of o.entries) c.in_ok-order.ensures in
    let view = first_is c.args.geometry.now c.args.frames c.args.pinned c.in_ok-entries.entries.items (keys_of c.in_ok-order.order.entries)
    entries keys in
    subst IsRecencyTable (sym view) (first_table c.args.geometry.now c.args.frames c.args.pinned c.page_count.ensures.limits c.requires.most_frames
    c.requires.some_pinned
    c.requires.enough_frames c.requires.enough_pages)

-- Tables after the stamps of a wanted list, and the number of pages that one needs.
use Rattle.std.proofs.Common.{◌≡◌, ℕ, ◌+◌, ◌-◌, Bool, true, false, not, ◌&&◌, ◌||◌, nat_lt, nat_le, List, refl, ap, ◌∙◌, arith}
use Rattle.std.specs.List.{filter, count_by}
use Rattle.std.proofs.lemmas.Bool.Decides.{nat_tests}
use Rattle.vt_plan.specs.Pages.{pages_of}
use Rattle.vt_plan.specs.FeedbackTypes.Wanted.{Wanted}
use Rattle.vt_plan.specs.Wants.{pages_wanted}
use Rattle.vt_plan.specs.Orders.{put_first, line_pages}
use Rattle.vt_plan.specs.PageLists.{is_in}
use Rattle.vt_plan.specs.Views.{RecencyView, IsRecencyTable, is_pinned, is_loose, is_loose_below, touched_pages, touched, pages_needed}
use Rattle.vt_plan.specs.Missing.{has_frame}
use Rattle.vt_evict.proofs.ListLemmas.{is_in-more, distinct-filter, each_once_distinct, put_once}
use Rattle.vt_plan.proofs.ListLemmas.{filter_same, is_in-filter}

loose_tests : (p pages pinned : ℕ) (m : Bool) → (nat_lt p (pages - pinned) && m) ≡ (m && not (nat_le pages (p + pinned)))
loose_tests p pages pinned true = grind (arith, nat_tests)
loose_tests p pages pinned false = grind (arith, nat_tests)

pub loose_below : (v : RecencyView) (p : ℕ) → is_loose_below v.entries (pages_of v.shape - v.pinned) p ≡ is_loose v p
loose_below v p = loose_tests p (pages_of v.shape) v.pinned (has_frame v.entries p)

pub touched_is : (v : RecencyView) (wants : List Wanted) (walked keys : List ℕ) → walked ≡ line_pages v.shape (pages_wanted wants)
    → keys ≡ put_first (filter (is_loose_below v.entries (pages_of v.shape - v.pinned)) walked) v.order → record v { order = keys } ≡ touched v wants
unfolding touched_pages
touched_is v wants walked keys lines e =
    let order : keys ≡ put_first (touched_pages v wants) v.order =
    e ∙ ap (λ (l : List ℕ). put_first l v.order) (filter_same _ _ walked (loose_below v) ∙ ap (filter (is_loose v)) lines) in
    ap (λ (l : List ℕ). let u : RecencyView = record v { order = l } in u) order

both : (b c : Bool) → ((b && c) || c) ≡ c
both true true = refl
both true false = refl
both false true = refl
both false false = refl

pub touched_table : (v : RecencyView) (wants : List Wanted) → IsRecencyTable v → IsRecencyTable (touched v wants)
unfolding put_first touched_pages line_pages
touched_table v wants h = record {
  limits = h.limits;
  most_frames = h.most_frames;
  some_pinned = h.some_pinned;
  enough_frames = h.enough_frames;
  enough_pages = h.enough_pages;
  entries_for_all = h.entries_for_all;
  frames_inside = h.frames_inside;
  pinned_mapped = h.pinned_mapped;
  apart = h.apart;
  in_order = λ p.
      is_in-more (touched_pages v wants) v.order p
      ∙ ap (λ (b : Bool). b || is_in v.order p) (is_in-filter (is_loose v) (line_pages v.shape (pages_wanted wants)) p)
      ∙ ap (λ (b : Bool). (is_in (line_pages v.shape (pages_wanted wants)) p && is_loose v p) || b) (h.in_order p)
      ∙ both (is_in (line_pages v.shape (pages_wanted wants)) p) (is_loose v p);
  once = put_once (touched_pages v wants) v.order (distinct-filter (is_loose v) (line_pages v.shape (pages_wanted wants)) (each_once_distinct _)) h.once;
}

count_same : (p q : ℕ → Bool) (xs : List ℕ) → ((x : ℕ) → p x ≡ q x) → count_by p xs ≡ count_by q xs
count_same p q xs h = ap (λ (t : ℕ → Bool). count_by t xs) (λ i x. h x i)

pub needed_is : (v : RecencyView) (wants : List Wanted) (walked : List ℕ) → walked ≡ line_pages v.shape (pages_wanted wants)
    → count_by (λ p. nat_lt p (pages_of v.shape - v.pinned)) walked ≡ pages_needed v wants
unfolding pages_needed
needed_is v wants walked lines =
    count_same _ _ walked (λ p. tests p (pages_of v.shape) v.pinned) ∙ ap (count_by (λ p. not (is_pinned v p))) lines where
      tests : (p pages pinned : ℕ) → nat_lt p (pages - pinned) ≡ not (nat_le pages (p + pinned))
      tests p pages pinned = grind (arith, nat_tests)

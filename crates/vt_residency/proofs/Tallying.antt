-- Tallies of pixels, page by page.
use Rattle.std.proofs.Common.{◌≡◌, ℕ, ◌+◌, ◌<◌, ◌≤◌, Bool, true, false, nat_eq, nat_lt, min, List, [], ◌∷◌, ◌++◌, map, length, replicate, get_or, slice_index, slice_set, refl, sym, ap, subst, ◌∙◌, arith}
use Rattle.std.specs.List.{All, sum_by}
use Rattle.std.proofs.Math.ListN.{get_or-map}
use Rattle.std.proofs.Math.Seq.{map-set_same}
use Rattle.std.proofs.lemmas.Bool.Decides.{nat_tests}
use Rattle.std.proofs.lemmas.List.{length-map, map-set}
use Rattle.vt_outside.specs.Lists.{ListView}
use Rattle.vt_evict.specs.PageLists.{is_in}
use Rattle.vt_evict.specs.Kept.{IsWalk}
use Rattle.vt_evict.proofs.WalkLemmas.{marked_below, room_at, added_walk, popped_walk, last_below, no_walk}
use Rattle.std.proofs.Common.{zero, suc, cond, take}
use Rattle.std.proofs.lemmas.Bool.{false≢true}
use Rattle.std.proofs.lemmas.Grind.{common_steps, get_or-set_at}
use Rattle.std.proofs.lemmas.List.{get_or-set_other, map_more}
use Rattle.std.proofs.lemmas.List.Folds.{list_any_at}
use Rattle.std.proofs.lemmas.List.Elements.{All-from_get_or}
use Rattle.std.proofs.lemmas.List.Sums.{sum_by_more, sum_by_push}
use Rattle.vt_feedback.specs.Ranks.{most_pixels}
use Rattle.vt_evict.proofs.PlanListLemmas.{nat_eq_true}
use Rattle.vt_evict.proofs.SettleLemmas.{self_eq, eq_false}
use Rattle.vt_residency.specs.declared.feedback.Listed.{Listed}
use Rattle.vt_residency.specs.Tallies.{IsTally, pixels_for, pixels_of, one_pixel}

-- a count that is set and is small enough leaves all of them so
most_set : (counts : List ℕ) (p x : ℕ) → ((q : ℕ) → slice_index counts q ≤ most_pixels) → x ≤ most_pixels → (q : ℕ) → slice_index (slice_set counts p x) q ≤ most_pixels
most_set counts p x most small q = grind (arith, common_steps)

-- a count to which pixels were added, or another
pub set_more : (counts : List ℕ) (q x p : ℕ) → q < length counts → slice_index counts p ≤ most_pixels
    → slice_index (slice_set counts q (min most_pixels (slice_index counts q + x))) p ≡ min most_pixels (slice_index counts p + cond (nat_eq q p) x 0)
set_more counts q x p inside small = step (nat_eq q p) refl where
  step : (b : Bool) → nat_eq q p ≡ b
      → slice_index (slice_set counts q (min most_pixels (slice_index counts q + x))) p ≡ min most_pixels (slice_index counts p + cond b x 0)
  step true same =
      let e : q ≡ p = nat_eq_true q p same in
      get_or-set_at counts q p (min most_pixels (slice_index counts q + x)) 0 (sym e) inside
      ∙ ap (λ (k : ℕ). min most_pixels (slice_index counts k + x)) e
  step false other =
      get_or-set_other counts q p (min most_pixels (slice_index counts q + x)) 0 (λ e. false≢true (sym other ∙ ap (nat_eq q) e ∙ self_eq q))
      ∙ small_is (slice_index counts p) small where
        small_is : (n : ℕ) → n ≤ most_pixels → n ≡ min most_pixels (n + 0)
        small_is n h = omega (arith, h)

-- the sum of one more, each kept below the most
kept_sum : (a b c : ℕ) → a ≡ min most_pixels b → min most_pixels (a + c) ≡ min most_pixels (b + c)
kept_sum a b c e = omega (arith, e)

pub listed_more : (list : List Listed) (i p a : ℕ) (d : Listed) → i < length list → a ≡ pixels_of (take i list) p
    → min most_pixels (a + pixels_for p (get_or list i d)) ≡ pixels_of (take (i + 1) list) p
listed_more list i p a d inside e =
    kept_sum a (sum_by (pixels_for p) (take i list)) (pixels_for p (get_or list i d)) e
    ∙ ap (min most_pixels) (sym (sum_by_more (pixels_for p) list i d inside))

pub pages_more : (ids : List ℕ) (i p a : ℕ) (d : ℕ) → i < length ids → a ≡ pixels_of (map one_pixel (take i ids)) p
    → min most_pixels (a + pixels_for p (one_pixel (get_or ids i d))) ≡ pixels_of (map one_pixel (take (i + 1) ids)) p
pages_more ids i p a d inside e =
    kept_sum a (sum_by (pixels_for p) (map one_pixel (take i ids))) (pixels_for p (one_pixel (get_or ids i d))) e
    ∙ ap (min most_pixels) (sym (sum_by_push (pixels_for p) (map one_pixel (take i ids)) (one_pixel (get_or ids i d))))
    ∙ ap (λ (l : List Listed). pixels_of l p) (sym (map_more one_pixel ids i d inside))

-- a count that is the first of its page
pub count_done : (counts pixels : List ℕ) (i p : ℕ) → i < length counts → slice_index counts i ≡ 0 → slice_index pixels i ≤ most_pixels
    → ((q : ℕ) → q < i → slice_index counts q ≡ slice_index pixels q) → p < i + 1
    → slice_index (slice_set counts i (min most_pixels (slice_index counts i + slice_index pixels i))) p ≡ slice_index pixels p
count_done counts pixels i p inside none small before below =
    let e : min most_pixels (slice_index counts i + slice_index pixels i) ≡ slice_index pixels i = omega (arith, none, small) in
    rw e (plain counts pixels i p inside before below) where
      plain : (counts pixels : List ℕ) (i p : ℕ) → i < length counts → ((q : ℕ) → q < i → slice_index counts q ≡ slice_index pixels q) → p < i + 1
          → slice_index (slice_set counts i (slice_index pixels i)) p ≡ slice_index pixels p
      plain counts pixels i p inside before below = grind (arith, common_steps)

pub count_rest : (counts : List ℕ) (i p x : ℕ) → i < length counts → ((q : ℕ) → i ≤ q → slice_index counts q ≡ 0) → i + 1 ≤ p
    → slice_index (slice_set counts i x) p ≡ 0
count_rest counts i p x inside none past = grind (arith, common_steps)

-- a pixel that wants no page counts for none
pub one_none : (a n p q : ℕ) → a ≤ most_pixels → p < n → n ≤ q → a ≡ min most_pixels (a + cond (nat_eq q p) 1 0)
one_none a n p q small below past =
    let other : nat_eq q p ≡ false = eq_false q p (λ e. omega (arith, below, past, e)) in
    rw other (same a small) where
      same : (a : ℕ) → a ≤ most_pixels → a ≡ min most_pixels (a + 0)
      same a h = omega (arith, h)

module _ (n : ℕ) (counts : List ℕ) (pages : ListView ℕ) (h : IsTally n counts pages) where
  pub counts_for_all : length counts ≡ n
  counts_for_all = sym (length-map counts (nat_lt 0)) ∙ h.listed.marks_for_all

  -- a page is listed where its count is not 0
  pub listed_at : (p : ℕ) → nat_lt 0 (slice_index counts p) ≡ is_in pages.elements p
  listed_at p = sym (get_or-map (nat_lt 0) counts p 0) ∙ h.listed.marked p

  pub not_listed : (p : ℕ) → slice_index counts p ≡ 0 → is_in pages.elements p ≡ false
  not_listed p none = sym (listed_at p) ∙ ap (nat_lt 0) none

  pub room_in : (p : ℕ) → p < n → slice_index counts p ≡ 0 → 1 ≤ pages.spare
  room_in p inside none = room_at n (map (nat_lt 0) counts) pages p h.listed inside (not_listed p none)

  pub tally_added : (new : ListView ℕ) (p x : ℕ) → p < n → slice_index counts p ≡ 0 → 0 < x → x ≤ most_pixels
      → new.elements ≡ pages.elements ++ p ∷ [] → pages.spare ≤ new.spare + 1 → IsTally n (slice_set counts p x) new
  tally_added new p x inside none some small e room =
      let high : nat_lt 0 x ≡ true = yes x some in
      let marks : map (nat_lt 0) (slice_set counts p x) ≡ slice_set (map (nat_lt 0) counts) p true =
      map-set (nat_lt 0) counts p x ∙ ap (λ (b : Bool). slice_set (map (nat_lt 0) counts) p b) high in
      record {
        listed = subst (λ (m : List Bool). IsWalk n m new) (sym marks)
            (added_walk n (map (nat_lt 0) counts) pages new p h.listed inside (not_listed p none) e room);
        most = most_set counts p x h.most small;
      } where
        yes : (x : ℕ) → 0 < x → nat_lt 0 x ≡ true
        yes x some = grind (arith, nat_tests)

  -- a count that changes and stays 0, or stays above it, changes no list
  pub tally_same : (p x : ℕ) → x ≤ most_pixels → nat_lt 0 x ≡ nat_lt 0 (slice_index counts p) → IsTally n (slice_set counts p x) pages
  tally_same p x small same = record {
    listed = subst (λ (m : List Bool). IsWalk n m pages) (sym (map-set_same (nat_lt 0) counts p x 0 same)) h.listed;
    most = most_set counts p x h.most small;
  }

  pub tally_popped : (new : ListView ℕ) (p : ℕ) → pages.elements ≡ new.elements ++ p ∷ [] → new.spare ≡ pages.spare + 1
      → IsTally n (slice_set counts p 0) new
  tally_popped new p e room = record {
    listed = subst (λ (m : List Bool). IsWalk n m new) (sym (map-set (nat_lt 0) counts p 0))
        (popped_walk n (map (nat_lt 0) counts) pages new p h.listed e room);
    most = most_set counts p 0 h.most (omega arith);
  }

  pub popped_below : (xs : List ℕ) (p : ℕ) → pages.elements ≡ xs ++ p ∷ [] → p < n
  popped_below xs p e = last_below n (map (nat_lt 0) counts) pages xs p h.listed e

  pub tally_none : pages.elements ≡ [] → (p : ℕ) → slice_index counts p ≡ 0
  tally_none none p = zero_of (slice_index counts p) (listed_at p ∙ ap (λ (xs : List ℕ). is_in xs p) none) where
    zero_of : (x : ℕ) → nat_lt 0 x ≡ false → x ≡ 0
    zero_of x low = grind (arith, nat_tests)

  pub listed_below : All (λ p. p < n) pages.elements
  listed_below = All-from_get_or (λ p. p < n) pages.elements 0 (λ k inside.
      marked_below n (map (nat_lt 0) counts) pages h.listed (slice_index pages.elements k)
      (list_any_at (nat_eq (slice_index pages.elements k)) pages.elements k 0 inside (self_eq (slice_index pages.elements k))))

zeros_low : (n : ℕ) → map (nat_lt 0) (replicate n 0) ≡ replicate n false
zeros_low zero = refl
zeros_low (suc n) = ap (λ (l : List Bool). false ∷ l) (zeros_low n)

pub first_tally : (n : ℕ) (counts : List ℕ) (pages : ListView ℕ) → counts ≡ replicate n 0 → pages.elements ≡ [] → n ≤ pages.spare → IsTally n counts pages
first_tally n counts pages zeros none room = record {
  listed = no_walk n (map (nat_lt 0) counts) pages (ap (map (nat_lt 0)) zeros ∙ zeros_low n) none room;
  most = λ p. rw zeros (small n p);
} where
  small : (n p : ℕ) → slice_index (replicate n 0) p ≤ most_pixels
  small n p = grind (arith, common_steps)

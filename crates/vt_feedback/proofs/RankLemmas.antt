-- The ranks of wanted pages, in order, are the wanted list.
use Rattle.std.proofs.Common.{◌≡◌, ◌≢◌, ℕ, zero, suc, ◌+◌, ◌-◌, ◌<◌, ◌≤◌, Bool, true, false, cond, ◌==◌, nat_eq, nat_lt, nat_le, List, [], ◌∷◌, ◌++◌, map, length, slice_index, get_or, Contains, refl, sym, ap, subst, ◌∙◌, ◌||◌, ◌&&◌, inl, inr, add-one, append-nil, arith}
use Rattle.std.specs.List.{All, AllPairs, IsDistinct}
use Rattle.std.specs.List.Sorted.{IsPermutation, IsSortedBy}
use Rattle.std.specs.Cmp.{IsTotalOrder}
use Rattle.std.specs.Ordering.{is_lt, nat_cmp, ordering_then}
use Rattle.std.specs.declared.cmp.Ordering.{Ordering}
use Rattle.std.proofs.lemmas.Bool.Decides.{nat_tests}
use Rattle.std.proofs.lemmas.Bool.{cases_lt}
use Rattle.std.proofs.lemmas.List.{length-map, get_or-map}
use Rattle.std.proofs.lemmas.List.Elements.{All-nil, All-push, All-weaker, All-map, Contains-append_left, Contains-push, All-contains}
use Rattle.std.proofs.lemmas.List.Quantifiers.{all_pairs_push}
use Rattle.std.proofs.lemmas.List.FromFn.{filter_of_map_range_with_len_more}
use Rattle.std.proofs.lemmas.List.Sorted.{All-permutation, Contains-permutation, sorted_far, ranks_by}
use Rattle.std.proofs.lemmas.Map.Keys.{IsDistinct-from_apart, apart_from_distinct, IsDistinct-IsPermutation}
use Rattle.vt_pages.specs.Shape.{Shape}
use Rattle.vt_pages.specs.Pages.{level_of, levels_of, pages_of, last_level_from, pages_below}
use Rattle.vt_feedback.specs.declared.Wanted.{Wanted}
use Rattle.vt_feedback.specs.declared.ranks.Rank.{Rank}
use Rattle.vt_feedback.specs.Wants.{is_before, IsWanted, IsWants}
use Rattle.vt_feedback.specs.Ranks.{most_pixels, rank_of, ranks_below, wanted_by}

last_level_within : (s : Shape) (p k : ℕ) → last_level_from s p k ≤ k
unfolding last_level_from
last_level_within s p zero = omega arith
last_level_within s p (suc k) = step (nat_le (pages_below s (suc k)) p) (last_level_within s p k) where
  step : (b : Bool) → last_level_from s p k ≤ k → cond b (suc k) (last_level_from s p k) ≤ suc k
  step true h = omega arith
  step false h = omega arith

level_within : (s : Shape) (p : ℕ) → level_of s p ≤ levels_of s - 1
unfolding level_of
level_within s p = last_level_within s p (levels_of s - 1)

-- what holds of each rank of the first n pages
pub record IsRank (s : Shape) (counts : List ℕ) (n : ℕ) (r : Rank) : Type 0 where
  pub same : rank_of s counts r.page ≡ r
  pub below : r.page < n
  pub some : 0 < slice_index counts r.page

pub ranks-none : (s : Shape) (counts : List ℕ) → ranks_below s counts 0 ≡ []
unfolding ranks_below
ranks-none s counts = refl

pub ranks-more : (s : Shape) (counts : List ℕ) (n : ℕ)
    → ranks_below s counts (n + 1) ≡ ranks_below s counts n ++ cond (nat_lt 0 (slice_index counts n)) (rank_of s counts n ∷ []) []
unfolding ranks_below
ranks-more s counts n = filter_of_map_range_with_len_more (λ r. nat_lt 0 (slice_index counts r.page)) (rank_of s counts) 0 n n (omega arith)

ranks-suc : (s : Shape) (counts : List ℕ) (n : ℕ)
    → ranks_below s counts (suc n) ≡ ranks_below s counts n ++ cond (nat_lt 0 (slice_index counts n)) (rank_of s counts n ∷ []) []
ranks-suc s counts n = rw add-one at (ranks-more s counts n)

-- pages that no pixel wants add no ranks
pub ranks-passed : (s : Shape) (counts : List ℕ) (first n : ℕ) → ((p : ℕ) → p < n → slice_index counts (first + p) ≡ 0)
    → ranks_below s counts (first + n) ≡ ranks_below s counts first
ranks-passed s counts first zero none = ap (ranks_below s counts) (omega arith)
ranks-passed s counts first (suc n) none =
    let here : slice_index counts (first + n) ≡ 0 = none n (omega arith) in
    let b : nat_lt 0 (slice_index counts (first + n)) ≡ false = grind (arith, nat_tests) in
    ap (ranks_below s counts) (let e : first + suc n ≡ suc (first + n) = omega arith in e)
    ∙ ranks-suc s counts (first + n)
    ∙ ap (λ (t : Bool). ranks_below s counts (first + n) ++ cond t (rank_of s counts (first + n) ∷ []) []) b
    ∙ append-nil (ranks_below s counts (first + n))
    ∙ ranks-passed s counts first n (λ p below. none p (omega arith))

wider : {s : Shape} {counts : List ℕ} {n : ℕ} {r : Rank} → IsRank s counts n r → IsRank s counts (suc n) r
wider h = record { same = h.same; below = omega (arith, h.below); some = h.some }

ranks_are : (s : Shape) (counts : List ℕ) (n : ℕ) → All (IsRank s counts n) (ranks_below s counts n)
ranks_are s counts zero = rw ranks-none (All-nil (IsRank s counts 0))
ranks_are s counts (suc n) = rw ranks-suc (step (nat_lt 0 (slice_index counts n)) refl
    (All-weaker (IsRank s counts n) (IsRank s counts (suc n)) (λ r h. wider h) (ranks_below s counts n) (ranks_are s counts n))) where
      step : (b : Bool) → nat_lt 0 (slice_index counts n) ≡ b → All (IsRank s counts (suc n)) (ranks_below s counts n)
          → All (IsRank s counts (suc n)) (ranks_below s counts n ++ cond b (rank_of s counts n ∷ []) [])
      step true e h = All-push (IsRank s counts (suc n)) (ranks_below s counts n) (rank_of s counts n) h
          (record { same = refl; below = omega arith; some = grind (arith, nat_tests) })
      step false e h = rw append-nil h

rank_is_there : (s : Shape) (counts : List ℕ) (n p : ℕ) → p < n → 0 < slice_index counts p → Contains (ranks_below s counts n) (rank_of s counts p)
rank_is_there s counts zero p below some = absurd (omega arith)
rank_is_there s counts (suc n) p below some = rw ranks-suc (elim (cases_lt p n) [
  | inl under ↦ Contains-append_left (ranks_below s counts n) (cond (nat_lt 0 (slice_index counts n)) (rank_of s counts n ∷ []) [])
      (rank_of s counts p) (rank_is_there s counts n p under some)
  | inr over ↦ let e : n ≡ p = omega arith in
      let b : nat_lt 0 (slice_index counts n) ≡ true = rw e (grind (arith, nat_tests)) in
      rw b (subst (λ q. Contains (ranks_below s counts n ++ rank_of s counts q ∷ []) (rank_of s counts p)) (sym e)
      (Contains-push (ranks_below s counts n) (rank_of s counts p)))
])

pages_rise : (s : Shape) (counts : List ℕ) (n : ℕ) → AllPairs (λ a b. a.page < b.page) (ranks_below s counts n)
pages_rise s counts zero = rw ranks-none (λ i j d below inside. absurd (omega arith))
pages_rise s counts (suc n) = rw ranks-suc (step (nat_lt 0 (slice_index counts n)) (pages_rise s counts n)) where
  step : (b : Bool) → AllPairs (λ a b. a.page < b.page) (ranks_below s counts n)
      → AllPairs (λ a b. a.page < b.page) (ranks_below s counts n ++ cond b (rank_of s counts n ∷ []) [])
  step true h = all_pairs_push (λ a b. a.page < b.page) (ranks_below s counts n) (rank_of s counts n) h (λ k d inside. (ranks_are s counts n k d inside).below)
  step false h = rw append-nil h

pages_apart : (s : Shape) (counts : List ℕ) (n : ℕ) → IsDistinct (λ a b. a.page == b.page) (ranks_below s counts n)
pages_apart s counts n = IsDistinct-from_apart (λ a b. a.page == b.page) (ranks_below s counts n)
    (λ i j d below inside. let h : (get_or (ranks_below s counts n) i d).page < (get_or (ranks_below s counts n) j d).page = pages_rise s counts n i j
    d below inside in grind (arith, nat_tests))

abbrev pub rank_cmp : Rank → Rank → Ordering
rank_cmp a b = ordering_then (nat_cmp a.fineness b.fineness) (ordering_then (nat_cmp a.rarity b.rarity) (nat_cmp a.page b.page))

-- the fields of two ranks, of which the second is not less, and what the pages' levels and pixels make of it
earlier_by : (la lb top pa pb most ia ib : ℕ) → la ≤ top → lb ≤ top → pa ≤ most → pb ≤ most
    → is_lt (ordering_then (nat_cmp (top - lb) (top - la)) (ordering_then (nat_cmp (most - pb) (most - pa)) (nat_cmp ib ia))) ≡ false → ia ≢ ib
    → nat_lt lb la || (la == lb && (nat_lt pb pa || (pa == pb && nat_lt ia ib))) ≡ true
earlier_by la lb top pa pb most ia ib x y z w h apart = grind (arith, nat_tests)

-- a wanted page with the number of its pixels
abbrev shown : List ℕ → ℕ → Wanted
shown counts p = record { page = p; pixels = slice_index counts p }

wanted_by-rank_of : (s : Shape) (counts : List ℕ) (p : ℕ) → slice_index counts p ≤ most_pixels → wanted_by (rank_of s counts p) ≡ shown counts p
wanted_by-rank_of s counts p most =
    let e : most_pixels - (most_pixels - slice_index counts p) ≡ slice_index counts p = omega arith in
    ap (λ (n : ℕ). let w : Wanted = record { page = p; pixels = n } in w) e

wanted_by_rank : (s : Shape) (counts : List ℕ) (n : ℕ) (r : Rank) → ((p : ℕ) → slice_index counts p ≤ most_pixels) → IsRank s counts n r
    → wanted_by r ≡ shown counts r.page
wanted_by_rank s counts n r most h = ap wanted_by (sym h.same) ∙ wanted_by-rank_of s counts r.page (most r.page)

earlier_pages : (s : Shape) (counts : List ℕ) (p q : ℕ) → ((p : ℕ) → slice_index counts p ≤ most_pixels)
    → is_lt (rank_cmp (rank_of s counts q) (rank_of s counts p)) ≡ false → p ≢ q → is_before s (shown counts p) (shown counts q) ≡ true
earlier_pages s counts p q most above apart =
    earlier_by (level_of s p) (level_of s q) (levels_of s - 1) (slice_index counts p) (slice_index counts q) most_pixels p q
    (level_within s p) (level_within s q) (most p) (most q) above apart

earlier : (s : Shape) (counts : List ℕ) (n : ℕ) (a b : Rank) → ((p : ℕ) → slice_index counts p ≤ most_pixels) → IsRank s counts n a → IsRank s counts n b
    → is_lt (rank_cmp b a) ≡ false → a.page ≢ b.page → is_before s (wanted_by a) (wanted_by b) ≡ true
earlier s counts n a b most ra rb above apart =
    let pages = earlier_pages s counts a.page b.page most (subst (λ (x : Rank). is_lt (rank_cmp x (rank_of s counts a.page)) ≡ false) (sym rb.same)
    (subst (λ (x : Rank). is_lt (rank_cmp b x) ≡ false) (sym ra.same) above)) apart in
    subst (λ (w : Wanted). is_before s w (wanted_by b) ≡ true) (sym (wanted_by_rank s counts n a most ra))
    (subst (λ (w : Wanted). is_before s (shown counts a.page) w ≡ true) (sym (wanted_by_rank s counts n b most rb)) pages)

-- what a function makes of an element is an element of the list of what it makes of all
Contains-map : {X Y : Type 0} (f : X → Y) (xs : List X) (x : X) (y : Y) → Contains xs x → f x ≡ y → Contains (map f xs) y
Contains-map f xs x y there same =
    (there.0, rw length-map there.1, get_or-map f xs there.0 x y there.1 ∙ ap f there.2 ∙ same)

not_same : (a b : ℕ) → (a == b) ≡ false → a ≢ b
not_same a b h e = grind (arith, nat_tests)

-- some ranks are those of the wanted pages, each once
pub record AreRanks (s : Shape) (counts : List ℕ) (rs : List Rank) : Type 0 where
  pub each : All (IsRank s counts (length counts)) rs
  pub apart : IsDistinct (λ a b. a.page == b.page) rs
  pub all : (p : ℕ) → p < length counts → 0 < slice_index counts p → Contains rs (rank_of s counts p)

-- ranks that change places stay those of the wanted pages
pub ranks_moved : (s : Shape) (counts : List ℕ) (from rs : List Rank) → AreRanks s counts from → IsPermutation from rs → AreRanks s counts rs
ranks_moved s counts from rs h moved = record {
  each = All-permutation (IsRank s counts (length counts)) from rs moved h.each;
  apart = IsDistinct-IsPermutation (λ a b. a.page == b.page) (λ a b. grind (arith, nat_tests)) from rs moved h.apart;
  all = λ p below some. Contains-permutation from rs (rank_of s counts p) moved (h.all p below some);
}

below_are_ranks : (s : Shape) (counts : List ℕ) → AreRanks s counts (ranks_below s counts (length counts))
below_are_ranks s counts = record {
  each = ranks_are s counts (length counts);
  apart = pages_apart s counts (length counts);
  all = λ p below some. rank_is_there s counts (length counts) p below some;
}

module _ (s : Shape) (counts : List ℕ) (rs : List Rank) (pages : length counts ≡ pages_of s) (most : (p : ℕ) → slice_index counts p ≤ most_pixels)
    (are : AreRanks s counts rs) where
  in_order : IsSortedBy (λ a b. is_lt (rank_cmp a b)) rs → IsTotalOrder rank_cmp → AllPairs (λ a b. is_before s a b ≡ true) (map wanted_by rs)
  in_order sorted total i j d below inside =
      let r : Rank = rank_of s counts 0 in
      let within : j < length rs = rw length-map at inside in
      let under : i < length rs = omega arith in
      rw (get_or-map wanted_by rs i r d under, get_or-map wanted_by rs j r d within)
      (earlier s counts (length counts) (get_or rs i r) (get_or rs j r) most (are.each i r under) (are.each j r within)
      (sorted_far (λ a b. is_lt (rank_cmp a b)) (ranks_by total (λ x. x)) rs sorted i j r (omega arith) within)
      (not_same (get_or rs i r).page (get_or rs j r).page (apart_from_distinct (λ a b. a.page == b.page) rs i j r are.apart below within)))

  each_once : IsDistinct nat_eq (map (λ w. w.page) (map wanted_by rs))
  each_once = IsDistinct-from_apart nat_eq (map (λ w. w.page) (map wanted_by rs)) (λ i j d below inside.
      let r : Rank = rank_of s counts 0 in
      let w : Wanted = wanted_by r in
      let within : j < length rs = simp length-map at inside in
      let under : i < length rs = omega arith in
      let page_at : (k : ℕ) → k < length rs → get_or (map (λ (w : Wanted). w.page) (map wanted_by rs)) k d ≡ (get_or rs k r).page
      = λ k h. get_or-map (λ (w : Wanted). w.page) (map wanted_by rs) k w d (rw length-map h) ∙ ap (λ (w : Wanted). w.page) (get_or-map wanted_by rs k r w h) in
      let apart : ((get_or rs i r).page == (get_or rs j r).page) ≡ false = apart_from_distinct (λ a b. a.page == b.page) rs i j r are.apart below within in
      rw (page_at i under, page_at j within) apart)

  each_wanted : (r : Rank) → IsRank s counts (length counts) r → IsWanted s (slice_index counts) (wanted_by r)
  each_wanted r h = rw (wanted_by_rank s counts (length counts) r most h) (record { inside = omega (arith, h.below); some = h.some; all = refl })

  these_only : (w : Wanted) → Contains (map wanted_by rs) w → IsWanted s (slice_index counts) w
  these_only w there = All-contains (IsWanted s (slice_index counts)) (map wanted_by rs) w
      (All-map (IsWanted s (slice_index counts)) wanted_by rs
      (All-weaker (IsRank s counts (length counts)) (λ r. IsWanted s (slice_index counts) (wanted_by r)) each_wanted rs are.each)) there

  these_all : (w : Wanted) → IsWanted s (slice_index counts) w → Contains (map wanted_by rs) w
  these_all w h =
      let r : Rank = rank_of s counts w.page in
      let there : Contains rs r = are.all w.page (omega (arith, h.inside)) (omega (arith, h.some, h.all)) in
      let same : wanted_by r ≡ w = wanted_by-rank_of s counts w.page (most w.page)
      ∙ ap (λ (n : ℕ). let v : Wanted = record { page = w.page; pixels = n } in v) (sym h.all) in
      Contains-map wanted_by rs r w there same

-- the ranks of the wanted pages, in order, make the wanted list
pub wants_by_ranks : (s : Shape) (counts : List ℕ) (rs : List Rank) → length counts ≡ pages_of s → ((p : ℕ) → slice_index counts p ≤ most_pixels)
    → AreRanks s counts rs → IsSortedBy (λ a b. is_lt (rank_cmp a b)) rs → IsTotalOrder rank_cmp
    → IsWants s (slice_index counts) (map wanted_by rs)
wants_by_ranks s counts rs pages most are sorted total = record {
  ordered = in_order s counts rs pages most are sorted total;
  once = each_once s counts rs pages most are;
  exact = λ w. (these_only s counts rs pages most are w, these_all s counts rs pages most are w);
}

pub wants_from_ranks : (s : Shape) (counts : List ℕ) (rs : List Rank) → length counts ≡ pages_of s → ((p : ℕ) → slice_index counts p ≤ most_pixels)
    → IsPermutation (ranks_below s counts (length counts)) rs → IsSortedBy (λ a b. is_lt (rank_cmp a b)) rs → IsTotalOrder rank_cmp
    → IsWants s (slice_index counts) (map wanted_by rs)
wants_from_ranks s counts rs pages most moved sorted total =
    wants_by_ranks s counts rs pages most (ranks_moved s counts (ranks_below s counts (length counts)) rs (below_are_ranks s counts) moved) sorted total

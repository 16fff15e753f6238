-- The stamps after a pass are there, once, and so is the order by stamps; candidates go by rising stamps.
use Rattle.std.proofs.Common.{◌≡◌, ℕ, zero, suc, ◌<◌, ◌⊎◌, inl, inr, Bool, true, false, not, ◌&&◌, ◌||◌, nat_eq, Option, Some, None, IsSome, List, [], ◌∷◌, reverse, length, slice_index, slice_index_or, Contains, refl, sym, ap, ◌∙◌, subst, arith}
use Rattle.std.specs.List.{All, AllPairs, list_any}
use Rattle.std.proofs.lemmas.Bool.{false≢true, cases_lt}
use Rattle.std.proofs.lemmas.List.{get_or_default}
use Rattle.std.proofs.lemmas.List.Elements.{All-filter}
use Rattle.std.proofs.lemmas.List.Folds.{list_any_at, Any-from_list_any}
use Rattle.std.proofs.lemmas.List.Kept.{AllPairs-filter}
use Rattle.std.proofs.lemmas.List.Sorted.{All-permutation, IsPermutation-reverse}
use Rattle.vt_plan.specs.Shape.{Shape}
use Rattle.vt_plan.specs.Pages.{ancestors_of}
use Rattle.vt_plan.specs.FeedbackTypes.Wanted.{Wanted}
use Rattle.vt_plan.specs.Wants.{pages_wanted}
use Rattle.vt_plan.proofs.OrderedLists.{ordered_are_one}
use Rattle.vt_plan.specs.declared.batches.Planned.{Planned}
use Rattle.vt_plan.specs.Orders.{line_pages}
use Rattle.vt_plan.specs.PageLists.{is_in}
use Rattle.vt_plan.specs.Views.{RecencyView, IsRecencyTable, is_loose, first_view}
use Rattle.vt_plan.specs.Plans.{candidates}
use Rattle.vt_evict.specs.Stamps.{Stamp, is_less, Stamps, no_stamps, StampedPass, IsByEntry, IsByWant, IsOwnStamp, IsGreatest, AreAfter, AreBefore, IsAbove, IsByStamps}
use Rattle.vt_evict.proofs.ListLemmas.{is_in-reverse}
use Rattle.vt_plan.proofs.ListLemmas.{nat_eq_true, is_in-filter}
use Rattle.vt_evict.proofs.SettleLemmas.{self_eq}
use Rattle.vt_evict.proofs.PairLemmas.{pairs_reverse, not_true}
use Rattle.vt_evict.proofs.LineOrders.{in_lines}
use Rattle.vt_evict.proofs.StampLemmas.{and_parts, by_entry, by_want}
use Rattle.vt_evict.proofs.StampOrder.{value_of, neither_less, not_less_same, less_after, not_both}

greatest_one : (Own : Stamp → Type 0) (o q : Option Stamp) → IsGreatest Own o → IsGreatest Own q → o ≡ q
greatest_one Own None None g h = refl
greatest_one Own None (Some b) g h = absurd (g b h.0)
greatest_one Own (Some a) None g h = absurd (h a g.0)
greatest_one Own (Some a) (Some b) g h = ap Some (neither_less a b (g.1 b h.0) (h.1 a g.0))

-- there are not two stamps after a pass
pub after_one : (old a b : Stamps) (x : StampedPass) → AreAfter old x a → AreAfter old x b → a ≡ b
after_one old a b x g h = λ i p. greatest_one (IsOwnStamp old x p) (a p) (b p) (g p) (h p) i

greatest_like : (A B : Stamp → Type 0) (o : Option Stamp) → ((u : Stamp) → A u → B u) → ((u : Stamp) → B u → A u) → IsGreatest A o → IsGreatest B o
greatest_like A B None to back g = λ t b. g t (back t b)
greatest_like A B (Some a) to back g = (to a g.0, λ u b. g.1 u (back u b))

-- the greatest of one stamp more
greatest_more : (Own : Stamp → Type 0) (o : Option Stamp) (t : Stamp) → IsGreatest Own o → (q : Option Stamp) × IsGreatest (λ u. Own u ⊎ (u ≡ t)) q
greatest_more Own None t g = (Some t, (inr refl, cases)) where
  cases : (u : Stamp) → Own u ⊎ (u ≡ t) → is_less t u ≡ false
  cases u (inl own) = absurd (g u own)
  cases u (inr same) = not_less_same t u same
greatest_more Own (Some a) t g = step (is_less a t) refl where
  step : (b : Bool) → is_less a t ≡ b → (q : Option Stamp) × IsGreatest (λ u. Own u ⊎ (u ≡ t)) q
  step true less = (Some t, (inr refl, cases)) where
    cases : (u : Stamp) → Own u ⊎ (u ≡ t) → is_less t u ≡ false
    cases u (inl own) = less_after a t u (g.1 u own) less
    cases u (inr same) = not_less_same t u same
  step false less = (Some a, (inl g.0, cases)) where
    cases : (u : Stamp) → Own u ⊎ (u ≡ t) → is_less a u ≡ false
    cases u (inl own) = g.1 u own
    cases u (inr same) = ap (is_less a) same ∙ less

-- the stamp of a place below a bound that passes a test
record IsBelow (test : ℕ → Bool) (f : ℕ → Stamp) (n : ℕ) (u : Stamp) : Type 0 where
  at : ℕ
  below : at < n
  passes : test at ≡ true
  is : u ≡ f at

greatest_below : (Own : Stamp → Type 0) (o : Option Stamp) (test : ℕ → Bool) (f : ℕ → Stamp) (n : ℕ) → IsGreatest Own o
    → (q : Option Stamp) × IsGreatest (λ u. Own u ⊎ IsBelow test f n u) q
greatest_below Own o test f zero g = (o, greatest_like Own (λ u. Own u ⊎ IsBelow test f 0 u) o (λ u own. inl own) back g) where
  back : (u : Stamp) → Own u ⊎ IsBelow test f 0 u → Own u
  back u (inl own) = own
  back u (inr b) = absurd (omega (arith, b.below))
greatest_below Own o test f (suc n) g = step (test n) refl (greatest_below Own o test f n g) where
  wider : (u : Stamp) → Own u ⊎ IsBelow test f n u → Own u ⊎ IsBelow test f (suc n) u
  wider u (inl own) = inl own
  wider u (inr b) = inr (record { at = b.at; below = omega (arith, b.below); passes = b.passes; is = b.is })

  step : (b : Bool) → test n ≡ b → (q : Option Stamp) × IsGreatest (λ u. Own u ⊎ IsBelow test f n u) q
      → (q : Option Stamp) × IsGreatest (λ u. Own u ⊎ IsBelow test f (suc n) u) q
  step true e before = (more.0, wide) where
    more : (q : Option Stamp) × IsGreatest (λ u. (Own u ⊎ IsBelow test f n u) ⊎ (u ≡ f n)) q
    more = greatest_more (λ u. Own u ⊎ IsBelow test f n u) before.0 (f n) before.1

    to : (u : Stamp) → (Own u ⊎ IsBelow test f n u) ⊎ (u ≡ f n) → Own u ⊎ IsBelow test f (suc n) u
    to u (inl had) = wider u had
    to u (inr same) = inr (record { at = n; below = omega arith; passes = e; is = same })

    back : (u : Stamp) → Own u ⊎ IsBelow test f (suc n) u → (Own u ⊎ IsBelow test f n u) ⊎ (u ≡ f n)
    back u (inl own) = inl (inl own)
    back u (inr b) = elim (cases_lt b.at n) [
      | inl less ↦ inl (inr (record { at = b.at; below = less; passes = b.passes; is = b.is }))
      | inr last ↦ inr (b.is ∙ ap f (omega (arith, b.below)))
    ]

    wide : IsGreatest (λ u. Own u ⊎ IsBelow test f (suc n) u) more.0
    wide = greatest_like (λ u. (Own u ⊎ IsBelow test f n u) ⊎ (u ≡ f n)) (λ u. Own u ⊎ IsBelow test f (suc n) u) more.0 to back more.1
  step false e before = (before.0, greatest_like (λ u. Own u ⊎ IsBelow test f n u) (λ u. Own u ⊎ IsBelow test f (suc n) u) before.0 wider back before.1) where
    back : (u : Stamp) → Own u ⊎ IsBelow test f (suc n) u → Own u ⊎ IsBelow test f n u
    back u (inl own) = inl own
    back u (inr b) = elim (cases_lt b.at n) [
      | inl less ↦ inr (record { at = b.at; below = less; passes = b.passes; is = b.is })
      | inr last ↦ let same : b.at ≡ n = omega (arith, b.below) in absurd (false≢true (sym e ∙ ap test (sym same) ∙ b.passes))
    ]

greatest_given : (o : Option Stamp) → IsGreatest (λ u. o ≡ Some u) o
greatest_given None = λ t e. absurd (cc)
greatest_given (Some a) = (refl, λ u e. not_less_same a u (cc))

abbrev no_entry : Planned
no_entry = record { page = 0; frame = 0; victim = None }

-- whether the entry at a place has a page, and was read
is_read_at : StampedPass → ℕ → ℕ → Bool
is_read_at x p j = not (slice_index_or x.lost j true) && nat_eq (slice_index_or x.batch j no_entry).page p

-- whether a page gets a stamp by the wanted page at a place
is_wanted_at : StampedPass → ℕ → ℕ → Bool
is_wanted_at x p i = is_in (ancestors_of x.after.shape (slice_index (pages_wanted x.wants) i)) p && is_loose x.after p

entry_to : (x : StampedPass) (p : ℕ) (u : Stamp) → IsBelow (is_read_at x p) (by_entry x p) (length x.batch) u → IsByEntry x p u
unfolding is_read_at
entry_to x p u b =
    let both = and_parts (not (slice_index_or x.lost b.at true)) (nat_eq (slice_index_or x.batch b.at no_entry).page p) b.passes in
    record {
      at = b.at;
      read = record {
        inside = b.below;
        read = not_true (slice_index_or x.lost b.at true) both.0;
        page = λ d. ap (λ (e : Planned). e.page) (get_or_default x.batch b.at d no_entry b.below)
            ∙ nat_eq_true (slice_index_or x.batch b.at no_entry).page p both.1;
      };
      stamp = b.is;
    }

entry_back : (x : StampedPass) (p : ℕ) (u : Stamp) → IsByEntry x p u → IsBelow (is_read_at x p) (by_entry x p) (length x.batch) u
unfolding is_read_at
entry_back x p u e = record {
  at = e.at;
  below = e.read.inside;
  passes = rw (e.read.read, e.read.page no_entry) (self_eq p);
  is = e.stamp;
}

want_to : (x : StampedPass) (p : ℕ) (u : Stamp) → IsBelow (is_wanted_at x p) (by_want x p) (length (pages_wanted x.wants)) u → IsByWant x p u
unfolding is_wanted_at
want_to x p u b =
    let both = and_parts (is_in (ancestors_of x.after.shape (slice_index (pages_wanted x.wants) b.at)) p) (is_loose x.after p) b.passes in
    record { at = b.at; in_line = record { inside = b.below; in_line = both.0 }; loose = both.1; stamp = b.is }

want_back : (x : StampedPass) (p : ℕ) (u : Stamp) → IsByWant x p u → IsBelow (is_wanted_at x p) (by_want x p) (length (pages_wanted x.wants)) u
unfolding is_wanted_at
want_back x p u w = record { at = w.at; below = w.in_line.inside; passes = rw (w.in_line.in_line, w.loose) refl; is = w.stamp }

greatest_own : (old : Stamps) (x : StampedPass) (p : ℕ) → (o : Option Stamp) × IsGreatest (IsOwnStamp old x p) o
greatest_own old x p = (second.0, greatest_like (λ u. ((old p ≡ Some u) ⊎ Entry u) ⊎ Want u) (IsOwnStamp old x p) second.0 to back second.1) where
  Entry : Stamp → Type 0
  Entry = IsBelow (is_read_at x p) (by_entry x p) (length x.batch)

  Want : Stamp → Type 0
  Want = IsBelow (is_wanted_at x p) (by_want x p) (length (pages_wanted x.wants))

  first : (o : Option Stamp) × IsGreatest (λ u. (old p ≡ Some u) ⊎ Entry u) o
  first = greatest_below (λ u. old p ≡ Some u) (old p) (is_read_at x p) (by_entry x p) (length x.batch) (greatest_given (old p))

  second : (o : Option Stamp) × IsGreatest (λ u. ((old p ≡ Some u) ⊎ Entry u) ⊎ Want u) o
  second = greatest_below (λ u. (old p ≡ Some u) ⊎ Entry u) first.0 (is_wanted_at x p) (by_want x p) (length (pages_wanted x.wants)) first.1

  to : (u : Stamp) → ((old p ≡ Some u) ⊎ Entry u) ⊎ Want u → IsOwnStamp old x p u
  to u (inl (inl had)) = inl had
  to u (inl (inr e)) = inr (inl (entry_to x p u e))
  to u (inr w) = inr (inr (want_to x p u w))

  back : (u : Stamp) → IsOwnStamp old x p u → ((old p ≡ Some u) ⊎ Entry u) ⊎ Want u
  back u (inl had) = inl (inl had)
  back u (inr (inl e)) = inl (inr (entry_back x p u e))
  back u (inr (inr w)) = inr (want_back x p u w)

-- there are stamps after each pass
pub after_some : (old : Stamps) (x : StampedPass) → (new : Stamps) × AreAfter old x new
after_some old x = (λ p. (greatest_own old x p).0, λ p. (greatest_own old x p).1)

-- at first no page has a stamp, and the order is empty
pub none_before : (n : ℕ) → AreBefore no_stamps n
none_before n p t e = absurd (cc)

pub first_by_stamps : (s : Shape) (frames pinned : ℕ) (stamps : Stamps) → IsByStamps stamps (first_view s frames pinned).order
unfolding first_view
first_by_stamps s frames pinned stamps = record { stamped = λ k d inside. absurd (omega arith); falling = λ i j d lt within. absurd (omega arith) }

-- two stamped pages in one order of stamps
record AreApart (stamps : Stamps) (p q : ℕ) : Type 0 where
  above : IsAbove stamps p q
  first : IsSome (stamps p)
  second : IsSome (stamps q)

one_way : (stamps : Stamps) (p q : ℕ) → AreApart stamps p q → AreApart stamps q p → ⊥
one_way stamps p q h back =
    let a = value_of (stamps p) h.first in
    let b = value_of (stamps q) h.second in
    not_both b.0 a.0 (h.above a.0 b.0 a.1 b.1) (back.above b.0 a.0 b.1 a.1)

apart : (stamps : Stamps) (xs : List ℕ) → IsByStamps stamps xs → AllPairs (AreApart stamps) xs
apart stamps xs h = λ i j d lt within. record { above = h.falling i j d lt within; first = h.stamped i d (omega arith); second = h.stamped j d within }

there_in : (xs : List ℕ) (p : ℕ) → Contains xs p → is_in xs p ≡ true
there_in xs p c = list_any_at (nat_eq p) xs c.0 p c.1 (rw c.2 (self_eq p))

in_there : (xs : List ℕ) (p : ℕ) → is_in xs p ≡ true → Contains xs p
in_there xs p e =
    let found = Any-from_list_any (nat_eq p) xs e in
    let same : found.1 ≡ p = sym (nat_eq_true p found.1 found.4) in
    subst (Contains xs) same (found.0, found.2, found.3)

-- pages have one order by stamps
pub order_one : (stamps : Stamps) (xs ys : List ℕ) → IsByStamps stamps xs → IsByStamps stamps ys → ((p : ℕ) → is_in xs p ≡ is_in ys p) → xs ≡ ys
order_one stamps xs ys hx hy same =
    ordered_are_one (AreApart stamps) (one_way stamps) xs ys (apart stamps xs hx) (apart stamps ys hy)
    (λ p c. in_there ys p (sym (same p) ∙ there_in xs p c)) (λ p c. in_there xs p (same p ∙ there_in ys p c))

lines_wanted : (s : Shape) (wants : List Wanted) (p : ℕ)
    → list_any (λ q. is_in (ancestors_of s q) p) (pages_wanted wants) ≡ list_any (λ w. is_in (ancestors_of s w.page) p) wants
lines_wanted s [] p = refl
lines_wanted s (w ∷ wants) p = ap (λ (b : Bool). is_in (ancestors_of s w.page) p || b) (lines_wanted s wants p)

-- which pages are candidates
pub candidates_are : (v : RecencyView) (wants : List Wanted) (p : ℕ) → IsRecencyTable v
    → is_in (candidates v wants) p ≡ (is_loose v p && not (list_any (λ w. is_in (ancestors_of v.shape w.page) p) wants))
unfolding candidates
candidates_are v wants p table =
    is_in-filter (λ p. not (is_in (line_pages v.shape (pages_wanted wants)) p)) (reverse v.order) p
    ∙ ap (λ (b : Bool). b && not (is_in (line_pages v.shape (pages_wanted wants)) p)) (is_in-reverse v.order p ∙ table.in_order p)
    ∙ ap (λ (b : Bool). is_loose v p && not b) (in_lines v.shape (pages_wanted wants) p ∙ lines_wanted v.shape wants p)

pub candidates_stamped : (v : RecencyView) (wants : List Wanted) (stamps : Stamps) → IsByStamps stamps v.order
    → All (λ p. IsSome (stamps p)) (candidates v wants)
unfolding candidates
candidates_stamped v wants stamps h =
    All-filter (λ p. not (is_in (line_pages v.shape (pages_wanted wants)) p)) (λ p. IsSome (stamps p)) (reverse v.order)
    (All-permutation (λ p. IsSome (stamps p)) v.order (reverse v.order) (IsPermutation-reverse v.order) h.stamped)

pub candidates_rise : (v : RecencyView) (wants : List Wanted) (stamps : Stamps) → IsByStamps stamps v.order
    → AllPairs (λ p q. IsAbove stamps q p) (candidates v wants)
unfolding candidates
candidates_rise v wants stamps h =
    AllPairs-filter (λ p q. IsAbove stamps q p) (λ p. not (is_in (line_pages v.shape (pages_wanted wants)) p)) (reverse v.order)
    (pairs_reverse (IsAbove stamps) v.order h.falling)

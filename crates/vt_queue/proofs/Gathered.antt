-- What all views have together, and how a change of one view changes it.
use Rattle.std.proofs.Common.{◌≡◌, ℕ, zero, suc, ◌+◌, ◌<◌, ◌≤◌, List, [], ◌∷◌, ◌++◌, length, set, sym, refl, ap, ◌∙◌, subst, append_assoc, arith}
use Rattle.std.specs.Prelude.{All, IsPermutation}
use Rattle.std.proofs.lemmas.List.Sorted.{IsPermutation-refl, IsPermutation-append_right, IsPermutation-trans, IsPermutation-append_comm}
use Rattle.std.proofs.lemmas.List.Elements.{All-nil, All-cons, All-head, All-tail}
use mathlib.Core.Option.{some, some-injective, some-ne-none}
use lib.ListN.{get_elem?}
use Rattle.vt_queue.specs.declared.views.PassView.{PassView}
use Rattle.vt_queue.specs.PassViews.{shares_of}
use Rattle.vt_queue.specs.Orders.{placed, items_of, gathered}

pub shuffled_as : {X : Type 0} (xs ys : List X) → xs ≡ ys → IsPermutation xs ys
shuffled_as xs ys e = subst (λ l. IsPermutation xs l) e (IsPermutation-refl xs)

pub append_nil : {X : Type 0} (xs : List X) → xs ++ [] ≡ xs
append_nil [] = refl
append_nil (x ∷ xs) = ap (λ l. x ∷ l) (append_nil xs)

pub all_cut : {Y : Type 0} (P : Y → Type 0) (xs ys : List Y) → All P (xs ++ ys) → All P xs × All P ys
all_cut P [] ys all = (All-nil P, all)
all_cut P (x ∷ xs) ys all = let r = all_cut P xs ys (All-tail P x (xs ++ ys) all) in
    (All-cons P x xs (All-head P x (xs ++ ys) all) r.0, r.1)

pub all_at : {X : Type 0} (P : X → Type 0) (xs : List X) (i : ℕ) (x : X) → All P xs → get_elem? xs i ≡ some x → P x
all_at P [] i x all at = absurd (some-ne-none x (sym at))
all_at P (y ∷ ys) zero x all at = subst P (some-injective y x at) (All-head P y ys all)
all_at P (y ∷ ys) (suc i) x all at = all_at P ys i x (All-tail P y ys all) at

-- The middle of three goes to the end.
pub to_end : {X : Type 0} (a b c : List X) → IsPermutation ((a ++ b) ++ c) ((a ++ c) ++ b)
to_end a b c = IsPermutation-trans _ _ _ (shuffled_as _ _ (append_assoc a b c))
    (IsPermutation-trans _ _ _ (IsPermutation-append_right a _ _ (IsPermutation-append_comm b c)) (shuffled_as _ _ (sym
    (append_assoc a c b))))

module _ {X Y : Type 0} (f : X → List Y) where
  -- One view has more at its end, so all have.
  pub gathered_more : (views : List X) (port : ℕ) (v w : X) (es : List Y) → get_elem? views port ≡ some v → f w ≡ f v ++ es
      → IsPermutation (gathered f views ++ es) (gathered f (set views port w))
  gathered_more [] port v w es at e = absurd (some-ne-none v (sym at))
  gathered_more (x ∷ xs) zero v w es at e = IsPermutation-trans _ _ _ (to_end (f x) (gathered f xs) es)
      (shuffled_as _ _ (ap (λ l. l ++ gathered f xs) (ap (λ y. f y ++ es) (some-injective x v at) ∙ sym e)))
  gathered_more (x ∷ xs) (suc port) v w es at e = IsPermutation-trans _ _ _ (shuffled_as _ _ (append_assoc (f x)
      (gathered f xs) es))
      (IsPermutation-append_right (f x) _ _ (gathered_more xs port v w es at e))

  -- One view has as much as before, so all have.
  pub gathered_same : (views : List X) (port : ℕ) (v w : X) → get_elem? views port ≡ some v → f w ≡ f v
      → IsPermutation (gathered f views) (gathered f (set views port w))
  gathered_same views port v w at e = IsPermutation-trans _ _ _ (shuffled_as _ _ (sym (append_nil _)))
      (gathered_more views port v w [] at (e ∙ sym (append_nil (f v))))

  -- One view has nothing any more: what it had was among what all had.
  pub gathered_less : (views : List X) (port : ℕ) (v w : X) → get_elem? views port ≡ some v → f w ≡ []
      → IsPermutation (gathered f views) (gathered f (set views port w) ++ f v)
  gathered_less [] port v w at e = absurd (some-ne-none v (sym at))
  gathered_less (x ∷ xs) zero v w at e = IsPermutation-trans _ _ _ (IsPermutation-append_comm (f x) (gathered f xs))
      (shuffled_as _ _ (ap (λ y. gathered f xs ++ f y) (some-injective x v at) ∙ ap (λ l. (l ++ gathered f xs) ++ f v) (sym e)))
  gathered_less (x ∷ xs) (suc port) v w at e = IsPermutation-trans _ _ _
      (IsPermutation-append_right (f x) _ _ (gathered_less xs port v w at e))
      (shuffled_as _ _ (sym (append_assoc (f x) (gathered f (set xs port w)) (f v))))

  pub gathered_new : (views : List X) (w : X) → f w ≡ [] → gathered f (views ++ w ∷ []) ≡ gathered f views
  gathered_new [] w e = ap (λ l. l ++ []) e
  gathered_new (x ∷ xs) w e = ap (λ l. f x ++ l) (gathered_new xs w e)

  pub all_gathered : (P : Y → Type 0) (views : List X) (port : ℕ) (v : X) → get_elem? views port ≡ some v
      → All P (gathered f views) → All P (f v)
  all_gathered P [] port v at all = absurd (some-ne-none v (sym at))
  all_gathered P (x ∷ xs) zero v at all = subst (λ y. All P (f y)) (some-injective x v at) (all_cut P (f x) (gathered f xs) all).0
  all_gathered P (x ∷ xs) (suc port) v at all = all_gathered P xs port v at (all_cut P (f x) (gathered f xs) all).1

pub set_twice : {X : Type 0} (xs : List X) (i j : ℕ) (a b : X) → ¬ (i ≡ j) → set (set xs i a) j b ≡ set (set xs j b) i a
set_twice [] i j a b apart = refl
set_twice (x ∷ xs) zero zero a b apart = absurd (apart refl)
set_twice (x ∷ xs) zero (suc j) a b apart = refl
set_twice (x ∷ xs) (suc i) zero a b apart = refl
set_twice (x ∷ xs) (suc i) (suc j) a b apart = ap (λ l. x ∷ l) (set_twice xs i j a b (λ e. apart (ap suc e)))

pub set_here : {X : Type 0} (xs : List X) (i : ℕ) (v w : X) → get_elem? xs i ≡ some v → get_elem? (set xs i w) i ≡ some w
set_here [] i v w at = absurd (some-ne-none v (sym at))
set_here (x ∷ xs) zero v w at = refl
set_here (x ∷ xs) (suc i) v w at = set_here xs i v w at

pub set_elsewhere : {X : Type 0} (xs : List X) (i j : ℕ) (w : X) → ¬ (i ≡ j) → get_elem? (set xs j w) i ≡ get_elem? xs i
set_elsewhere [] i j w apart = refl
set_elsewhere (x ∷ xs) zero zero w apart = absurd (apart refl)
set_elsewhere (x ∷ xs) zero (suc j) w apart = refl
set_elsewhere (x ∷ xs) (suc i) zero w apart = refl
set_elsewhere (x ∷ xs) (suc i) (suc j) w apart = set_elsewhere xs i j w (λ e. apart (ap suc e))

module _ {I : Type 0} where
  pub shares_set : (views : List (PassView I)) (port : ℕ) (v w : PassView I) → get_elem? views port ≡ some v
      → shares_of (set views port w) + v.shares ≡ shares_of views + w.shares
  shares_set [] port v w at = absurd (some-ne-none v (sym at))
  shares_set (x ∷ xs) zero v w at = let e : x.shares ≡ v.shares = ap (λ (y : PassView I). y.shares)
      (some-injective x v at) in omega (arith, e)
  shares_set (x ∷ xs) (suc port) v w at = omega (arith, shares_set xs port v w at)

  pub shares_new : (views : List (PassView I)) (w : PassView I) → shares_of (views ++ w ∷ []) ≡ shares_of views + w.shares
  shares_new [] w = omega arith
  shares_new (x ∷ xs) w = omega (arith, shares_new xs w)

  pub shares_within : (views : List (PassView I)) (port : ℕ) (v : PassView I) → get_elem? views port ≡ some v
      → v.shares ≤ shares_of views
  shares_within [] port v at = absurd (some-ne-none v (sym at))
  shares_within (x ∷ xs) zero v at = let e : x.shares ≡ v.shares = ap (λ (y : PassView I). y.shares)
      (some-injective x v at) in omega (arith, e)
  shares_within (x ∷ xs) (suc port) v at = omega (arith, shares_within xs port v at)

  placed_last : (n : ℕ) (xs : List I) (x : I) → placed n (xs ++ x ∷ []) ≡ placed n xs ++ (n + length xs, x) ∷ []
  placed_last n [] x = ap (λ k. (k, x) ∷ []) (let e : n ≡ n + 0 = omega arith in e)
  placed_last n (y ∷ ys) x = ap (λ l. (n, y) ∷ l) (placed_last (n + 1) ys x
      ∙ ap (λ k. placed (n + 1) ys ++ (k, x) ∷ []) (let e : n + 1 + length ys ≡ n + length (y ∷ ys) = omega arith in e))

  pub placed_more : (xs : List I) (x : I) → placed 0 (xs ++ x ∷ []) ≡ placed 0 xs ++ (length xs, x) ∷ []
  placed_more xs x = placed_last 0 xs x ∙ ap (λ k. placed 0 xs ++ (k, x) ∷ [])
      (let e : 0 + length xs ≡ length xs = omega arith in e)

  pub placed_below : (n m : ℕ) (xs : List I) → n + length xs ≤ m → All (λ (e : ℕ × I). e.0 < m) (placed n xs)
  placed_below n m [] le = All-nil (λ e. e.0 < m)
  placed_below n m (x ∷ xs) le = All-cons (λ e. e.0 < m) (n, x) (placed (n + 1) xs) (omega arith) (placed_below (n + 1) m xs
      (omega arith))

  pub placed_items : (n : ℕ) (xs : List I) → items_of (placed n xs) ≡ xs
  placed_items n [] = refl
  placed_items n (x ∷ xs) = ap (λ l. x ∷ l) (placed_items (n + 1) xs)

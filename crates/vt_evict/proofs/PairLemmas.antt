-- Lists of which each element is in a relation to each later one.
use Rattle.std.proofs.Common.{◌≡◌, ℕ, suc, ◌<◌, ◌≤◌, Bool, true, false, not, nat_eq, List, [], ◌∷◌, ◌++◌, length, reverse, get_or, inl, inr, refl, sym, ◌∙◌, subst, arith}
use Rattle.std.specs.List.{All, AllPairs, list_any, position_or_len}
use Rattle.std.proofs.lemmas.Bool.{false≢true, cases_lt}
use Rattle.std.proofs.lemmas.List.{reverse-append}
use Rattle.std.proofs.lemmas.List.Elements.{All-append, All-head, All-tail}
use Rattle.std.proofs.lemmas.List.Folds.{list_any_at, Any-from_list_any}
use Rattle.std.proofs.lemmas.List.Kept.{AllPairs-cons}
use Rattle.std.proofs.lemmas.List.Quantifiers.{all_pairs_push}
use Rattle.std.proofs.lemmas.List.Sorted.{All-permutation, IsPermutation-reverse}
use Rattle.std.proofs.lemmas.List.Sums.{fails_before_first}
use Rattle.vt_plan.specs.PageLists.{is_in}
use Rattle.vt_evict.proofs.SettleLemmas.{self_eq}

pub pairs_append : {X : Type 0} (R : X → X → Type 0) (xs ys : List X) → AllPairs R xs → AllPairs R ys → All (λ x. All (R x) ys) xs → AllPairs R (xs ++ ys)
pairs_append R [] ys a b c = b
pairs_append R (x ∷ xs) ys a b c =
    AllPairs-cons R x (xs ++ ys) (All-append (R x) xs ys (λ k d inside. a 0 (suc k) d (omega arith) (omega arith)) (All-head (λ x. All (R x) ys) x xs c))
    (pairs_append R xs ys (λ i j d lt within. a (suc i) (suc j) d (omega arith) (omega arith)) b (All-tail (λ x. All (R x) ys) x xs c))

pub pairs_reverse : (R : ℕ → ℕ → Type 0) (xs : List ℕ) → AllPairs R xs → AllPairs (λ a b. R b a) (reverse xs)
pairs_reverse R [] h = λ i j d lt within. absurd (omega arith)
pairs_reverse R (x ∷ xs) h =
    let rest : AllPairs (λ a b. R b a) (reverse xs) = pairs_reverse R xs (λ i j d lt within. h (suc i) (suc j) d (omega arith) (omega arith)) in
    let later : All (R x) xs = λ k d inside. h 0 (suc k) d (omega arith) (omega arith) in
    let back : All (R x) (reverse xs) = All-permutation (R x) xs (reverse xs) (IsPermutation-reverse xs) later in
    subst (λ (l : List ℕ). AllPairs (λ a b. R b a) l) (sym (reverse-append (x ∷ []) xs)) (all_pairs_push (λ a b. R b a) (reverse xs) x rest back)

-- each element of a list is in it
pub all_in : (xs : List ℕ) → All (λ x. is_in xs x ≡ true) xs
all_in xs = λ k d inside. list_any_at (nat_eq (get_or xs k d)) xs k d inside (self_eq (get_or xs k d))

pub not_true : (b : Bool) → not b ≡ true → b ≡ false
not_true true e = absurd (false≢true e)
not_true false e = refl

-- where an element passes, the first that does is inside
pub first_inside : (t : ℕ → Bool) (xs : List ℕ) → list_any t xs ≡ true → position_or_len t xs < length xs
first_inside t xs e = elim (cases_lt (position_or_len t xs) (length xs)) [
  | inl below ↦ below
  | inr past ↦
      let found = Any-from_list_any t xs e in
      let fails : t (get_or xs found.0 found.1) ≡ false = fails_before_first t xs found.0 found.1 (omega (arith, found.2)) in
      absurd (false≢true (sym fails ∙ subst (λ (y : ℕ). t y ≡ true) (sym found.3) found.4))
]

-- an element that passes is at the first one's place or behind it
pub first_before : (t : ℕ → Bool) (xs : List ℕ) (k d : ℕ) → t (get_or xs k d) ≡ true → position_or_len t xs ≤ k
first_before t xs k d e = elim (cases_lt k (position_or_len t xs)) [
  | inl below ↦ absurd (false≢true (sym (fails_before_first t xs k d below) ∙ e))
  | inr past ↦ past
]

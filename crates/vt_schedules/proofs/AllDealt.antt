-- The rows that samplers took are those that were dealt, each once.
use Rattle.std.proofs.Common.{◌≡◌, ℕ, zero, suc, ◌+◌, ◌%◌, ◌≤◌, ◌<◌, inl, inr, Bool, true, false, cond, List, [], ◌∷◌, ◌++◌, length, map, get_or, reverse, Some, refl, sym, ap, ◌∙◌, subst, append_assoc, length-append, arith, add-zero, eq-eqb}
use Rattle.std.specs.Prelude.{◌==◌, All, AllPairs, IsPermutation, Contains, slice_get}
use Rattle.std.specs.List.{range_with_len, concat}
use Rattle.std.proofs.lemmas.Bool.{cases_eq}
use Rattle.std.proofs.lemmas.Bool.Decides.{nat_tests}
use Rattle.std.proofs.lemmas.Nat.{mod_below}
use Rattle.std.proofs.lemmas.List.{length-map, reverse-reverse, length-reverse}
use Rattle.std.proofs.lemmas.List.FromFn.{length-range_with_len, get_or-range_with_len}
use Rattle.std.proofs.lemmas.List.Kept.{AllPairs-filter}
use Rattle.std.proofs.lemmas.List.Elements.{All-nil, All-cons, All-append, All-contains}
use Rattle.std.proofs.lemmas.List.Sorted.{IsPermutation-refl, IsPermutation-trans, IsPermutation-append_left, IsPermutation-append_right, IsPermutation-append_comm}
use Rattle.std.proofs.lemmas.Option.{slice_get_within, slice_get-get_or}
use Rattle.vt_sampler.specs.Samplers.{own_rows}
use Rattle.vt_sampler.proofs.Sharing.{own_rows-suc, own_rows-none}
use Rattle.vt_schedules.specs.SharedRows.{rows_of}
use Rattle.vt_schedules.specs.declared.dealt.DealtWay.{DealtWay}
use Rattle.vt_schedules.specs.Rows.{AreTaken, AreAllRows}
use Rattle.vt_schedules.specs.Dealt.{TookDealt, EndsDealt, AreDealtWays}
use Rattle.vt_schedules.proofs.Lists.{same_lists, made_at}

range_more : (a n : ℕ) → range_with_len a (suc n) ≡ range_with_len a n ++ (a + n) ∷ []
range_more a zero = ap (λ (m : ℕ). m ∷ []) (sym (add-zero a))
range_more a (suc n) =
    ap (λ (t : List ℕ). a ∷ t) (range_more (a + 1) n ∙ ap (λ (m : ℕ). range_with_len (a + 1) n ++ m ∷ []) (omega arith))

cond_length : (b : Bool) (h : ℕ) → length (cond b (h ∷ []) []) ≤ 1
cond_length true h = omega arith
cond_length false h = omega arith

own_rows-few : (k n h : ℕ) → length (own_rows k n h) ≤ h
own_rows-few k n zero = omega (arith, ap length (own_rows-none k n))
own_rows-few k n (suc h) =
    omega (
      arith,
      own_rows-few k n h,
      ap length (own_rows-suc k n h),
      length-append (own_rows k n h) (cond (h % n == k) (h ∷ []) []),
      cond_length (h % n == k) h,
    )

-- lists that are made of two parts each
split_parts : (f g : ℕ → List ℕ) (ks : List ℕ)
    → IsPermutation (concat (map f ks) ++ concat (map g ks)) (concat (map (λ k. f k ++ g k) ks))
split_parts f g [] = IsPermutation-refl []
split_parts f g (k ∷ ks) =
    let F = concat (map f ks) in
    let G = concat (map g ks) in
    let one : (f k ++ F) ++ (g k ++ G) ≡ f k ++ ((F ++ g k) ++ G) =
    append_assoc (f k) F (g k ++ G) ∙ ap (λ l. f k ++ l) (sym (append_assoc F (g k) G)) in
    let two : f k ++ ((g k ++ F) ++ G) ≡ (f k ++ g k) ++ (F ++ G) =
    ap (λ l. f k ++ l) (append_assoc (g k) F G) ∙ sym (append_assoc (f k) (g k) (F ++ G)) in
    subst (λ l. IsPermutation l ((f k ++ g k) ++ concat (map (λ j. f j ++ g j) ks))) (sym one)
    (IsPermutation-trans (f k ++ ((F ++ g k) ++ G)) ((f k ++ g k) ++ (F ++ G)) ((f k ++ g k) ++ concat (map (λ j. f j ++ g j) ks))
    (subst (λ l. IsPermutation (f k ++ ((F ++ g k) ++ G)) l) two
    (IsPermutation-append_right (f k) ((F ++ g k) ++ G) ((g k ++ F) ++ G)
    (IsPermutation-append_left G (F ++ g k) (g k ++ F) (IsPermutation-append_comm F (g k)))))
    (IsPermutation-append_right (f k ++ g k) (F ++ G) (concat (map (λ j. f j ++ g j) ks)) (split_parts f g ks)))

one_none : (x y a n : ℕ) → x < a → concat (map (λ k. cond (x == k) (y ∷ []) []) (range_with_len a n)) ≡ []
one_none x y a zero low = refl
one_none x y a (suc n) low =
    let e : (x == a) ≡ false = grind (arith, nat_tests) in
    ap (λ b. cond b (y ∷ []) [] ++ concat (map (λ k. cond (x == k) (y ∷ []) []) (range_with_len (a + 1) n))) e ∙ one_none x y (a + 1) n (omega (arith, low))

one_some : (x y a n : ℕ) → a ≤ x → x < a + n → concat (map (λ k. cond (x == k) (y ∷ []) []) (range_with_len a n)) ≡ y ∷ []
one_some x y a zero low high = absurd (omega (arith, low, high))
one_some x y a (suc n) low high = elim (cases_eq x a) [
  | inl same ↦
      ap (λ b. cond b (y ∷ []) [] ++ concat (map (λ k. cond (x == k) (y ∷ []) []) (range_with_len (a + 1) n))) (eq-eqb x a same)
      ∙ ap (λ l. y ∷ l) (one_none x y (a + 1) n (omega (arith, same)))
  | inr other ↦
      let e : (x == a) ≡ false = grind (arith, nat_tests) in
      ap (λ b. cond b (y ∷ []) [] ++ concat (map (λ k. cond (x == k) (y ∷ []) []) (range_with_len (a + 1) n))) e
      ∙ one_some x y (a + 1) n (omega (arith, low, other)) (omega (arith, high))
]

all_none : (n : ℕ) (ks : List ℕ) → concat (map (λ k. own_rows k n 0) ks) ≡ []
all_none n [] = refl
all_none n (k ∷ ks) = ap (λ l. l ++ concat (map (λ j. own_rows j n 0) ks)) (own_rows-none k n) ∙ all_none n ks

-- together they are each row once
each_once : (n h : ℕ) → 1 ≤ n → IsPermutation (range_with_len 0 h) (concat (map (λ k. own_rows k n h) (range_with_len 0 n)))
each_once n zero some = subst (λ l. IsPermutation [] l) (sym (all_none n (range_with_len 0 n))) (IsPermutation-refl [])
each_once n (suc h) some =
    let ks = range_with_len 0 n in
    let f = λ (k : ℕ). own_rows k n h in
    let g = λ (k : ℕ). cond (h % n == k) (h ∷ []) [] in
    let more : range_with_len 0 (suc h) ≡ range_with_len 0 h ++ h ∷ [] = range_more 0 h ∙ ap (λ (m : ℕ). range_with_len 0 h ++ m ∷ []) (omega arith) in
    let last : concat (map g ks) ≡ h ∷ [] = one_some (h % n) h 0 n (omega arith) (omega (arith, mod_below h n some)) in
    let all : map (λ k. f k ++ g k) ks ≡ map (λ k. own_rows k n (suc h)) ks = λ i. map (λ k. sym (own_rows-suc k n h) i) ks in
    subst (λ l. IsPermutation l (concat (map (λ k. own_rows k n (suc h)) ks))) (sym more)
    (subst (λ l. IsPermutation (range_with_len 0 h ++ h ∷ []) (concat l)) all
    (IsPermutation-trans (range_with_len 0 h ++ h ∷ []) (concat (map f ks) ++ concat (map g ks)) (concat (map (λ k. f k ++ g k) ks))
    (subst (λ l. IsPermutation (range_with_len 0 h ++ h ∷ []) (concat (map f ks) ++ l)) (sym last)
    (IsPermutation-append_left (h ∷ []) (range_with_len 0 h) (concat (map f ks)) (each_once n h some)))
    (split_parts f g ks)))

rises : (k n h : ℕ) → AllPairs (λ a b. a < b) (own_rows k n h)
unfolding own_rows
rises k n h = AllPairs-filter (λ a b. a < b) (λ y. y % n == k) (range_with_len 0 h) (λ i j d less inside.
    let m = length-range_with_len 0 h in
    let a = get_or-range_with_len 0 h i d (omega (arith, less, inside, m)) in
    let b = get_or-range_with_len 0 h j d (omega (arith, inside, m)) in
    omega (arith, a, b, less))

own_mod : (k n h : ℕ) → All (λ y. y % n ≡ k) (own_rows k n h)
own_mod k n zero = subst (λ l. All (λ y. y % n ≡ k) l) (sym (own_rows-none k n)) (All-nil (λ y. y % n ≡ k))
own_mod k n (suc h) = subst (λ l. All (λ y. y % n ≡ k) l) (sym (own_rows-suc k n h))
    (All-append (λ y. y % n ≡ k) (own_rows k n h) (cond (h % n == k) (h ∷ []) []) (own_mod k n h) (last (h % n == k) refl)) where
      last : (b : Bool) → (h % n == k) ≡ b → All (λ y. y % n ≡ k) (cond b (h ∷ []) [])
      last true is = All-cons (λ y. y % n ≡ k) h [] (grind (arith, nat_tests)) (All-nil (λ y. y % n ≡ k))
      last false is = All-nil (λ y. y % n ≡ k)

-- a list of no elements
empty_is : {X : Type 0} (xs : List X) → length xs ≤ 0 → xs ≡ []
empty_is [] few = refl
empty_is (x ∷ xs) few = absurd (omega (arith, few))

module _ (height n : ℕ) (firsts owns : List DealtWay) (rows : List (List ℕ)) (dealt : AreDealtWays height n firsts)
    (took : AreTaken (λ (a b : DealtWay) (l : List ℕ). TookDealt a.jobs.elements b.jobs.elements l) n firsts owns rows)
    (ended : AreTaken (λ (a b : DealtWay) (l : List ℕ). EndsDealt height b.jobs.elements l) n firsts owns rows) where
  rows_is : (k : ℕ) (own : List ℕ) → slice_get rows k ≡ Some own → own ≡ own_rows k n height
  rows_is k own is =
      let blank : DealtWay = record { jobs = record { elements = []; spare = 0 } } in
      let low : k < n = (let a = slice_get_within rows k own is in let b = took.rows_number in omega (arith, a, b)) in
      let first = get_or firsts k blank in
      let last = get_or owns k blank in
      let f : slice_get firsts k ≡ Some first = slice_get-get_or firsts k blank (let b = took.firsts_number in omega (arith, low, b)) in
      let l : slice_get owns k ≡ Some last = slice_get-get_or owns k blank (let b = took.lasts_number in omega (arith, low, b)) in
      let all : reverse (own_rows k n height) ≡ rows_of last.jobs.elements ++ reverse own = sym (dealt.each k first f) ∙ took.each k first last own f l is in
      let number = ap length all ∙ length-append (rows_of last.jobs.elements) (reverse own) in
      let none : rows_of last.jobs.elements ≡ [] = elim (ended.each k first last own f l is) [
        | inl done ↦ ap rows_of done
        | inr most ↦
            let few = own_rows-few k n height in
            let a = length-reverse (own_rows k n height) in
            let b = length-reverse own in
            empty_is (rows_of last.jobs.elements) (omega (arith, number, most, few, a, b))
      ] in
      let same : reverse own ≡ reverse (own_rows k n height) = sym (all ∙ ap (λ l. l ++ reverse own) none) in
      sym (reverse-reverse own) ∙ ap reverse same ∙ reverse-reverse (own_rows k n height)

  all_is : map (λ k. own_rows k n height) (range_with_len 0 n) ≡ rows
  all_is = sym (same_lists rows (map (λ k. own_rows k n height) (range_with_len 0 n))
      (took.rows_number ∙ sym (length-map (range_with_len 0 n) (λ k. own_rows k n height) ∙ length-range_with_len 0 n))
      (λ k own is.
      let low : k < n = (let a = slice_get_within rows k own is in let b = took.rows_number in omega (arith, a, b)) in
      let there : slice_get (range_with_len 0 n) k ≡ Some k =
      slice_get-get_or (range_with_len 0 n) k 0 (let m = length-range_with_len 0 n in omega (arith, low, m)) ∙ ap Some (get_or-range_with_len 0 n k 0 low ∙ omega arith) in
      made_at (λ j. own_rows j n height) (range_with_len 0 n) k k there ∙ ap Some (sym (rows_is k own is))))

  pub all_dealt : AreAllRows true height n rows
  all_dealt = record {
    once = subst (λ l. IsPermutation (range_with_len 0 height) (concat l)) all_is (each_once n height dealt.some);
    rise = λ k own is. subst (λ l. AllPairs (λ a b. a < b) l) (sym (rows_is k own is)) (rises k n height);
    dealt_to = λ yes k own y is has. All-contains (λ z. z % n ≡ k) (own_rows k n height) y (own_mod k n height)
        (subst (λ l. Contains l y) (rows_is k own is) has);
  }

-- The rows of samplers, and how much they want of a page.
use Rattle.std.proofs.Common.{◌≡◌, ◌≢◌, ℕ, zero, suc, ◌+◌, ◌-◌, ◌*◌, ◌/◌, ◌%◌, ◌≤◌, ◌<◌, inl, inr, Bool, true, false, cond, List, [], ◌∷◌, ◌++◌, length, drop, refl, sym, ap, ◌∙◌, arith, add-zero, eq-eqb}
use Rattle.std.specs.Prelude.{◌==◌, ◌^◌, sum_by, filter}
use Rattle.std.specs.List.{range_with_len}
use Rattle.std.proofs.lemmas.Bool.{cases_lt}
use Rattle.std.proofs.lemmas.Bool.Decides.{nat_tests}
use Rattle.std.proofs.lemmas.Nat.{div-add-mod', mod_below, mul-le}
use Rattle.std.proofs.lemmas.List.{append-nil, length-append, length-drop, length-take-le}
use Rattle.std.proofs.lemmas.List.FromFn.{length-range_with_len}
use Rattle.std.proofs.lemmas.List.Elements.{filter-append}
use Rattle.std.proofs.lemmas.List.Sums.{sum_by-cons, sum_by_push}
use Rattle.vt_pages.specs.Shape.{Shape}
use Rattle.vt_lookup.specs.Paths.{PathView, ArePictureSides}
use Rattle.vt_lookup.specs.Rows.{RowView}
use Rattle.vt_lookup.specs.Shots.{shot_row, wants_in_rows}
use Rattle.vt_lookup.specs.FilterLaws.{WantsFew}
use Rattle.vt_definitions.specs.Dealing.{own_count}
use Rattle.vt_sampler.specs.Samplers.{own_rows, row_in}
use Rattle.vt_definitions.proofs.Quotients.{apart, quotient_from, rest_small}

range_more : (a n : ℕ) → range_with_len a (suc n) ≡ range_with_len a n ++ (a + n) ∷ []
range_more a zero = ap (λ (m : ℕ). m ∷ []) (sym (add-zero a))
range_more a (suc n) =
    ap (λ (t : List ℕ). a ∷ t) (range_more (a + 1) n ∙ ap (λ (m : ℕ). range_with_len (a + 1) n ++ m ∷ []) (omega arith))

-- a row more, which is the sampler's or not
pub own_rows-suc : (k n h : ℕ) → own_rows k n (suc h) ≡ own_rows k n h ++ cond (h % n == k) (h ∷ []) []
unfolding own_rows
own_rows-suc k n h =
    ap (filter (λ y. y % n == k)) (range_more 0 h ∙ ap (λ (m : ℕ). range_with_len 0 h ++ m ∷ []) (omega arith))
    ∙ filter-append (λ y. y % n == k) (range_with_len 0 h) (h ∷ [])

pub own_rows-none : (k n : ℕ) → own_rows k n 0 ≡ []
unfolding own_rows
own_rows-none k n = refl

own_rows-take : (k n h : ℕ) → h % n ≡ k → own_rows k n (suc h) ≡ own_rows k n h ++ h ∷ []
own_rows-take k n h own = own_rows-suc k n h ∙ ap (λ b. own_rows k n h ++ cond b (h ∷ []) []) (eq-eqb (h % n) k own)

own_rows-skip : (k n h : ℕ) → h % n ≢ k → own_rows k n (suc h) ≡ own_rows k n h
own_rows-skip k n h other =
    let e : (h % n == k) ≡ false = grind (arith, nat_tests) in
    own_rows-suc k n h ∙ ap (λ b. own_rows k n h ++ cond b (h ∷ []) []) e ∙ append-nil (own_rows k n h)

own_rows-gap : (k n h d : ℕ) → ((z : ℕ) → z < h + d → z % n ≡ k → z < h) → own_rows k n (h + d) ≡ own_rows k n h
own_rows-gap k n h zero none = ap (own_rows k n) (add-zero h)
own_rows-gap k n h (suc d) none =
    let e : h + suc d ≡ suc (h + d) = omega arith in
    ap (own_rows k n) e
    ∙ own_rows-skip k n (h + d) (λ own. absurd (omega (arith, none (h + d) (omega arith) own)))
    ∙ own_rows-gap k n h d (λ z below own. none z (omega arith) own)

-- the rows below two bounds, between which there is none
pub own_rows-same : (k n h y : ℕ) → h ≤ y → ((z : ℕ) → z < y → z % n ≡ k → z < h) → own_rows k n y ≡ own_rows k n h
own_rows-same k n h y low none =
    let e : h + (y - h) ≡ y = omega arith in
    ap (own_rows k n) (sym e) ∙ own_rows-gap k n h (y - h) (λ z below own. none z (omega arith) own)

-- a row and the next
pub own_rows-next : (k n y : ℕ) → 1 ≤ n → y % n ≡ k → own_rows k n (y + n) ≡ own_rows k n y ++ y ∷ []
own_rows-next k n y some own =
    own_rows-same k n (suc y) (y + n) (omega arith)
    (λ z below is. elim (cases_lt y z) [ inl past ↦ absurd (omega (arith, apart n z y (own ∙ sym is) past)) | inr low ↦ omega arith ])
    ∙ own_rows-take k n y own

pub own_rows-first : (k n : ℕ) → k < n → own_rows k n k ≡ []
own_rows-first k n one =
    own_rows-same k n 0 k (omega arith) (λ z below own. absurd (omega (arith, rest_small n z (omega arith), own)))
    ∙ own_rows-none k n

-- a sampler's rows have room
pub own_fits : (k n h y : ℕ) → k < n → y < h → y % n ≡ k → y / n + 1 ≤ own_count k n h
own_fits k n h y one inside own = quotient_from (y / n + 1) n (h + n - 1 - k) (omega arith) (omega (arith, div-add-mod' y n))

-- and so has the buffer for each of their bytes
pub own_room : (k n h line y at room : ℕ) → k < n → y < h → y % n ≡ k → at ≡ y / n * line → room ≡ own_count k n h * line
    → at + line ≤ room
own_room k n h line y at room one inside own place all =
    omega (arith, mul-le (y / n + 1) line (own_count k n h) line (own_fits k n h y one inside own) (omega arith))

-- so each of its rows is there in full
pub own_full : (k n h line y : ℕ) (bytes : List ℕ) → k < n → y < h → y % n ≡ k → length bytes ≡ own_count k n h * line
    → length (row_in n line bytes y) ≡ line
own_full k n h line y bytes one inside own all =
    let at : ℕ = y / n * line in
    let room = own_room k n h line y at (length bytes) one inside own refl all in
    let rest = length-drop at bytes in
    length-take-le (at + line - at) (drop at bytes) (omega (arith, room, rest)) ∙ omega arith

length-own_rows : (k n h : ℕ) → length (own_rows k n h) ≤ h
length-own_rows k n zero = let e : length (own_rows k n 0) ≡ 0 = ap length (own_rows-none k n) in omega arith
length-own_rows k n (suc h) = step (length-own_rows k n h) (h % n == k) refl where
  step : length (own_rows k n h) ≤ h → (b : Bool) → (h % n == k) ≡ b → length (own_rows k n (suc h)) ≤ suc h
  step few true e =
      let more : length (own_rows k n (suc h)) ≡ length (own_rows k n h ++ h ∷ []) =
      ap length (own_rows-suc k n h ∙ ap (λ b. own_rows k n h ++ cond b (h ∷ []) []) e) in
      let grown : length (own_rows k n h ++ h ∷ []) ≡ length (own_rows k n h) + 1 = length-append (own_rows k n h) (h ∷ []) in
      omega arith
  step few false e =
      let same : length (own_rows k n (suc h)) ≡ length (own_rows k n h) =
      ap length (own_rows-suc k n h ∙ ap (λ b. own_rows k n h ++ cond b (h ∷ []) []) e ∙ append-nil (own_rows k n h)) in
      omega arith

-- what rows want of a page, by what the pixels of a row want of it
module _ (wants : Shape → RowView → ℕ → ℕ → ℕ) (s : Shape) (path : PathView) (picture p : ℕ) where
  pub wants-none : wants_in_rows wants s path picture [] p ≡ 0
  unfolding wants_in_rows
  wants-none = refl

  pub wants-push : (y : ℕ) (rows : List ℕ) → wants_in_rows wants s path picture (rows ++ y ∷ []) p
      ≡ wants_in_rows wants s path picture rows p + wants s (shot_row s path picture y) path.width p
  unfolding wants_in_rows
  wants-push y rows = sum_by_push (λ z. wants s (shot_row s path picture z) path.width p) rows y

  module _ (most : ℕ) (few : (z : ℕ) → wants s (shot_row s path picture z) path.width p ≤ most) where
    rows_most : (rows : List ℕ) → wants_in_rows wants s path picture rows p ≤ length rows * most
    unfolding wants_in_rows
    rows_most [] = omega arith
    rows_most (y ∷ rows) =
        omega (arith, sum_by-cons (λ z. wants s (shot_row s path picture z) path.width p) y rows, rows_most rows, few y)

    -- a sampler's rows want no more of a page than so many rows do at most
    pub own_most : (k n h : ℕ) → wants_in_rows wants s path picture (own_rows k n h) p ≤ h * most
    own_most k n h =
        omega (arith, rows_most (own_rows k n h), mul-le (length (own_rows k n h)) most h most (length-own_rows k n h) (omega arith))

    -- a picture wants less of a page than a count can hold
    pub wants_few : most ≤ 8192 → path.height ≤ 2048 → wants_in_rows wants s path picture (range_with_len 0 path.height) p < 2 ^ 32
    wants_few low high =
        let all = ap (λ n. n * most) (length-range_with_len 0 path.height) in
        omega (arith, rows_most (range_with_len 0 path.height), all, mul-le path.height most 2048 8192 high low)

-- sums over the samplers
sum-same : (f g : ℕ → ℕ) (xs : List ℕ) → ((x : ℕ) → f x ≡ g x) → sum_by f xs ≡ sum_by g xs
sum-same f g xs each = ap (λ (h : ℕ → ℕ). sum_by h xs) (λ i x. each x i)

sum-zero : (xs : List ℕ) → sum_by (λ (x : ℕ). 0) xs ≡ 0
sum-zero [] = refl
sum-zero (x ∷ xs) = sum_by-cons (λ (y : ℕ). 0) x xs ∙ omega (arith, sum-zero xs)

sum-both : (f g : ℕ → ℕ) (xs : List ℕ) → sum_by (λ x. f x + g x) xs ≡ sum_by f xs + sum_by g xs
sum-both f g [] = refl
sum-both f g (x ∷ xs) = omega (arith, sum_by-cons (λ y. f y + g y) x xs, sum_by-cons f x xs, sum_by-cons g x xs, sum-both f g xs)

picked : ℕ → ℕ → ℕ → ℕ
picked r v x = cond (r == x) v 0

picked-same : (r v : ℕ) → picked r v r ≡ v
unfolding picked
picked-same r v = ap (λ b. cond b v 0) (eq-eqb r r refl)

picked-other : (r v x : ℕ) → r ≢ x → picked r v x ≡ 0
unfolding picked
picked-other r v x other = let e : (r == x) ≡ false = grind (arith, nat_tests) in ap (λ b. cond b v 0) e

sum-missed : (r v a n : ℕ) → r < a → sum_by (picked r v) (range_with_len a n) ≡ 0
sum-missed r v a zero before = refl
sum-missed r v a (suc n) before =
    omega (
      arith,
      sum_by-cons (picked r v) a (range_with_len (a + 1) n),
      picked-other r v a (omega arith),
      sum-missed r v (a + 1) n (omega arith),
    )

sum-picked : (r v a n : ℕ) → a ≤ r → r < a + n → sum_by (picked r v) (range_with_len a n) ≡ v
sum-picked r v a zero from to = absurd (omega arith)
sum-picked r v a (suc n) from to =
    sum_by-cons (picked r v) a (range_with_len (a + 1) n)
    ∙ elim (cases_lt a r) [
      | inl past ↦ omega (arith, picked-other r v a (omega arith), sum-picked r v (a + 1) n (omega arith) (omega arith))
      | inr here ↦
          let same : a ≡ r = omega arith in
          omega (arith, ap (picked r v) same ∙ picked-same r v, sum-missed r v (a + 1) n (omega arith))
    ]

-- a row more of the picture is a row more of its one sampler
module _ (wants : Shape → RowView → ℕ → ℕ → ℕ) (s : Shape) (path : PathView) (picture p : ℕ) where
  -- what the rows want of the page
  rows_want : List ℕ → ℕ
  rows_want rows = wants_in_rows wants s path picture rows p

  row_wants : ℕ → ℕ
  row_wants y = wants s (shot_row s path picture y) path.width p

  own_more : (k n h : ℕ) → rows_want (own_rows k n (suc h)) ≡ rows_want (own_rows k n h) + picked (h % n) (row_wants h) k
  unfolding picked rows_want row_wants
  own_more k n h = step (h % n == k) refl where
    step : (b : Bool) → (h % n == k) ≡ b
        → rows_want (own_rows k n (suc h)) ≡ rows_want (own_rows k n h) + cond (h % n == k) (row_wants h) 0
    step true e =
        ap rows_want (own_rows-suc k n h ∙ ap (λ b. own_rows k n h ++ cond b (h ∷ []) []) e)
        ∙ wants-push wants s path picture p h (own_rows k n h)
        ∙ ap (λ b. rows_want (own_rows k n h) + cond b (row_wants h) 0) (sym e)
    step false e =
        ap rows_want (own_rows-suc k n h ∙ ap (λ b. own_rows k n h ++ cond b (h ∷ []) []) e ∙ append-nil (own_rows k n h))
        ∙ sym (add-zero (rows_want (own_rows k n h)))
        ∙ ap (λ b. rows_want (own_rows k n h) + cond b (row_wants h) 0) (sym e)

  all_more : (h : ℕ) → rows_want (range_with_len 0 (suc h)) ≡ rows_want (range_with_len 0 h) + row_wants h
  unfolding rows_want row_wants
  all_more h =
      ap rows_want (range_more 0 h ∙ ap (λ (m : ℕ). range_with_len 0 h ++ m ∷ []) (omega arith))
      ∙ wants-push wants s path picture p h (range_with_len 0 h)

  shared : (n h : ℕ) → 1 ≤ n → sum_by (λ k. rows_want (own_rows k n h)) (range_with_len 0 n) ≡ rows_want (range_with_len 0 h)
  unfolding rows_want
  shared n zero some =
      sum-same (λ k. rows_want (own_rows k n 0)) (λ (k : ℕ). 0) (range_with_len 0 n)
      (λ k. ap rows_want (own_rows-none k n) ∙ wants-none wants s path picture p)
      ∙ sum-zero (range_with_len 0 n)
      ∙ sym (wants-none wants s path picture p)
  shared n (suc h) some =
      sum-same (λ k. rows_want (own_rows k n (suc h))) (λ k. rows_want (own_rows k n h) + picked (h % n) (row_wants h) k)
      (range_with_len 0 n) (λ k. own_more k n h)
      ∙ sum-both (λ k. rows_want (own_rows k n h)) (picked (h % n) (row_wants h)) (range_with_len 0 n)
      ∙ omega (
        arith,
        shared n h some,
        sum-picked (h % n) (row_wants h) 0 n (omega arith) (omega (arith, mod_below h n some)),
        all_more h,
      )

pub rows_shared : (wants : Shape → RowView → ℕ → ℕ → ℕ) (s : Shape) (path : PathView) (picture n h p : ℕ) → 1 ≤ n
    → sum_by (λ k. wants_in_rows wants s path picture (own_rows k n h) p) (range_with_len 0 n) ≡ wants_in_rows wants s path picture (range_with_len 0 h) p
unfolding rows_want
rows_shared wants s path picture n h p some = shared wants s path picture p n h some

-- a picture wants no more texels of a page than a count can hold, where so many pixels want at most four each
pub picture_few : (wants : Shape → RowView → ℕ → ℕ → ℕ) → WantsFew wants → (s : Shape) (path : PathView) (picture p : ℕ)
    → ArePictureSides path.width path.height → wants_in_rows wants s path picture (range_with_len 0 path.height) p < 2 ^ 32
picture_few wants few s path picture p sides =
    wants_few wants s path picture p (4 * path.width) (λ z. few s (shot_row s path picture z) path.width p)
    (let w = sides.width_high in omega (arith, w)) sides.height_high

-- and so its samplers count no page more often together
pub few_together : (wants : Shape → RowView → ℕ → ℕ → ℕ) → WantsFew wants → (s : Shape) (path : PathView) (picture n p : ℕ) → 1 ≤ n
    → ArePictureSides path.width path.height
    → sum_by (λ k. wants_in_rows wants s path picture (own_rows k n path.height) p) (range_with_len 0 n) < 2 ^ 32
few_together wants few s path picture n p some sides =
    omega (arith, rows_shared wants s path picture n path.height p some, picture_few wants few s path picture p sides)

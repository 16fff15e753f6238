-- The rows of the texture that are read for a row of a level.
use Rattle.std.proofs.Common.{◌≡◌, ℕ, zero, suc, ◌+◌, ◌-◌, ◌*◌, min, Bool, Result, Ok, Err, is_err, OnOk, OnErr, ◌^◌, ◌<◌, ◌≤◌, Option, Some, None, true, false, List, [], ◌∷◌, ◌++◌, refl, sym, ap, ◌∙◌, subst, arith, append_assoc}
use Rattle.std.proofs.Math.Nat.{pow-succ'}
use Rattle.std.specs.Prelude.{option_map}
use Rattle.vt_ppm.specs.Sides.{side}
use Rattle.vt_ppm.specs.OutsideTypes.place.Place.{Place}
use Rattle.vt_ppm.specs.declared.header.Header.{Header}
use Rattle.vt_ppm.specs.Strips.{RowsAsked, row_length, row_start}
use Rattle.vt_mip.specs.StripChains.{IsUpper, RowsRead, RowsFailed, texture_row_place, row_places, first_under, rows_under}

-- a row is one of a level exactly where a row of the texture lies under it
pub row_under : (h k y : ℕ) → y < side h k → y * 2 ^ k < h
row_under h zero y inside = omega arith
row_under h (suc k) y inside =
    let below : 2 * y * 2 ^ k < h = row_under h k (2 * y) (omega arith) in
    let twice : 2 ^ suc k ≡ 2 * 2 ^ k = pow-succ' 2 k in
    let e : y * 2 ^ suc k ≡ y * (2 * 2 ^ k) = ap (λ (n : ℕ). y * n) twice in omega (arith, below, e)

pub none_under : (h k y : ℕ) → side h k ≤ y → h ≤ y * 2 ^ k
none_under h zero y past = omega arith
none_under h (suc k) y past =
    let below : h ≤ 2 * y * 2 ^ k = none_under h k (2 * y) (omega arith) in
    let twice : 2 ^ suc k ≡ 2 * 2 ^ k = pow-succ' 2 k in
    let e : y * 2 ^ suc k ≡ y * (2 * 2 ^ k) = ap (λ (n : ℕ). y * n) twice in omega (arith, below, e)

-- how the rows under a row of a level are those under two rows of the level below, or under its last
pub record AreUnder (h k y : ℕ) : Type 0 where
  pub first : first_under k (2 * y) ≡ first_under (suc k) y
  pub second : first_under k (2 * y + 1) ≡ first_under (suc k) y + rows_under h k (2 * y)
  pub together : rows_under h (suc k) y ≡ rows_under h k (2 * y) + rows_under h k (2 * y + 1)

pub are_under : (h k y : ℕ) → 2 * y + 1 < side h k → AreUnder h k y
are_under h k y inside =
    let twice : 2 ^ suc k ≡ 2 * 2 ^ k = pow-succ' 2 k in
    let e : y * 2 ^ suc k ≡ y * (2 * 2 ^ k) = ap (λ (n : ℕ). y * n) twice in
    let p : ℕ = 2 ^ k in
    let low : (2 * y + 1) * 2 ^ k < h = row_under h k (2 * y + 1) inside in
    let here : first_under k (2 * y) ≡ first_under (suc k) y = omega (arith, e) in
    let all : rows_under h k (2 * y) ≡ 2 ^ k = omega (arith, low) in
    record {
      first = here;
      second = omega (arith, e, all);
      together = omega (arith, e, all, low, twice);
    }

pub last_under : (h k y : ℕ) → 2 * y + 1 ≡ side h k → rows_under h (suc k) y ≡ rows_under h k (2 * y)
last_under h k y last =
    let twice : 2 ^ suc k ≡ 2 * 2 ^ k = pow-succ' 2 k in
    let e : y * 2 ^ suc k ≡ y * (2 * 2 ^ k) = ap (λ (n : ℕ). y * n) twice in
    let past : h ≤ (2 * y + 1) * 2 ^ k = none_under h k (2 * y + 1) (omega arith) in omega (arith, e, past, twice)

pub first_same : (k y : ℕ) → first_under k (2 * y) ≡ first_under (suc k) y
first_same k y =
    let twice : 2 ^ suc k ≡ 2 * 2 ^ k = pow-succ' 2 k in
    let e : y * 2 ^ suc k ≡ y * (2 * 2 ^ k) = ap (λ (n : ℕ). y * n) twice in omega (arith, e)

-- places that follow others
places_add : (h : Header) (a n m : ℕ) → row_places h a (n + m) ≡ row_places h a n ++ row_places h (a + n) m
places_add h a zero m =
    let e : 0 + m ≡ m = omega arith in
    let z : a + 0 ≡ a = omega arith in
    ap (row_places h a) e ∙ ap (λ (i : ℕ). row_places h i m) (sym z)
places_add h a (suc n) m =
    let e : suc n + m ≡ suc (n + m) = omega arith in
    let z : a + 1 + n ≡ a + suc n = omega arith in
    ap (row_places h a) e
    ∙ ap (λ l. texture_row_place h false a ∷ l) (places_add h (a + 1) n m ∙ ap (λ (i : ℕ). row_places h (a + 1) n ++ row_places h i m) z)

map_twice : {A : Type 0} (f g k : A → A) (o : Option A) → ((x : A) → f (g x) ≡ k x) → option_map f (option_map g o) ≡ option_map k o
map_twice f g k None same = refl
map_twice f g k (Some x) same = ap Some (same x)

-- rows that are read after others
pub read_on : (h : Header) (first n m : ℕ) (a0 a1 a2 : Option (List Place)) → RowsRead h first n a0 a1 → RowsRead h (first + n) m a1 a2
    → RowsRead h first (n + m) a0 a2
read_on h first n m a0 a1 a2 before after =
    after ∙ ap (option_map (λ places. places ++ row_places h (first + n) m)) before
    ∙ map_twice (λ places. places ++ row_places h (first + n) m) (λ places. places ++ row_places h first n)
    (λ places. places ++ row_places h first (n + m)) a0
    (λ xs. append_assoc xs (row_places h first n) (row_places h (first + n) m) ∙ ap (λ l. xs ++ l) (sym (places_add h first n m)))

pub fail_on : (h : Header) (first n m : ℕ) (a0 a1 a2 : Option (List Place)) → RowsRead h first n a0 a1 → RowsFailed h (first + n) m a1 a2
    → RowsFailed h first (n + m) a0 a2
fail_on h first n m a0 a1 a2 before after =
    let more : List Place = row_places h (first + n) after.count ++ texture_row_place h true (first + n + after.count) ∷ [] in
    let z : first + n + after.count ≡ first + (n + after.count) = omega arith in
    record {
      count = n + after.count;
      few = omega (arith, after.few);
      asked = after.asked ∙ ap (option_map (λ places. places ++ more)) before
          ∙ map_twice (λ places. places ++ more) (λ places. places ++ row_places h first n)
          (λ places. places ++ (row_places h first (n + after.count) ++ texture_row_place h true (first + (n + after.count)) ∷ [])) a0
          (λ xs. append_assoc xs (row_places h first n) more
          ∙ ap (λ l. xs ++ l) (sym (append_assoc (row_places h first n) (row_places h (first + n) after.count)
          (texture_row_place h true (first + n + after.count) ∷ []))
          ∙ ap (λ l. l ++ texture_row_place h true (first + n + after.count) ∷ []) (sym (places_add h first n after.count))
          ∙ ap (λ (i : ℕ). row_places h first (n + after.count) ++ texture_row_place h true i ∷ []) z));
    }

pub fail_sooner : (h : Header) (first n m : ℕ) (a0 a1 : Option (List Place)) → n ≤ m → RowsFailed h first n a0 a1 → RowsFailed h first m a0 a1
fail_sooner h first n m a0 a1 short failed = record { count = failed.count; few = omega (arith, failed.few); asked = failed.asked }

pub upper : (h k level y : ℕ) → level ≡ suc k → y < side h level → IsUpper h k level y
upper h k level y e inside =
    let here : y < side h (suc k) = subst (λ (n : ℕ). y < side h n) e inside in
    let made : IsUpper h k (suc k) y = record { inside = omega (arith, here); first = first_same k y; fewer = fewer } in
    subst (λ (n : ℕ). IsUpper h k n y) (sym e) made where
      fewer : rows_under h k (2 * y) ≤ rows_under h (suc k) y
      fewer = (let twice : 2 ^ suc k ≡ 2 * 2 ^ k = pow-succ' 2 k in
          let e : y * 2 ^ suc k ≡ y * (2 * 2 ^ k) = ap (λ (n : ℕ). y * n) twice in omega (arith, e, twice))

-- and the second, where there is one
pub lower : (h k level y : ℕ) → level ≡ suc k → 2 * y + 1 < side h k
    → (first_under k (2 * y + 1) ≡ first_under level y + rows_under h k (2 * y))
    × (rows_under h level y ≡ rows_under h k (2 * y) + rows_under h k (2 * y + 1))
lower h k level y e inside = rw e (let under = are_under h k y inside in (under.second, under.together))

pub alone : (h k level y : ℕ) → level ≡ suc k → 2 * y + 1 ≡ side h k → rows_under h level y ≡ rows_under h k (2 * y)
alone h k level y e last = rw e (last_under h k y last)

-- what is read of the first of the rows below
pub upper_failed : (h : Header) (k level y : ℕ) (a0 a1 : Option (List Place)) → level ≡ suc k → y < side h.height level
    → RowsFailed h (first_under k (2 * y)) (rows_under h.height k (2 * y)) a0 a1
    → RowsFailed h (first_under level y) (rows_under h.height level y) a0 a1
upper_failed h k level y a0 a1 e inside failed =
    let is = upper h.height k level y e inside in
    fail_sooner h (first_under level y) (rows_under h.height k (2 * y)) (rows_under h.height level y) a0 a1 is.fewer
    (subst (λ (n : ℕ). RowsFailed h n (rows_under h.height k (2 * y)) a0 a1) is.first failed)

pub alone_read : (h : Header) (k level y : ℕ) (a0 a1 : Option (List Place)) → level ≡ suc k → y < side h.height level → 2 * y + 1 ≡ side h.height k
    → RowsRead h (first_under k (2 * y)) (rows_under h.height k (2 * y)) a0 a1
    → RowsRead h (first_under level y) (rows_under h.height level y) a0 a1
alone_read h k level y a0 a1 e inside last read =
    let is = upper h.height k level y e inside in
    subst (λ (m : ℕ). RowsRead h (first_under level y) m a0 a1) (sym (alone h.height k level y e last))
    (subst (λ (n : ℕ). RowsRead h n (rows_under h.height k (2 * y)) a0 a1) is.first read)

module _ (h g : Header) (k level y : ℕ) (a0 a1 a2 : Option (List Place)) (e : level ≡ suc k) (in_level : y < side h.height level)
    (inside : 2 * y + 1 < side h.height k) (same : g ≡ h) (before : RowsRead h (first_under k (2 * y)) (rows_under h.height k (2 * y)) a0 a1) where
  below : (first_under k (2 * y + 1) ≡ first_under level y + rows_under h.height k (2 * y))
      × (rows_under h.height level y ≡ rows_under h.height k (2 * y) + rows_under h.height k (2 * y + 1))
  below = lower h.height k level y e inside

  begun : RowsRead h (first_under level y) (rows_under h.height k (2 * y)) a0 a1
  begun = subst (λ (n : ℕ). RowsRead h n (rows_under h.height k (2 * y)) a0 a1) (upper h.height k level y e in_level).first before

  pub both_read : RowsRead g (first_under k (2 * y + 1)) (rows_under g.height k (2 * y + 1)) a1 a2
      → RowsRead h (first_under level y) (rows_under h.height level y) a0 a2
  both_read read =
      let there : RowsRead h (first_under k (2 * y + 1)) (rows_under h.height k (2 * y + 1)) a1 a2 =
      subst (λ (z : Header). RowsRead z (first_under k (2 * y + 1)) (rows_under z.height k (2 * y + 1)) a1 a2) same read in
      subst (λ (m : ℕ). RowsRead h (first_under level y) m a0 a2) (sym below.1)
      (read_on h (first_under level y) (rows_under h.height k (2 * y)) (rows_under h.height k (2 * y + 1)) a0 a1 a2 begun
      (subst (λ (n : ℕ). RowsRead h n (rows_under h.height k (2 * y + 1)) a1 a2) below.0 there))

  pub second_failed : RowsFailed g (first_under k (2 * y + 1)) (rows_under g.height k (2 * y + 1)) a1 a2
      → RowsFailed h (first_under level y) (rows_under h.height level y) a0 a2
  second_failed failed =
      let there : RowsFailed h (first_under k (2 * y + 1)) (rows_under h.height k (2 * y + 1)) a1 a2 =
      subst (λ (z : Header). RowsFailed z (first_under k (2 * y + 1)) (rows_under z.height k (2 * y + 1)) a1 a2) same failed in
      subst (λ (m : ℕ). RowsFailed h (first_under level y) m a0 a2) (sym below.1)
      (fail_on h (first_under level y) (rows_under h.height k (2 * y)) (rows_under h.height k (2 * y + 1)) a0 a1 a2 begun
      (subst (λ (n : ℕ). RowsFailed h n (rows_under h.height k (2 * y + 1)) a1 a2) below.0 there))

  pub second_spare : (s0 s1 : ℕ) → rows_under h.height level y ≤ s0 → s0 ≤ s1 + rows_under h.height k (2 * y) → rows_under g.height k (2 * y + 1) ≤ s1
  second_spare s0 s1 enough kept =
      subst (λ (z : Header). rows_under z.height k (2 * y + 1) ≤ s1) (sym same)
      (let s : rows_under h.height k (2 * y + 1) ≤ s1 = omega (arith, below.1) in s)

  pub both_spare : (s0 s1 s2 : ℕ) → s0 ≤ s1 + rows_under h.height k (2 * y) → s1 ≤ s2 + rows_under g.height k (2 * y + 1)
      → s0 ≤ s2 + rows_under h.height level y
  both_spare s0 s1 s2 first second =
      let there : s1 ≤ s2 + rows_under h.height k (2 * y + 1) = subst (λ (z : Header). s1 ≤ s2 + rows_under z.height k (2 * y + 1)) same second in
      omega (arith, below.1)

-- a row of level 0 is that of the texture
module _ (h : Header) (level y : ℕ) (a0 a1 : Option (List Place)) where
  first_place : (failed : Bool) → level ≡ 0 → y < side h.height level → RowsAsked h y 1 failed a0 a1
      → (a1 ≡ option_map (λ places. places ++ record { at = row_start h (first_under level y); len = 1 * row_length h; failed = failed } ∷ []) a0)
      × (rows_under h.height level y ≡ 1)
  first_place failed e inside asked =
      let there : y < h.height = subst (λ k. y < side h.height k) e inside in
      rw e (let same : y * 2 ^ 0 ≡ y = omega arith in let one : min (2 ^ 0) (h.height - y * 2 ^ 0) ≡ 1 = omega (arith, there) in (rw same asked, one))

  pub first_read : {T E : Type 0} (q : Result T E) → level ≡ 0 → y < side h.height level → RowsAsked h y 1 (is_err q) a0 a1
      → OnOk q (RowsRead h (first_under level y) (rows_under h.height level y) a0 a1)
  first_read (Ok x) e inside asked = let f = first_place false e inside asked in rw f.1 f.0
  first_read (Err x) e inside asked = tt

  pub first_tried : {T E : Type 0} (q : Result T E) → level ≡ 0 → y < side h.height level → RowsAsked h y 1 (is_err q) a0 a1
      → OnErr q (RowsFailed h (first_under level y) (rows_under h.height level y) a0 a1)
  first_tried (Ok x) e inside asked = tt
  first_tried (Err x) e inside asked =
      let f = first_place true e inside asked in
      let none : first_under level y + 0 ≡ first_under level y = omega arith in
      record { count = 0; few = omega (arith, f.1); asked = rw none f.0 }

pub first_spare : (h : Header) (level y a b : ℕ) → level ≡ 0 → y < side h.height level → a ≤ b + 1 → a ≤ b + rows_under h.height level y
first_spare h level y a b e inside few =
    let there : y < h.height = subst (λ k. y < side h.height k) e inside in
    let one : 1 ≤ rows_under h.height level y = rw e (omega (arith, there)) in
    omega (arith, few, one)

pub first_room : (h : Header) (level y n : ℕ) → level ≡ 0 → y < side h.height level → rows_under h.height level y ≤ n → 1 ≤ n
first_room h level y n e inside few = let some : 1 ≤ 0 + rows_under h.height level y = first_spare h level y 1 0 e inside (omega arith) in
    omega (arith, some, few)

-- What lies on the way from one key to the next.
use Rattle.std.proofs.Common.{◌++◌, List, [], ◌∷◌, map, append_assoc, ◌≡◌, ℕ, ◌+◌, ◌-◌, ◌*◌, ◌/◌, ◌<◌, ◌≤◌, ◌⊎◌, inl, inr, sym, ap, ◌∙◌, subst, arith, ℤ, pos, negsuc, suc, zero, ◌-ℤ◌, ◌*ℤ◌, ◌≤ℤ◌, w64, to_z, of_z}
use Rattle.std.specs.List.{range_with_len}
use Rattle.std.proofs.lemmas.List.FromFn.{map-range_with_len_more}
use Rattle.std.proofs.Math.Nat.{div-le_of_le-mul, div-lt_iff_lt-mul, mul-le-mul_left}
use Rattle.std.proofs.lemmas.Int.{ints}
use Rattle.vt_text.specs.Numbers.{IsWithin}
use Rattle.vt_camera.specs.declared.paths.Camera.{Camera}
use Rattle.vt_camera.specs.Paths.{IsCamera}
use Rattle.vt_camera.specs.Rows.{floor_div}
use Rattle.vt_camera.specs.Ways.{place_between, camera_on_way}
use Rattle.vt_camera.proofs.PathReadingLemmas.{back}

-- a part of a natural number is at most that number
part_of : (m i n : ℕ) → i ≤ n → m * i / n ≤ m
part_of m i n within = let h : m * i ≤ m * n = mul-le-mul_left m within in div-le_of_le-mul n {m = m * i} {n = m} (omega arith)

part_below : (m j n : ℕ) → suc j ≤ n → (suc m * suc j - 1) / n ≤ m
part_below m j n within =
    let h : suc m * suc j ≤ suc m * n = mul-le-mul_left (suc m) within in
    let some : zero < n = omega arith in
    let below : suc m * suc j - 1 < suc m * n = omega arith in
    let l : (suc m * suc j - 1) / n < suc m = (div-lt_iff_lt-mul {k = n} {x = suc m * suc j - 1} {y = suc m} some).1 below in
    omega arith

-- the distance that was gone lies between none and all
gone : (d : ℤ) (i n : ℕ) → i ≤ n → IsWithin (pos 0) d (floor_div (d *ℤ pos i) n) ⊎ IsWithin d (pos 0) (floor_div (d *ℤ pos i) n)
gone (pos m) i n within =
    let e : pos m *ℤ pos i ≡ pos (m * i) = omega (arith, ints) in
    inl (subst (λ (z : ℤ). IsWithin (pos 0) (pos m) (floor_div z n)) (sym e) (omega (arith, ints), omega (arith, ints, part_of m i n within)))
gone (negsuc m) zero n within =
    let e : negsuc m *ℤ pos zero ≡ pos 0 = omega (arith, ints) in
    inr (subst (λ (z : ℤ). IsWithin (negsuc m) (pos 0) (floor_div z n)) (sym e) (omega (arith, ints), omega (arith, ints)))
gone (negsuc m) (suc j) n within =
    let e : negsuc m *ℤ pos (suc j) ≡ negsuc (suc m * suc j - 1) = omega (arith, ints) in
    inr (subst (λ (z : ℤ). IsWithin (negsuc m) (pos 0) (floor_div z n)) (sym e) (omega (arith, ints, part_below m j n within), omega (arith, ints)))

pub between_limits : (a b : ℤ) (i n : ℕ) → i ≤ n → (low high : ℤ) → IsWithin low high a → IsWithin low high b → IsWithin low high (place_between a b i n)
between_limits a b i n within low high x y =
    elim (gone (b -ℤ a) i n within) [ inl h ↦ (omega (arith, ints), omega (arith, ints)) | inr h ↦ (omega (arith, ints), omega (arith, ints)) ]

-- the distance that was gone is no longer than the whole
pub gone_limits : (d : ℤ) (i n : ℕ) → i ≤ n → (low high : ℤ) → low ≤ℤ pos 0 → pos 0 ≤ℤ high → IsWithin low high d → IsWithin low high (floor_div (d *ℤ pos i) n)
gone_limits d i n within low high l h x =
    elim (gone d i n within) [ inl y ↦ (omega (arith, ints), omega (arith, ints)) | inr y ↦ (omega (arith, ints), omega (arith, ints)) ]

-- a camera on the way between two that are within their limits is too
pub between_camera : (a b : Camera) (i n : ℕ) → i ≤ n → IsCamera a → IsCamera b → IsCamera (camera_on_way a b n i)
unfolding camera_on_way
between_camera a b i n within x y =
    let u = between_limits a.u b.u i n within (negsuc 2147483647) (pos 2147483648) (x.u_low, x.u_high) (y.u_low, y.u_high) in
    let v = between_limits a.v b.v i n within (negsuc 2147483647) (pos 2147483648) (x.v_low, x.v_high) (y.v_low, y.v_high) in
    let h = between_limits a.h b.h i n within (pos 1) (pos 16777216) (x.h_low, x.h_high) (y.h_low, y.h_high) in
    let c = between_limits a.c b.c i n within (negsuc 16383) (pos 16384) (x.c_low, x.c_high) (y.c_low, y.c_high) in
    let s = between_limits a.s b.s i n within (negsuc 16383) (pos 16384) (x.s_low, x.s_high) (y.s_low, y.s_high) in
    record { u_low = u.0; u_high = u.1; v_low = v.0; v_high = v.1; h_low = h.0; h_high = h.1; c_low = c.0; c_high = c.1; s_low = s.0; s_high = s.1 }

abbrev pub made : ℤ → ℤ → ℤ → ℤ → ℤ → Camera
made u v h c s = record { u = u; v = v; h = h; c = c; s = s }

-- a number between two that stand as their bits
plain : (a b r : ℤ) (i n : ℕ) → IsWithin (negsuc 2147483647) (pos 2147483648) a → IsWithin (negsuc 2147483647) (pos 2147483648) b → i ≤ n
    → r ≡ place_between (to_z w64 (of_z w64 a)) (to_z w64 (of_z w64 b)) i n → to_z w64 (of_z w64 r) ≡ place_between a b i n
plain a b r i n wa wb within e =
    let is : r ≡ place_between a b i n =
    e ∙ ap (λ (z : ℤ). place_between z (to_z w64 (of_z w64 b)) i n) (back a wa)
    ∙ ap (λ (z : ℤ). place_between a z i n) (back b wb) in
    ap (λ (z : ℤ). to_z w64 (of_z w64 z)) is ∙ back (place_between a b i n) (between_limits a b i n within (negsuc 2147483647) (pos 2147483648) wa wb)

-- the numbers between two cameras, where all stand as their bits, make the camera on the way
pub made_way : (a b : Camera) (i n : ℕ) (u v h c s : ℤ) → i ≤ n → IsCamera a → IsCamera b
    → u ≡ place_between (to_z w64 (of_z w64 a.u)) (to_z w64 (of_z w64 b.u)) i n → v ≡ place_between (to_z w64 (of_z w64 a.v)) (to_z w64 (of_z w64 b.v)) i n
    → h ≡ place_between (to_z w64 (of_z w64 a.h)) (to_z w64 (of_z w64 b.h)) i n → c ≡ place_between (to_z w64 (of_z w64 a.c)) (to_z w64 (of_z w64 b.c)) i n
    → s ≡ place_between (to_z w64 (of_z w64 a.s)) (to_z w64 (of_z w64 b.s)) i n
    → made (to_z w64 (of_z w64 u)) (to_z w64 (of_z w64 v)) (to_z w64 (of_z w64 h)) (to_z w64 (of_z w64 c)) (to_z w64 (of_z w64 s)) ≡ camera_on_way a b n i
unfolding camera_on_way
made_way a b i n u v h c s within x y eu ev eh ec es =
    let bits : ℤ → ℤ = λ (z : ℤ). to_z w64 (of_z w64 z) in
    let fu : bits u ≡ place_between a.u b.u i n = plain a.u b.u u i n (x.u_low, x.u_high) (y.u_low, y.u_high) within eu in
    let fv : bits v ≡ place_between a.v b.v i n = plain a.v b.v v i n (x.v_low, x.v_high) (y.v_low, y.v_high) within ev in
    let fh : bits h ≡ place_between a.h b.h i n =
    plain a.h b.h h i n (omega (arith, ints, x.h_low), omega (arith, ints, x.h_high)) (omega (arith, ints, y.h_low), omega (arith, ints, y.h_high)) within eh in
    let fc : bits c ≡ place_between a.c b.c i n =
    plain a.c b.c c i n (omega (arith, ints, x.c_low), omega (arith, ints, x.c_high)) (omega (arith, ints, y.c_low), omega (arith, ints, y.c_high)) within ec in
    let fs : bits s ≡ place_between a.s b.s i n =
    plain a.s b.s s i n (omega (arith, ints, x.s_low), omega (arith, ints, x.s_high)) (omega (arith, ints, y.s_low), omega (arith, ints, y.s_high)) within es in
    ap (λ z. made z (bits v) (bits h) (bits c) (bits s)) fu ∙ ap (λ z. made (place_between a.u b.u i n) z (bits h) (bits c) (bits s)) fv
    ∙ ap (λ z. made (place_between a.u b.u i n) (place_between a.v b.v i n) z (bits c) (bits s)) fh
    ∙ ap (λ z. made (place_between a.u b.u i n) (place_between a.v b.v i n) (place_between a.h b.h i n) z (bits s)) fc
    ∙ ap (λ z. made (place_between a.u b.u i n) (place_between a.v b.v i n) (place_between a.h b.h i n) (place_between a.c b.c i n) z) fs

-- one more camera of a way
pub one_more : (old now new : List Camera) (x : Camera) (f : ℕ → Camera) (k : ℕ)
    → now ≡ old ++ map f (range_with_len 1 k) → new ≡ now ++ x ∷ [] → x ≡ f (k + 1)
    → new ≡ old ++ map f (range_with_len 1 (k + 1))
one_more old now new x f k e g h =
    g ∙ ap (λ xs. xs ++ x ∷ []) e ∙ append_assoc old (map f (range_with_len 1 k)) (x ∷ []) ∙ ap (λ y. old ++ (map f (range_with_len 1 k) ++ y ∷ [])) h
    ∙ ap (λ xs. old ++ xs) (sym (map-range_with_len_more f 1 k (k + 1) (omega arith)))

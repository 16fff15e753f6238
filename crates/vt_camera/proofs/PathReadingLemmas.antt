-- What the steps of the reading of a path find.
use Rattle.std.proofs.Common.{◌≡◌, ◌≢◌, ℕ, ◌+◌, ◌^◌, ◌<◌, ◌≤◌, List, [], ◌∷◌, sym, ap, ◌∙◌, subst, arith, rules, ℤ, pos, negsuc, Option, Some, None, slice_get, codes, w64, to_z, of_z, FitsSigned, ◌≤ℤ◌, MatchOption}
use Rattle.std.proofs.lemmas.Int.{ints, to_z-of_z}
use Rattle.vt_text.specs.Limits.{most_focal}
use Rattle.vt_text.specs.Numbers.{number_spelling, spelling, IsWithin}
use Rattle.vt_text.specs.Lines.{fields_of}
use Rattle.vt_camera.specs.declared.paths.Camera.{Camera}
use Rattle.vt_camera.specs.Paths.{IsCamera}
use Rattle.vt_camera.specs.PathText.{camera_fields, way_fields}
use Rattle.vt_camera.specs.PathFlaws.{IsFocalLine}
use Rattle.vt_camera.specs.PathReading.{AreNumbersAt, IsNaturalAt}

-- a list by what is at its places
pub list_of_two : (xs : List (List ℕ)) (a b : List ℕ) → slice_get xs 0 ≡ Some a → slice_get xs 1 ≡ Some b → slice_get xs 2 ≡ None → xs ≡ a ∷ b ∷ []
list_of_two [] a b e f g = cc
list_of_two (x ∷ []) a b e f g = cc
list_of_two (x ∷ y ∷ []) a b e f g = cc
list_of_two (x ∷ y ∷ z ∷ xs) a b e f g = cc

pub list_of_three : (xs : List (List ℕ)) (a b c : List ℕ) → slice_get xs 0 ≡ Some a → slice_get xs 1 ≡ Some b
    → slice_get xs 2 ≡ Some c → slice_get xs 3 ≡ None → xs ≡ a ∷ b ∷ c ∷ []
list_of_three [] a b c e f g h = cc
list_of_three (x ∷ xs) a b c e f g h = let t = list_of_two xs b c f g h in let x' : x ≡ a = cc in cc

pub list_of_six : (xs : List (List ℕ)) (a b c d e f : List ℕ) → slice_get xs 0 ≡ Some a → slice_get xs 1 ≡ Some b
    → slice_get xs 2 ≡ Some c → slice_get xs 3 ≡ Some d → slice_get xs 4 ≡ Some e → slice_get xs 5 ≡ Some f
    → slice_get xs 6 ≡ None → xs ≡ a ∷ b ∷ c ∷ d ∷ e ∷ f ∷ []
list_of_six [] a b c d e f g h i j k l m = cc
list_of_six (x ∷ []) a b c d e f g h i j k l m = cc
list_of_six (x ∷ y ∷ []) a b c d e f g h i j k l m = cc
list_of_six (x ∷ y ∷ z ∷ xs) a b c d e f g h i j k l m =
    let t = list_of_three xs d e f j k l m in let x' : x ≡ a = cc in let y' : y ≡ b = cc in let z' : z ≡ c = cc in cc

pub list_of_seven : (xs : List (List ℕ)) (a b c d e f g : List ℕ) → slice_get xs 0 ≡ Some a → slice_get xs 1 ≡ Some b
    → slice_get xs 2 ≡ Some c → slice_get xs 3 ≡ Some d → slice_get xs 4 ≡ Some e → slice_get xs 5 ≡ Some f
    → slice_get xs 6 ≡ Some g → slice_get xs 7 ≡ None → xs ≡ a ∷ b ∷ c ∷ d ∷ e ∷ f ∷ g ∷ []
list_of_seven [] a b c d e f g h i j k l m n o = cc
list_of_seven (x ∷ xs) a b c d e f g h i j k l m n o =
    let t = list_of_six xs b c d e f g i j k l m n o in let x' : x ≡ a = cc in cc

-- where no integer from 1 up to a limit stands, no natural number does
pub no_natural : (line : List ℕ) (i most : ℕ) (top : ℤ) → pos most ≤ℤ top
    → ((z : ℤ) → IsWithin (pos 1) top z → slice_get (fields_of line) i ≢ Some (spelling z)) → (n : ℕ) → 1 ≤ n
    → n ≤ most → slice_get (fields_of line) i ≢ Some (number_spelling n)
no_natural line i most top limit none n low high = none (pos n) (omega (arith, ints), omega (arith, ints, limit))

-- the focal number of a line, or none
pub focal_read : (line : List ℕ) (found : Option ℕ) → slice_get (fields_of line) 0 ≡ Some (codes "focal")
    → slice_get (fields_of line) 2 ≡ None → IsNaturalAt line 1 most_focal found
    → MatchOption found ((focal : ℕ) → ¬ IsFocalLine line focal) (λ focal. IsFocalLine line focal)
focal_read line None word end h = λ focal is. h focal is.0.0 is.0.1 (ap (λ xs. slice_get xs 1) is.1)
focal_read line (Some n) word end h = ((h.0, h.1), list_of_two (fields_of line) (codes "focal") (number_spelling n) word h.2 end)

-- a number within the limits of a place fits 64 bits
pub back : (z : ℤ) → IsWithin (negsuc 2147483647) (pos 2147483648) z → to_z w64 (of_z w64 z) ≡ z
back (pos n) within = let small : n < 2 ^ 63 = omega (arith, ints, within.1) in let fits : FitsSigned w64 (pos n) = search rules in to_z-of_z w64 (pos n) fits
back (negsuc n) within =
    let small : n < 2 ^ 63 = omega (arith, ints, within.0) in let fits : FitsSigned w64 (negsuc n) = search rules in to_z-of_z w64 (negsuc n) fits

abbrev made : ℤ → ℤ → ℤ → ℤ → ℤ → Camera
made u v h c s = record { u = u; v = v; h = h; c = c; s = s }

-- a camera of numbers that stand as their bits and back
pub camera_read : (line : List ℕ) (i : ℕ) (u v h c s : ℤ)
    → IsWithin (negsuc 2147483647) (pos 2147483648) u × (slice_get (fields_of line) i ≡ Some (spelling u))
    → IsWithin (negsuc 2147483647) (pos 2147483648) v × (slice_get (fields_of line) (i + 1) ≡ Some (spelling v))
    → IsWithin (pos 1) (pos 16777216) h × (slice_get (fields_of line) (i + 2) ≡ Some (spelling h))
    → IsWithin (negsuc 16383) (pos 16384) c × (slice_get (fields_of line) (i + 3) ≡ Some (spelling c))
    → IsWithin (negsuc 16383) (pos 16384) s × (slice_get (fields_of line) (i + 4) ≡ Some (spelling s))
    → let camera : Camera =
    made (to_z w64 (of_z w64 u)) (to_z w64 (of_z w64 v)) (to_z w64 (of_z w64 h)) (to_z w64 (of_z w64 c)) (to_z w64 (of_z w64 s)) in
    IsCamera camera × AreNumbersAt line i camera
camera_read line i u v h c s (wu, eu) (wv, ev) (wh, eh) (wc, ec) (ws, es) =
    let bu = back u wu in
    let bv = back v wv in
    let bh = back h (omega (arith, ints, wh.0), omega (arith, ints, wh.1)) in
    let bc = back c (omega (arith, ints, wc.0), omega (arith, ints, wc.1)) in
    let bs = back s (omega (arith, ints, ws.0), omega (arith, ints, ws.1)) in
    let e : made (to_z w64 (of_z w64 u)) (to_z w64 (of_z w64 v)) (to_z w64 (of_z w64 h)) (to_z w64 (of_z w64 c)) (to_z w64 (of_z w64 s)) ≡ made u v h c s =
    ap (λ x. made x (to_z w64 (of_z w64 v)) (to_z w64 (of_z w64 h)) (to_z w64 (of_z w64 c)) (to_z w64 (of_z w64 s))) bu
    ∙ ap (λ x. made u x (to_z w64 (of_z w64 h)) (to_z w64 (of_z w64 c)) (to_z w64 (of_z w64 s))) bv
    ∙ ap (λ x. made u v x (to_z w64 (of_z w64 c)) (to_z w64 (of_z w64 s))) bh
    ∙ ap (λ x. made u v h x (to_z w64 (of_z w64 s))) bc ∙ ap (λ x. made u v h c x) bs in
    subst (λ (camera : Camera). IsCamera camera × AreNumbersAt line i camera) (sym e) (
      record {
        u_low = wu.0;
        u_high = wu.1;
        v_low = wv.0;
        v_high = wv.1;
        h_low = wh.0;
        h_high = wh.1;
        c_low = wc.0;
        c_high = wc.1;
        s_low = ws.0;
        s_high = ws.1;
      },
      record { u = eu; v = ev; h = eh; c = ec; s = es },
    )

-- the fields of a line whose numbers are from its second field on
pub camera_line : (line : List ℕ) (camera : Camera) → slice_get (fields_of line) 0 ≡ Some (codes "at")
    → slice_get (fields_of line) 6 ≡ None → AreNumbersAt line 1 camera → fields_of line ≡ camera_fields camera
camera_line line camera word end n =
    list_of_six (fields_of line) (codes "at") (spelling camera.u) (spelling camera.v) (spelling camera.h)
    (spelling camera.c) (spelling camera.s) word n.u n.v n.h n.c n.s end

pub numbers_of_camera_line : (line : List ℕ) (camera : Camera) → fields_of line ≡ camera_fields camera → AreNumbersAt line 1 camera
numbers_of_camera_line line camera e =
    record {
      u = ap (λ xs. slice_get xs 1) e;
      v = ap (λ xs. slice_get xs 2) e;
      h = ap (λ xs. slice_get xs 3) e;
      c = ap (λ xs. slice_get xs 4) e;
      s = ap (λ xs. slice_get xs 5) e;
    }

-- the same from the third field on
pub way_line : (line : List ℕ) (n : ℕ) (camera : Camera) → slice_get (fields_of line) 0 ≡ Some (codes "to")
    → slice_get (fields_of line) 7 ≡ None → slice_get (fields_of line) 1 ≡ Some (number_spelling n)
    → AreNumbersAt line 2 camera → fields_of line ≡ way_fields n camera
way_line line n camera word end e m =
    list_of_seven (fields_of line) (codes "to") (number_spelling n) (spelling camera.u) (spelling camera.v)
    (spelling camera.h) (spelling camera.c) (spelling camera.s) word e m.u m.v m.h m.c m.s end

-- the camera of such a line, or none
pub camera_found : (line : List ℕ) (found : Option Camera) → slice_get (fields_of line) 0 ≡ Some (codes "at") → slice_get (fields_of line) 6 ≡ None
    → MatchOption found ((camera : Camera) → IsCamera camera → ¬ AreNumbersAt line 1 camera) (λ camera. IsCamera camera × AreNumbersAt line 1 camera)
    → MatchOption found ((camera : Camera) → IsCamera camera → fields_of line ≢ camera_fields camera)
    (λ camera. IsCamera camera × (fields_of line ≡ camera_fields camera))
camera_found line None word end h = λ camera within e. h camera within (numbers_of_camera_line line camera e)
camera_found line (Some camera) word end h = (h.0, camera_line line camera word end h.1)

-- Where the ground's places lie on a texture that repeats, and how large the numbers on the way get.
use Rattle.std.proofs.Common.{◌≡◌, ℕ, ◌+◌, ◌*◌, ◌/◌, ◌%◌, ◌<◌, ◌≤◌, ℤ, pos, negsuc, ◌+ℤ◌, ◌-ℤ◌, ◌*ℤ◌, refl, sym, ap, ◌∙◌, arith}
use Rattle.std.proofs.Common.{to_z, of_z, to_z-of_z, FitsSigned}
use Rattle.std.specs.Prelude.{◌≤ℤ◌, unsigned_abs}
use Rattle.std.specs.Int.{Width, w64}
use Rattle.std.proofs.lemmas.Int.{ints, int_rem_euclid_is, unsigned_abs-mul}
use Rattle.std.proofs.lemmas.Nat.{mul-le}
use Rattle.vt_camera.specs.declared.rows.Axis.{Axis}
use Rattle.vt_camera.specs.declared.paths.Camera.{Camera}
use Rattle.vt_camera.specs.Rows.{floor_div, ring_place, off_middle, distance, span, ground_u, ground_v, camera_place, camera_spot}
use Rattle.vt_camera.specs.RowParts.{whole_turns, middle_of, IsAxis}

pub ring_place_below : (z : ℤ) (n : ℕ) → 1 ≤ n → ring_place z n < n
ring_place_below (pos a) n some = omega arith
ring_place_below (negsuc a) n some = omega arith

-- a floor of whole turns more is that many texels more
floor_of_turns : (z : ℤ) (t m : ℕ) → z +ℤ pos (256 * t) ≡ pos m → floor_div z 256 +ℤ pos t ≡ pos (m / 256)
floor_of_turns (pos a) t m e = omega (arith, ints)
floor_of_turns (negsuc a) t m e = omega (arith, ints)

-- whole turns more lead to the same texel
pub same_texel : (z : ℤ) (k side m : ℕ) → 1 ≤ side → z +ℤ pos (k * (256 * side)) ≡ pos m → ring_place (floor_div z 256) side ≡ m / 256 % side
same_texel z k side m some e =
    let turns : z +ℤ pos (256 * (k * side)) ≡ pos m = omega (arith, ints) in
    ap unsigned_abs (int_rem_euclid_is (floor_div z 256) (pos side) side k (m / 256) some refl (floor_of_turns z (k * side) m turns))

natural : (z : ℤ) → pos 0 ≤ℤ z → z ≡ pos (unsigned_abs z)
natural z h = omega (arith, ints)

-- the same, where the place further on is not written as a natural number
pub same_texel_further : (z w : ℤ) (k side : ℕ) → 1 ≤ side → z +ℤ pos (k * (256 * side)) ≡ w → pos 0 ≤ℤ w
    → ring_place (floor_div w 256) side ≡ ring_place (floor_div z 256) side
same_texel_further z w k side some e positive =
    let m : w ≡ pos (unsigned_abs w) = natural w positive in
    let none : w +ℤ pos (0 * (256 * side)) ≡ pos (unsigned_abs w) = omega (arith, ints) in
    same_texel w 0 side (unsigned_abs w) some none ∙ sym (same_texel z k side (unsigned_abs w) some (e ∙ m))

pub product_at_most : (a b : ℤ) (m n : ℕ) → unsigned_abs a ≤ m → unsigned_abs b ≤ n → unsigned_abs (a *ℤ b) ≤ m * n
product_at_most a b m n f g = omega (arith, unsigned_abs-mul a b, mul-le (unsigned_abs a) (unsigned_abs b) m n f g)

-- how far a pixel can lie from the row's middle
pub away_fits : (off across : ℤ) → negsuc 2046 ≤ℤ off → off ≤ℤ pos 2047 → negsuc 274877906943 ≤ℤ across
    → across ≤ℤ pos 274877906944 → unsigned_abs (off *ℤ across) ≤ 562675075514368
away_fits off across a b c d =
    let f : unsigned_abs off ≤ 2047 = omega (arith, ints) in
    let g : unsigned_abs across ≤ 274877906944 = omega (arith, ints) in
    product_at_most off across 2047 274877906944 f g

-- a product of numbers that fit
pub product_value : (w : Width) (a b : ℤ) → FitsSigned w a → FitsSigned w b → FitsSigned w (a *ℤ b)
    → to_z w (of_z w (to_z w (of_z w a) *ℤ to_z w (of_z w b))) ≡ a *ℤ b
product_value w a b f g h =
    ap (λ (x : ℤ). to_z w (of_z w (x *ℤ to_z w (of_z w b)))) (to_z-of_z f)
    ∙ ap (λ (x : ℤ). to_z w (of_z w (a *ℤ x))) (to_z-of_z g)
    ∙ to_z-of_z h

minus_turns : (place far step step' turns middle u : ℤ) → middle ≡ place +ℤ far +ℤ turns → step ≡ step'
    → u ≡ middle -ℤ step → place +ℤ far -ℤ step' +ℤ turns ≡ u
minus_turns place far step step' turns middle u e f g = omega (arith, ints)

plus_turns : (place far step step' turns middle v : ℤ) → middle ≡ place +ℤ far +ℤ turns → step ≡ step' → v ≡ middle +ℤ step → place +ℤ far +ℤ step' +ℤ turns ≡ v
plus_turns place far step step' turns middle v e f g = omega (arith, ints)

-- the floor of a place before a middle is the middle less a floor
before_middle : (middle t w : ℤ) → pos 0 ≤ℤ w → w ≡ middle *ℤ pos 32768 +ℤ pos 32767 -ℤ t → floor_div w 32768 ≡ middle -ℤ floor_div t 32768
before_middle middle (pos a) (pos n) some e = omega (arith, ints)
before_middle middle (negsuc a) (pos n) some e = omega (arith, ints)
before_middle middle t (negsuc n) some e = absurd (let no : ⊥ = omega (arith, ints) in no)

-- and of one beyond it, the middle and a floor
beyond_middle : (middle t w : ℤ) → pos 0 ≤ℤ w → w ≡ middle *ℤ pos 32768 +ℤ t → floor_div w 32768 ≡ middle +ℤ floor_div t 32768
beyond_middle middle (pos a) (pos n) some e = omega (arith, ints)
beyond_middle middle (negsuc a) (pos n) some e = omega (arith, ints)
beyond_middle middle t (negsuc n) some e = absurd (let no : ⊥ = omega (arith, ints) in no)

-- the code's sum for the column leads to the texel of the definition
column_is : (width focal : ℕ) (camera : Camera) (x y columns rows : ℕ) (middle step u : ℤ) → 1 ≤ columns
    → middle ≡ middle_of camera.u (distance focal camera y) camera.c columns
    → step ≡ floor_div (off_middle width x *ℤ (pos (span camera y) *ℤ camera.s)) 32768
    → u ≡ middle -ℤ step → pos 0 ≤ℤ u → ring_place (floor_div u 256) columns ≡ (camera_place width focal camera x y columns rows).0
unfolding camera_place ground_u
column_is width focal camera x y columns rows middle step u some e f g positive =
    same_texel_further _ u (1073741824 / columns + 1) columns some
    (minus_turns camera.u (floor_div (pos (distance focal camera y) *ℤ camera.c) 16384) step _ (pos (whole_turns columns)) middle u e f g) positive

-- and likewise for the row
row_is : (width focal : ℕ) (camera : Camera) (x y columns rows : ℕ) (middle step v : ℤ) → 1 ≤ rows
    → middle ≡ middle_of camera.v (distance focal camera y) camera.s rows
    → step ≡ floor_div (off_middle width x *ℤ (pos (span camera y) *ℤ camera.c)) 32768
    → v ≡ middle +ℤ step → pos 0 ≤ℤ v → ring_place (floor_div v 256) rows ≡ (camera_place width focal camera x y columns rows).1
unfolding camera_place ground_v
row_is width focal camera x y columns rows middle step v some e f g positive =
    same_texel_further _ v (1073741824 / rows + 1) rows some
    (plus_turns camera.v (floor_div (pos (distance focal camera y) *ℤ camera.s) 16384) step _ (pos (whole_turns rows)) middle v e f g) positive

-- the texel of the whole places of the code's sum for the column
pub column_shown : (width focal : ℕ) (camera : Camera) (x y columns rows : ℕ) (middle away place : ℤ) (u : ℕ) → 1 ≤ columns
    → middle ≡ middle_of camera.u (distance focal camera y) camera.c columns *ℤ pos 32768 +ℤ pos 32767
    → away ≡ off_middle width x *ℤ (pos (span camera y) *ℤ camera.s)
    → place ≡ middle -ℤ away → pos 0 ≤ℤ place → pos u ≡ floor_div place 32768 → u / 256 % columns ≡ (camera_place width focal camera x y columns rows).0
column_shown width focal camera x y columns rows middle away place u some e f g positive whole =
    column_is width focal camera x y columns rows (middle_of camera.u (distance focal camera y) camera.c columns)
    (floor_div away 32768) (pos u) some refl (ap (λ (z : ℤ). floor_div z 32768) f)
    (whole ∙ before_middle (middle_of camera.u (distance focal camera y) camera.c columns) away place positive (g ∙ ap (λ (z : ℤ). z -ℤ away) e)) (omega (
      arith,
      ints,
    ))

-- and of the sum for the row
pub row_shown : (width focal : ℕ) (camera : Camera) (x y columns rows : ℕ) (middle away place : ℤ) (v : ℕ) → 1 ≤ rows
    → middle ≡ middle_of camera.v (distance focal camera y) camera.s rows *ℤ pos 32768
    → away ≡ off_middle width x *ℤ (pos (span camera y) *ℤ camera.c)
    → place ≡ middle +ℤ away → pos 0 ≤ℤ place → pos v ≡ floor_div place 32768 → v / 256 % rows ≡ (camera_place width focal camera x y columns rows).1
row_shown width focal camera x y columns rows middle away place v some e f g positive whole =
    row_is width focal camera x y columns rows (middle_of camera.v (distance focal camera y) camera.s rows)
    (floor_div away 32768) (pos v) some refl (ap (λ (z : ℤ). floor_div z 32768) f)
    (whole ∙ beyond_middle (middle_of camera.v (distance focal camera y) camera.s rows) away place positive (g ∙ ap (λ (z : ℤ). z +ℤ away) e)) (omega (
      arith,
      ints,
    ))

-- whole turns more lead to the same place on the ring
same_spot : (z : ℤ) (k n m : ℕ) → 1 ≤ n → z +ℤ pos (k * n) ≡ pos m → m % n ≡ ring_place z n
same_spot z k n m some e = sym (ap unsigned_abs (int_rem_euclid_is z (pos n) n k m some refl e))

-- the place on the ring of the whole places of the code's sum for the column
pub column_spot : (width focal : ℕ) (camera : Camera) (x y columns rows : ℕ) (middle away place : ℤ) (u : ℕ) → 1 ≤ columns
    → middle ≡ middle_of camera.u (distance focal camera y) camera.c columns *ℤ pos 32768 +ℤ pos 32767
    → away ≡ off_middle width x *ℤ (pos (span camera y) *ℤ camera.s)
    → place ≡ middle -ℤ away → pos 0 ≤ℤ place → pos u ≡ floor_div place 32768
    → u % (256 * columns) ≡ (camera_spot width focal camera x y columns rows).0
unfolding camera_spot ground_u
column_spot width focal camera x y columns rows middle away place u some e f g positive whole =
    same_spot _ (1073741824 / columns + 1) (256 * columns) u (omega arith)
    (minus_turns camera.u (floor_div (pos (distance focal camera y) *ℤ camera.c) 16384) (floor_div away 32768) _ (pos (whole_turns columns))
    (middle_of camera.u (distance focal camera y) camera.c columns) (pos u) refl (ap (λ (z : ℤ). floor_div z 32768) f)
    (whole ∙ before_middle (middle_of camera.u (distance focal camera y) camera.c columns) away place positive (g ∙ ap (λ (z : ℤ). z -ℤ away) e)))

-- and of the sum for the row
pub row_spot_is : (width focal : ℕ) (camera : Camera) (x y columns rows : ℕ) (middle away place : ℤ) (v : ℕ) → 1 ≤ rows
    → middle ≡ middle_of camera.v (distance focal camera y) camera.s rows *ℤ pos 32768
    → away ≡ off_middle width x *ℤ (pos (span camera y) *ℤ camera.c)
    → place ≡ middle +ℤ away → pos 0 ≤ℤ place → pos v ≡ floor_div place 32768
    → v % (256 * rows) ≡ (camera_spot width focal camera x y columns rows).1
unfolding camera_spot ground_v
row_spot_is width focal camera x y columns rows middle away place v some e f g positive whole =
    same_spot _ (1073741824 / rows + 1) (256 * rows) v (omega arith)
    (plus_turns camera.v (floor_div (pos (distance focal camera y) *ℤ camera.s) 16384) (floor_div away 32768) _ (pos (whole_turns rows))
    (middle_of camera.v (distance focal camera y) camera.s rows) (pos v) refl (ap (λ (z : ℤ). floor_div z 32768) f)
    (whole ∙ beyond_middle (middle_of camera.v (distance focal camera y) camera.s rows) away place positive (g ∙ ap (λ (z : ℤ). z +ℤ away) e)))

-- an axis is one of equal numbers
pub same_axis : (side level : ℕ) (middle middle' across across' : ℤ) (axis : Axis) → middle ≡ middle'
    → across ≡ across' → IsAxis side level middle across axis → IsAxis side level middle' across' axis
same_axis side level middle middle' across across' axis e f is = rw (← e, ← f) is

-- the code's middle is the definition's, where its numbers are
pub same_middle : (place place' direction direction' result : ℤ) (off side : ℕ) → result ≡ middle_of place off direction side
    → place ≡ place' → direction ≡ direction' → result ≡ middle_of place' off direction' side
same_middle place place' direction direction' result off side e f g =
    e ∙ ap (λ (p : ℤ). middle_of p off direction side) f ∙ ap (λ (d : ℤ). middle_of place' off d side) g

-- the bounds of an axis, and that its numbers fit
pub axis_middle_low : {side level : ℕ} {middle across : ℤ} {axis : Axis} → IsAxis side level middle across axis
    → pos 4503599627370496 ≤ℤ to_z w64 (of_z w64 axis.middle)
axis_middle_low is = omega (arith, ints, is.middle_is, is.middle_low, is.middle_high)

pub axis_middle_high : {side level : ℕ} {middle across : ℤ} {axis : Axis} → IsAxis side level middle across axis
    → to_z w64 (of_z w64 axis.middle) ≤ℤ pos 13510798882144255
axis_middle_high is = omega (arith, ints, is.middle_is, is.middle_low, is.middle_high)

pub axis_across_low : {side level : ℕ} {middle across : ℤ} {axis : Axis} → IsAxis side level middle across axis
    → negsuc 274877906943 ≤ℤ to_z w64 (of_z w64 axis.across)
axis_across_low is = omega (arith, ints, is.across_is, is.across_low, is.across_high)

pub axis_across_high : {side level : ℕ} {middle across : ℤ} {axis : Axis} → IsAxis side level middle across axis
    → to_z w64 (of_z w64 axis.across) ≤ℤ pos 274877906944
axis_across_high is = omega (arith, ints, is.across_is, is.across_low, is.across_high)

pub axis_middle : {side level : ℕ} {middle across : ℤ} {axis : Axis} → IsAxis side level middle across axis → to_z w64 (of_z w64 axis.middle) ≡ axis.middle
axis_middle is = omega (arith, ints, is.middle_is, is.middle_low, is.middle_high)

pub axis_across : {side level : ℕ} {middle across : ℤ} {axis : Axis} → IsAxis side level middle across axis → to_z w64 (of_z w64 axis.across) ≡ across
axis_across is = omega (arith, ints, is.across_is, is.across_low, is.across_high)

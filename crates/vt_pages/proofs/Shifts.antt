-- A tile side is the power of two whose exponent is the number of zero bits at its end.
use Rattle.std.proofs.Common.{◌≡◌, ℕ, Bool, true, false, refl, subst, arith}
use Rattle.std.specs.Prelude.{◌==◌, ◌||◌}
use Rattle.std.proofs.lemmas.Bool.Decides.{nat_tests}
use lib.Count.{count_trailing_zeros}
use Rattle.vt_definitions.specs.Tiles.{is_tile_side}
use Rattle.vt_pages.specs.Tables.{IsTileShift}

either : (a b : Bool) (P : Type 0) → (a ≡ true → P) → (b ≡ true → P) → (a || b) ≡ true → P
either true b P left right h = left refl
either false b P left right h = right h

-- a number has its exponent where it is one that has
same_side : (t m : ℕ) → IsTileShift m (count_trailing_zeros 32 m) → (t == m) ≡ true → IsTileShift t (count_trailing_zeros 32 t)
same_side t m is h =
    let e : m ≡ t = grind (arith, nat_tests) in
    subst (λ (n : ℕ). IsTileShift n (count_trailing_zeros 32 n)) e is

pub shift_of : (t : ℕ) → is_tile_side t ≡ true → IsTileShift t (count_trailing_zeros 32 t)
unfolding count_trailing_zeros
shift_of t =
    either _ _ _ (either _ _ _ (either _ _ _ (either _ _ _ (either _ _ _ (either _ _ _
    (same_side t 2 (record { lawful = refl; exponent = refl; power = refl; shift_inside = omega arith; least = omega arith; most = omega arith }))
    (same_side t 4 (record { lawful = refl; exponent = refl; power = refl; shift_inside = omega arith; least = omega arith; most = omega arith })))
    (same_side t 8 (record { lawful = refl; exponent = refl; power = refl; shift_inside = omega arith; least = omega arith; most = omega arith })))
    (same_side t 16 (record { lawful = refl; exponent = refl; power = refl; shift_inside = omega arith; least = omega arith; most = omega arith })))
    (same_side t 32 (record { lawful = refl; exponent = refl; power = refl; shift_inside = omega arith; least = omega arith; most = omega arith })))
    (same_side t 64 (record { lawful = refl; exponent = refl; power = refl; shift_inside = omega arith; least = omega arith; most = omega arith })))
    (same_side t 128 (record { lawful = refl; exponent = refl; power = refl; shift_inside = omega arith; least = omega arith; most = omega arith }))

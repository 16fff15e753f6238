-- The limits of a shape that is accepted.
use Rattle.std.proofs.Common.{◌≡◌, ℕ, ◌≤◌, Bool, true, false, Some, None, refl, arith}
use Rattle.std.specs.Prelude.{not, nat_le, ◌&&◌, if◌then◌else◌}
use Rattle.std.proofs.lemmas.Bool.Decides.{nat_tests}
use Rattle.vt_pages.specs.declared.PagesError.{PagesError}
use Rattle.vt_pages.specs.declared.PagesError.TheVariants.{BadTile, BadSide, TooManyPages}
use Rattle.vt_pages.specs.Limits.{most_tile_side, most_tiled_side, most_pages}
use Rattle.vt_pages.specs.Tiles.{is_tile_side}
use Rattle.vt_pages.specs.Shape.{Shape, is_texture_side}
use Rattle.vt_pages.specs.Pages.{pages_of, refusal_of}
use Rattle.vt_pages.proofs.Shifts.{shift_of}

-- the limits of an accepted shape that a header needs
pub record IsSmall (s : Shape) : Type 0 where
  pub some_tile : 1 ≤ s.tile
  pub few_tile : s.tile ≤ most_tile_side
  pub few_columns : s.width ≤ most_tiled_side
  pub few_rows : s.height ≤ most_tiled_side

passed : (a b c : Bool) (x y z : PagesError)
    → (if not a then Some x else (if not b then Some y else (if c then None else Some z))) ≡ None → (a ≡ true) × (b ≡ true)
passed false b c x y z h = let no : ⊥ = cc in absurd no
passed true false c x y z h = let no : ⊥ = cc in absurd no
passed true true c x y z h = (refl, refl)

both : (a b : Bool) → (a && b) ≡ true → (a ≡ true) × (b ≡ true)
both true b h = (refl, h)
both false b h = let no : ⊥ = cc in absurd no

test_le : (n m : ℕ) → nat_le n m ≡ true → n ≤ m
test_le n m h = grind (arith, nat_tests)

pub accepted_small : (s : Shape) → refusal_of s ≡ None → IsSmall s
unfolding refusal_of
accepted_small s accepted =
    let is = passed (is_tile_side s.tile) (is_texture_side s.width && is_texture_side s.height)
    (nat_le (pages_of s) most_pages) BadTile BadSide (TooManyPages (pages_of s)) accepted in
    let tile = shift_of s.tile is.0 in
    let sides = both (is_texture_side s.width) (is_texture_side s.height) is.1 in
    let columns = both (nat_le 1 s.width) (nat_le s.width most_tiled_side) sides.0 in
    let rows = both (nat_le 1 s.height) (nat_le s.height most_tiled_side) sides.1 in
    record {
      some_tile = (let some = tile.least in omega (arith, some));
      few_tile = tile.most;
      few_columns = test_le s.width most_tiled_side columns.1;
      few_rows = test_le s.height most_tiled_side rows.1;
    }

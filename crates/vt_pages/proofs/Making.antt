-- What the calls that make a geometry find.
use Rattle.std.proofs.Common.{◌≡◌, ℕ, suc, ◌+◌, ◌-◌, ◌*◌, ◌^◌, ◌<◌, ◌≤◌, inl, inr, Bool, true, false, Some, None, refl, sym, subst, slice_index, arith}
use Rattle.std.proofs.lemmas.Bool.{cases_lt}
use Rattle.std.proofs.lemmas.Nat.{mul-le}
use Rattle.std.proofs.lemmas.Bool.Decides.{nat_tests}
use Rattle.std.specs.Prelude.{nat_le, ◌&&◌, IsTrue}
use Rattle.vt_definitions.specs.Limits.{most_tiled_side, most_pages, most_levels}
use Rattle.vt_definitions.specs.Sides.{side}
use Rattle.vt_definitions.specs.Tiles.{is_tile_side}
use Rattle.vt_pages.specs.declared.PagesError.TheVariants.{BadTile, BadSide, TooManyPages}
use Rattle.vt_pages.specs.declared.tables.Tables.{Tables}
use Rattle.vt_pages.specs.Shape.{Shape, is_texture_side}
use Rattle.vt_pages.specs.Tables.{IsTabled, IsTileShift, IsFirstFit}
use Rattle.vt_pages.specs.Pages.{columns_at, rows_at, levels_of, pages_of, refusal_of, IsWithinLimits}
use Rattle.vt_pages.proofs.Counts.{levels_count, side_halved, columns_most, rows_most, pages_below-suc, pages_below_le, columns_some, rows_some, pages_below_most}

true_is : (b : Bool) → b ≡ true → IsTrue b
true_is b e = e

pub refusal_tile : (s : Shape) → is_tile_side s.tile ≡ false → refusal_of s ≡ Some BadTile
unfolding refusal_of
refusal_tile s e = rw e refl

pub refusal_side : (s : Shape) → is_tile_side s.tile ≡ true → (is_texture_side s.width && is_texture_side s.height) ≡ false → refusal_of s ≡ Some BadSide
unfolding refusal_of
refusal_side s e f = rw (e, f) refl

pub refusal_pages : (s : Shape) → is_tile_side s.tile ≡ true
    → (is_texture_side s.width && is_texture_side s.height) ≡ true → most_pages < pages_of s
    → refusal_of s ≡ Some (TooManyPages (pages_of s))
unfolding refusal_of
refusal_pages s e f more = let g : nat_le (pages_of s) most_pages ≡ false = grind (arith, nat_tests) in rw (e, f, g) refl

pub refusal_none : (s : Shape) → is_tile_side s.tile ≡ true
    → (is_texture_side s.width && is_texture_side s.height) ≡ true → pages_of s ≤ most_pages → refusal_of s ≡ None
unfolding refusal_of
refusal_none s e f most = let g : nat_le (pages_of s) most_pages ≡ true = grind (arith, nat_tests) in rw (e, f, g) refl

record AreTextureSides (w h : ℕ) : Type 0 where
  pub least_width : 1 ≤ w
  pub most_width : w ≤ most_tiled_side
  pub least_height : 1 ≤ h
  pub most_height : h ≤ most_tiled_side

texture_sides : (w h : ℕ) → (is_texture_side w && is_texture_side h) ≡ true → AreTextureSides w h
texture_sides w h e =
    record {
      least_width = grind (arith, nat_tests);
      most_width = grind (arith, nat_tests);
      least_height = grind (arith, nat_tests);
      most_height = grind (arith, nat_tests);
    }

-- the level that the search ends at is the last of the chain
last_is : (s : Shape) (t : Tables) (last : ℕ) → 2 ≤ s.tile → AreTextureSides s.width s.height → IsTabled s t
    → IsFirstFit t s.tile last → last + 1 ≡ levels_of s
last_is s t last two sides tabled found =
    let inside = found.inside in
    let wide : s.width ≤ most_tiled_side = sides.most_width in
    let high : s.height ≤ most_tiled_side = sides.most_height in
    let count = levels_count s (omega arith) in
    let no_sooner : levels_of s - 1 < last → ⊥ = λ h. found.before (levels_of s - 1) h
    (rw (tabled.widths (levels_of s - 1) (omega arith)) count.last_width)
    (rw (tabled.heights (levels_of s - 1) (omega arith)) count.last_height) in
    let here : (side s.width last ≤ s.tile) × (side s.height last ≤ s.tile) =
    elim (cases_lt (last + 1) most_levels) [
      | inl within ↦ (rw (tabled.widths last inside) at (found.fits within).0, rw (tabled.heights last inside) at (found.fits within).1)
      | inr past ↦
          let e : last ≡ most_levels - 1 = omega arith in (
            rw e (omega (arith, side_halved s.width 2 (most_levels - 1) (omega arith))),
            rw e (omega (arith, side_halved s.height 2 (most_levels - 1) (omega arith))),
          )
    ] in
    let no_later : levels_of s ≤ last + 1 = count.least last here.0 here.1 in
    elim (cases_lt (levels_of s - 1) last) [ inl sooner ↦ absurd (no_sooner sooner) | inr from ↦ omega (arith, count.some) ]

-- its pages are the last of the chain
pages_is : (s : Shape) (t : Tables) (last : ℕ) → IsTabled s t → last < most_levels → last + 1 ≡ levels_of s
    → slice_index t.first last + slice_index t.rows last * slice_index t.columns last ≡ pages_of s
unfolding pages_of
pages_is s t last tabled inside e =
    let next : suc last ≡ levels_of s = omega arith in
    rw (tabled.first last inside, tabled.rows last inside, tabled.columns last inside, ← next) (sym (pages_below-suc s last))

pub pages_some : (s : Shape) → 1 ≤ s.tile → 1 ≤ s.width → 1 ≤ s.height → 1 ≤ pages_of s
unfolding pages_of
pages_some s some wide high =
    omega (
      arith,
      pages_below_le s 1 (levels_of s) (levels_count s some).some,
      pages_below-suc s 0,
      mul-le 1 1 (rows_at s 0) (columns_at s 0) (rows_some s 0 some high) (columns_some s 0 some wide),
    )

pages_most : (s : Shape) → 1 ≤ s.tile → s.width ≤ most_tiled_side → s.height ≤ most_tiled_side
    → levels_of s ≤ most_levels → pages_of s ≤ most_levels * (most_tiled_side * most_tiled_side)
unfolding pages_of
pages_most s some wide high levels =
    omega (arith, pages_below_most s (levels_of s) most_tiled_side some (omega arith) wide high)

-- what the calls that make the tables and search them found out
pub record IsMade (s : Shape) (t : Tables) (last : ℕ) : Type 0 where
  pub levels : last + 1 ≡ levels_of s
  pub few_levels : levels_of s ≤ most_levels
  pub product : slice_index t.rows last * slice_index t.columns last ≤ most_tiled_side * most_tiled_side
  pub pages : slice_index t.first last + slice_index t.rows last * slice_index t.columns last ≡ pages_of s
  pub few_pages : pages_of s ≤ most_levels * (most_tiled_side * most_tiled_side)

pub made : {s : Shape} {t : Tables} {last shift : ℕ} → IsTabled s t → IsFirstFit t s.tile last → IsTileShift s.tile shift
    → (is_texture_side s.width && is_texture_side s.height) ≡ true → IsMade s t last
made {s} {t} {last} tabled found power both =
    let sides = texture_sides s.width s.height both in
    let two = power.least in
    let some : 1 ≤ s.tile = omega (arith, two) in
    let levels = last_is s t last two sides tabled found in
    let few : levels_of s ≤ most_levels = omega (arith, found.inside) in
    let rows = rows_most s last most_tiled_side some (omega arith) sides.most_height in
    let columns = columns_most s last most_tiled_side some (omega arith) sides.most_width in
    record {
      levels = levels;
      few_levels = few;
      product = rw (tabled.rows last found.inside, tabled.columns last found.inside)
          (mul-le (rows_at s last) (columns_at s last) most_tiled_side most_tiled_side rows columns);
      pages = pages_is s t last tabled found.inside levels;
      few_pages = pages_most s some sides.most_width sides.most_height few;
    }

-- a shape that is not refused keeps the limits
pub limits_hold : (s : Shape) (shift : ℕ) → IsTileShift s.tile shift
    → (is_texture_side s.width && is_texture_side s.height) ≡ true → pages_of s ≤ most_pages
    → levels_of s ≤ most_levels → IsWithinLimits s
limits_hold s shift tile sides pages levels =
    let both = texture_sides s.width s.height sides in
    let some : 1 ≤ s.tile = omega (arith, tile.least) in
    record {
      accepted = refusal_none s tile.lawful sides pages;
      tile_side = true_is (is_tile_side s.tile) tile.lawful;
      tile_power = subst (λ e. s.tile ≡ 2 ^ e) tile.exponent tile.power;
      least_tile = tile.least;
      most_tile = tile.most;
      least_width = both.least_width;
      most_width = both.most_width;
      least_height = both.least_height;
      most_height = both.most_height;
      some_level = (levels_count s some).some;
      most_levels = levels;
      some_page = pages_some s some both.least_width both.least_height;
      most_pages = pages;
    }

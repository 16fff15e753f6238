-- The words of a tile.
use Rattle.std.proofs.Common.{◌≡◌, ℕ, ◌+◌, ◌-◌, ◌*◌, ◌/◌, ◌%◌, ◌<◌, ◌≤◌, length, get_or, refl, ◌∙◌, arith}
use Rattle.std.proofs.lemmas.List.FromFn.{length-map-range_with_len, get_or-map-range_with_len}
use Rattle.std.proofs.lemmas.Nat.{mul-add-lt, div-mul-add, mod-mul-add, mod_below, div-add-mod'}
use Rattle.std.specs.Prelude.{min}
use Rattle.vt_definitions.specs.Sides.{side}
use Rattle.vt_definitions.specs.Texels.{Source}
use Rattle.vt_pages.specs.Shape.{Shape}
use Rattle.vt_pages.specs.Pages.{name_at, texel_page, clamped_word, tile_words}
use Rattle.vt_pages.specs.Laws.{IsInside, TilesHoldPlaces}
use Rattle.vt_pages.proofs.Lines.{texel_name}

pub length-tile_words : (s : Shape) (src : Source) (p : ℕ) → length (tile_words s src p) ≡ s.tile * s.tile
unfolding tile_words
length-tile_words s src p = length-map-range_with_len _ 0 (s.tile * s.tile)

-- the word at a column and a row of a tile
pub get_or-tile_words : (s : Shape) (src : Source) (p c r : ℕ) → c < s.tile → r < s.tile
    → get_or (tile_words s src p) (r * s.tile + c) 0 ≡ clamped_word s src (name_at s p).level ((name_at s p).col * s.tile + c) ((name_at s p).row * s.tile + r)
unfolding tile_words
get_or-tile_words s src p c r wide high =
    get_or-map-range_with_len
    (λ i. clamped_word s src (name_at s p).level ((name_at s p).col * s.tile + i % s.tile) ((name_at s p).row * s.tile + i / s.tile))
    0 (s.tile * s.tile) (r * s.tile + c) (r * s.tile + c) 0 (mul-add-lt r s.tile c s.tile high wide) (omega arith)
    ∙ rw (mod-mul-add r s.tile c wide, div-mul-add r s.tile c wide) refl

-- inside the level nothing is clamped
inside_word : (s : Shape) (src : Source) (k x y : ℕ) → IsInside s k x y → clamped_word s src k x y ≡ src k x y
inside_word s src k x y h =
    let wide : min x (side s.width k - 1) ≡ x = omega (arith, h.1) in
    let high : min y (side s.height k - 1) ≡ y = omega (arith, h.2) in
    rw (wide, high) refl

tile_place : (s : Shape) (src : Source) (k x y : ℕ) → 1 ≤ s.tile → IsInside s k x y
    → get_or (tile_words s src (texel_page s k x y)) (y % s.tile * s.tile + x % s.tile) 0 ≡ src k x y
tile_place s src k x y some h =
    get_or-tile_words s src (texel_page s k x y) (x % s.tile) (y % s.tile) (mod_below x s.tile some) (mod_below y s.tile some)
    ∙ rw (texel_name s k x y some h, div-add-mod' x s.tile, div-add-mod' y s.tile) (inside_word s src k x y h)

pub tiles_hold_places : (s : Shape) → 1 ≤ s.tile → TilesHoldPlaces s
tiles_hold_places s some src k x y h = (length-tile_words s src (texel_page s k x y), tile_place s src k x y some h)

-- The levels of a chain as a list that grows to the last level.
use Rattle.std.proofs.Common.{◌≡◌, ℕ, zero, suc, ◌+◌, ◌-◌, ◌*◌, ◌/◌, ◌^◌, ◌<◌, ◌≤◌, ◌⊎◌, inl, inr, List, [], ◌∷◌, ◌++◌, length, get_or, refl, sym, ap, ◌∙◌, subst, arith}
use Rattle.std.specs.List.{slice_range}
use Rattle.std.proofs.lemmas.List.{get_or_read, get_or_push, get_or_append_left, length-append}
use Rattle.std.proofs.Math.Nat.{pow-succ'}
use Rattle.vt_ppm.specs.Depths.{AreBytes}
use Rattle.vt_ppm.specs.Limits.{most_levels}
use Rattle.vt_ppm.specs.Sides.{side, level_count}
use Rattle.vt_ppm.proofs.Levels.{level_count_least}
use Rattle.vt_ppm.specs.Image.{ImageView, IsLawfulImage}
use Rattle.vt_mip.specs.Levels.{IsLevel, GainsHalf, IsChainFront, IsLastFitting, IsWholeChain, level_at, no_image}
use Rattle.vt_mip.specs.Chains.{ChainView, chain_levels, chain_width, chain_height, chain_texel, IsTexelRow, IsTexelRaster}
use Rattle.vt_mip.proofs.Rasters.{texel_row_room}
use Rattle.vt_mip.proofs.Words.{first_level, next_level, texel_row, texel_raster}

-- a texture alone
pub front_first : (base : ImageView) (t : ℕ) → IsLawfulImage base → IsChainFront (base ∷ []) t
front_first base t lawful = record {
  some = omega arith;
  each = λ k below. (let none : k ≡ 0 = omega arith in let P : ℕ
      → Type 0 = λ j. IsLevel base j (level_at (base ∷ []) j) in subst P (sym none) (first_level base lawful));
  needed = λ k wide high. omega arith;
}

-- the level that is added
added_level : (levels : List ImageView) (next : ImageView) → level_at (levels ++ next ∷ []) (length levels) ≡ next
added_level levels next = get_or_push levels next no_image (length levels) refl

-- a level that was there
kept_level : (levels : List ImageView) (next : ImageView) (k : ℕ) → k < length levels → level_at (levels ++ next ∷ []) k ≡ level_at levels k
kept_level levels next k below = get_or_append_left levels (next ∷ []) no_image k below

grown : (levels : List ImageView) (next : ImageView) → length (levels ++ next ∷ []) ≡ length levels + 1
grown levels next = omega (arith, length-append levels (next ∷ []))

split : (k n : ℕ) → k < n + 1 → (k < n) ⊎ (k ≡ n)
split k n below = grind arith

same_or_more : (k n : ℕ) → 1 ≤ n → n ≤ k + 1 → (k ≡ n - 1) ⊎ (n + 1 ≤ k + 1)
same_or_more k n some below = grind arith

-- a level more, where the last does not fit into a tile
front_next : (levels : List ImageView) (next : ImageView) (t : ℕ) → IsChainFront levels t → (IsLastFitting levels t → ⊥)
    → IsLevel (level_at levels 0) (length levels) next → IsChainFront (levels ++ next ∷ []) t
front_next levels next t front large level = record {
  some = omega (arith, grown levels next);
  each = λ k below. each k (split k (length levels) (omega (arith, grown levels next)));
  needed = λ k wide high. needed k (rw first at wide) (rw first at high);
} where
  first : level_at (levels ++ next ∷ []) 0 ≡ level_at levels 0
  first = kept_level levels next 0 (omega (arith, front.some))

  each : (k : ℕ) → (k < length levels) ⊎ (k ≡ length levels) → IsLevel (level_at (levels ++ next ∷ []) 0) k (level_at (levels ++ next ∷ []) k)
  each k (inl below) = rw (first, kept_level levels next k below) (front.each k below)
  each k (inr same) = rw (same, first, added_level levels next) level

  last : IsLevel (level_at levels 0) (length levels - 1) (level_at levels (length levels - 1))
  last = front.each (length levels - 1) (omega (arith, front.some))

  needed : (k : ℕ) → side (level_at levels 0).width k ≤ t → side (level_at levels 0).height k ≤ t → length (levels ++ next ∷ []) ≤ k + 1
  needed k wide high = least (same_or_more k (length levels) front.some (front.needed k wide high)) where
    least : (k ≡ length levels - 1) ⊎ (length levels + 1 ≤ k + 1) → length (levels ++ next ∷ []) ≤ k + 1
    least (inl same) = absurd (large (record { columns = rw (last.columns, ← same) wide; rows = rw (last.rows, ← same) high }))
    least (inr more) = omega (arith, grown levels next)

-- the same for the half of the last level
pub front_more : (old new : List ImageView) (t : ℕ) → IsChainFront old t → (IsLastFitting old t → ⊥) → GainsHalf old new → IsChainFront new t
front_more old new t front large made =
    rw made.gained (front_next old made.next t front large
    (let last : IsLevel (level_at old 0) (suc (length old - 1)) made.next = next_level (level_at old 0) (length old - 1)
    (level_at old (length old - 1)) made.next (front.each (length old - 1) (omega (arith, front.some))) made.bytes made.half
    made.lawful in let same : suc (length old - 1) ≡ length old = omega (arith, front.some) in rw same at last))

-- the texture stays the first level
pub first_made : (old new : List ImageView) → 1 ≤ length old → GainsHalf old new → level_at new 0 ≡ level_at old 0
first_made old new some made = rw made.gained (kept_level old made.next 0 (omega arith))

-- the number of levels of a front whose last level fits into a tile
front_count : (levels : List ImageView) (t : ℕ) → 1 ≤ t → IsChainFront levels t → IsLastFitting levels t
    → length levels ≡ level_count (level_at levels 0).width (level_at levels 0).height t
front_count levels t some front fits =
    let last = front.each (length levels - 1) (omega (arith, front.some)) in
    let count = level_count_least (level_at levels 0).width (level_at levels 0).height t some in
    let up : level_count (level_at levels 0).width (level_at levels 0).height t ≤ length levels - 1 + 1 =
    count.least (length levels - 1) (let s : side (level_at levels 0).width (length levels - 1) ≤ t = omega
    (arith, last.columns, fits.columns) in s)
    (let s : side (level_at levels 0).height (length levels - 1) ≤ t = omega (arith, last.rows, fits.rows) in s) in
    let down : length levels ≤ level_count (level_at levels 0).width (level_at levels 0).height t - 1 + 1 =
    front.needed (level_count (level_at levels 0).width (level_at levels 0).height t - 1) count.last_width count.last_height in
    omega (arith, front.some, count.some)

-- a side of at most 2 ^ k * b is at most b after k halvings
pub side_scaled : (w k b : ℕ) → w ≤ 2 ^ k * b → side w k ≤ b
side_scaled w zero b small = omega arith
side_scaled w (suc k) b small = omega (
  arith,
  side_scaled w k (2 * b)
      (let e : 2 ^ suc k * b ≡ 2 * 2 ^ k * b = ap (λ (n : ℕ). n * b) (pow-succ' 2 k) in let s : w ≤ 2 ^ k * (2 * b) = omega arith in s),
)

-- fourteen levels suffice for the largest texture
front_few : (levels : List ImageView) (t : ℕ) → 1 ≤ t → IsChainFront levels t → length levels ≤ most_levels
front_few levels t some front =
    let base = front.each 0 (omega (arith, front.some)) in
    front.needed 13 (omega (arith, side_scaled (level_at levels 0).width 13 1 (omega (arith, base.lawful.few_columns))))
    (omega (arith, side_scaled (level_at levels 0).height 13 1 (omega (arith, base.lawful.few_rows))))

-- a front whose last level fits into a tile is the whole chain
pub front_whole : (levels : List ImageView) (t : ℕ) → 1 ≤ t → IsChainFront levels t → IsLastFitting levels t → IsWholeChain levels t
front_whole levels t some front fits = record {
  front = front;
  count = front_count levels t some front fits;
  few = front_few levels t some front;
}

-- the levels begin with the texture alone
pub front_alone : (base : ImageView) (t : ℕ) (levels : List ImageView) → IsLawfulImage base → levels ≡ base ∷ [] → IsChainFront levels t
front_alone base t levels lawful e = rw e (front_first base t lawful)

pub texture_alone : (base : ImageView) (levels : List ImageView) → levels ≡ base ∷ [] → level_at levels 0 ≡ base
texture_alone base levels e = ap (λ l. level_at l 0) e

-- the number of texels along both sides of the last level
abbrev pub last_sides : List ImageView → ℕ
last_sides levels = (level_at levels (length levels - 1)).width + (level_at levels (length levels - 1)).height

-- a level more is a smaller one
pub smaller : (old new : List ImageView) (t : ℕ) → 1 ≤ t → IsChainFront old t → (IsLastFitting old t → ⊥) → GainsHalf old new
    → last_sides new < last_sides old
smaller old new t some front large made =
    rw (made.gained, last) (halves old_last.lawful.some_columns old_last.lawful.some_rows made.half.columns made.half.rows
    (not_both (λ wide high. large (record { columns = wide; rows = high })))) where
      last : level_at (old ++ made.next ∷ []) (length (old ++ made.next ∷ []) - 1) ≡ made.next
      last = (let e : length (old ++ made.next ∷ []) - 1 ≡ length old = omega (arith, grown old made.next) in rw e (added_level old made.next))

      old_last : IsLevel (level_at old 0) (length old - 1) (level_at old (length old - 1))
      old_last = front.each (length old - 1) (omega (arith, front.some))

      not_both : {a b : ℕ} → (a ≤ t → b ≤ t → ⊥) → (2 ≤ a) ⊎ (2 ≤ b)
      not_both {a} {b} none = grind arith

      halves : {a b a' b' : ℕ} → 1 ≤ a → 1 ≤ b → a' ≡ (a + 1) / 2 → b' ≡ (b + 1) / 2 → (2 ≤ a) ⊎ (2 ≤ b) → a' + b' < a + b
      halves {a} {b} {a'} {b'} p q e f (inl two) = omega arith
      halves {a} {b} {a'} {b'} p q e f (inr two) = omega arith

-- a level that was read from the list of levels
module _ (levels : List ImageView) (t k : ℕ) (p : ImageView) (v : ChainView) (view : record { base = level_at levels 0; tile = t } ≡ v)
    (whole : IsWholeChain levels t) (below : k < chain_levels v) (read : p ≡ get_or levels k p) where
  low : k < length levels
  low = omega (arith, whole.count, (rw (← view) at below))

  level : IsLevel (level_at levels 0) k p
  level = rw (get_or_read levels k p low read no_image) (whole.front.each k low)

  inside : (y : ℕ) → y < chain_height v k → y < p.height
  inside y high = rw (level.rows) (rw (← view) at high)

  -- a row lies within the level's samples
  pub row_fits : (y d w size : ℕ) (samples : List ℕ) → y < chain_height v k → samples ≡ p.samples → d ≡ p.depth → w ≡ p.width → size ≡ 3 * d
      → size * w * y + size * w ≤ length samples
  row_fits y d w size samples high same deep wide e =
      texel_row_room d w p.height y size (length samples) e (ap length same ∙ level.lawful.full ∙ whole_size) (inside y high) where
        whole_size : 3 * p.depth * (p.width * p.height) ≡ 3 * d * (w * p.height)
        whole_size = rw (deep, wide) refl

  -- the row of the level
  pub chain_row : (y d w size : ℕ) (samples row : List ℕ) → y < chain_height v k → samples ≡ p.samples → d ≡ p.depth → w ≡ p.width
      → size ≡ 3 * d → row ≡ slice_range samples (size * w * y) (size * w * y + size * w) → AreBytes p.samples
      → IsTexelRow v.base.depth (λ x. chain_texel v k x y) (chain_width v k) row
  chain_row y d w size samples row high same deep wide e cut bytes =
      rw (← view, cut, same) (rw (level.depth) at (texel_row (level_at levels 0) k p y (size * w * y) (size * w * y + size * w - size * w * y)
      level bytes (inside y high) (ap (λ (n : ℕ). n * y) is_size) (omega (arith, is_size)) fits)) where
        is_size : size * w ≡ 3 * p.depth * p.width
        is_size = ap (λ (n : ℕ). n * w) e ∙ ap (λ (n : ℕ). 3 * n * w) deep ∙ ap (λ (n : ℕ). 3 * p.depth * n) wide

        fits : size * w * y + (size * w * y + size * w - size * w * y) ≤ length p.samples
        fits = omega (arith, row_fits y d w size samples high same deep wide e, ap length same)

  -- the samples of the level
  pub chain_raster : (samples : List ℕ) → samples ≡ p.samples → AreBytes p.samples
      → IsTexelRaster v.base.depth (chain_texel v k) (chain_width v k) (chain_height v k) samples
  chain_raster samples same bytes = rw (← view, same) (rw (level.depth) at (texel_raster (level_at levels 0) k p level bytes))

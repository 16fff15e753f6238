-- How many columns, rows and pages the levels have.
use Rattle.std.proofs.Common.{◌≡◌, ℕ, zero, suc, ◌+◌, ◌-◌, ◌*◌, ◌/◌, ◌^◌, ◌<◌, ◌≤◌, inl, inr, refl, add-zero, arith}
use Rattle.std.proofs.lemmas.Nat.{mul-le, le-div, mul-add-lt}
use Rattle.std.proofs.lemmas.Bool.{cases_lt}
use Rattle.std.proofs.Math.Nat.{div-mul-le_self, pow-suc, pow-zero}
use Rattle.vt_definitions.specs.Sides.{side, IsLevelCount}
use Rattle.vt_definitions.proofs.Levels.{side_at_least, level_count_least}
use Rattle.vt_pages.specs.Shape.{Shape}
use Rattle.vt_pages.specs.Pages.{columns_at, rows_at, pages_below, levels_of, pages_of, index_at}

-- a part of t begins inside a exactly where it is one of those that cover a
pub lt_up : (a t c : ℕ) → 1 ≤ t → c < (a + t - 1) / t → c * t < a
lt_up a t c some h = omega (arith, mul-le (c + 1) t ((a + t - 1) / t) t (omega arith) (omega arith), div-mul-le_self (a + t - 1) t)

pub up_lt : (a t c : ℕ) → 1 ≤ t → c * t < a → c < (a + t - 1) / t
up_lt a t c some h = omega (arith, le-div (c + 1) (a + t - 1) t some (omega arith))

-- of the parts that cover a, every second one begins the parts that cover half of a
pub up_half : (a t c : ℕ) → 1 ≤ t → c < (a + t - 1) / t → c / 2 < ((a + 1) / 2 + t - 1) / t
up_half a t c some h =
    let begins : c * t < a = lt_up a t c some h in
    let even : (c / 2 + c / 2) * t ≤ c * t = mul-le (c / 2 + c / 2) t c t (omega arith) (omega arith) in
    up_lt ((a + 1) / 2) t (c / 2) some (omega arith)

pub columns_some : (s : Shape) (k : ℕ) → 1 ≤ s.tile → 1 ≤ s.width → 1 ≤ columns_at s k
unfolding columns_at
columns_some s k some wide = up_lt (side s.width k) s.tile 0 some (omega (arith, side_at_least s.width k wide))

pub rows_some : (s : Shape) (k : ℕ) → 1 ≤ s.tile → 1 ≤ s.height → 1 ≤ rows_at s k
unfolding rows_at
rows_some s k some high = up_lt (side s.height k) s.tile 0 some (omega (arith, side_at_least s.height k high))

pub columns_half : (s : Shape) (k c : ℕ) → 1 ≤ s.tile → c < columns_at s k → c / 2 < columns_at s (suc k)
unfolding columns_at
columns_half s k c some h = up_half (side s.width k) s.tile c some h

pub rows_half : (s : Shape) (k r : ℕ) → 1 ≤ s.tile → r < rows_at s k → r / 2 < rows_at s (suc k)
unfolding rows_at
rows_half s k r some h = up_half (side s.height k) s.tile r some h

-- a texel's column of pages is one of the level's
pub columns_cover : (s : Shape) (k x : ℕ) → 1 ≤ s.tile → x < side s.width k → x / s.tile < columns_at s k
unfolding columns_at
columns_cover s k x some h = up_lt (side s.width k) s.tile (x / s.tile) some (omega (arith, div-mul-le_self x s.tile))

pub rows_cover : (s : Shape) (k y : ℕ) → 1 ≤ s.tile → y < side s.height k → y / s.tile < rows_at s k
unfolding rows_at
rows_cover s k y some h = up_lt (side s.height k) s.tile (y / s.tile) some (omega (arith, div-mul-le_self y s.tile))

-- a level with a side of at most one tile has one column
up_one : (a t : ℕ) → 1 ≤ t → a ≤ t → (a + t - 1) / t ≤ 1
up_one a t some fits = step ((a + t - 1) / t) refl where
  step : (q : ℕ) → q ≡ (a + t - 1) / t → q ≤ 1
  step zero e = omega arith
  step (suc zero) e = omega arith
  step (suc (suc q)) e = absurd (omega (arith, lt_up a t 1 some (omega (arith, e))))

pub levels_count : (s : Shape) → 1 ≤ s.tile → IsLevelCount s.width s.height s.tile (levels_of s)
unfolding levels_of
levels_count s some = level_count_least s.width s.height s.tile some

pub last_columns : (s : Shape) → 1 ≤ s.tile → columns_at s (levels_of s - 1) ≤ 1
unfolding columns_at
last_columns s some = up_one (side s.width (levels_of s - 1)) s.tile some (levels_count s some).last_width

pub last_rows : (s : Shape) → 1 ≤ s.tile → rows_at s (levels_of s - 1) ≤ 1
unfolding rows_at
last_rows s some = up_one (side s.height (levels_of s - 1)) s.tile some (levels_count s some).last_height

-- the pages of one level more
pub pages_below-suc : (s : Shape) (k : ℕ) → pages_below s (suc k) ≡ pages_below s k + rows_at s k * columns_at s k
unfolding pages_below
pages_below-suc s k = refl

pub pages_below-zero : (s : Shape) → pages_below s 0 ≡ 0
unfolding pages_below
pages_below-zero s = refl

pages_below_on : (s : Shape) (k j : ℕ) → pages_below s k ≤ pages_below s (k + j)
pages_below_on s k zero = rw add-zero (omega arith)
pages_below_on s k (suc j) =
    let e : k + suc j ≡ suc (k + j) = omega arith in
    rw e (omega (arith, pages_below_on s k j, pages_below-suc s (k + j)))

-- further levels have no fewer pages below them
pub pages_below_le : (s : Shape) (k j : ℕ) → k ≤ j → pages_below s k ≤ pages_below s j
pages_below_le s k j h = let e : k + (j - k) ≡ j = omega arith in rw e at (pages_below_on s k (j - k))

-- the index of a page of a level lies between the pages below the level and those below the next
pub index_from : (s : Shape) (k c r : ℕ) → pages_below s k ≤ index_at s k c r
unfolding index_at
index_from s k c r = omega arith

pub index_to : (s : Shape) (k c r : ℕ) → c < columns_at s k → r < rows_at s k → index_at s k c r < pages_below s (suc k)
unfolding index_at
index_to s k c r wide high = omega (arith, pages_below-suc s k, mul-add-lt r (columns_at s k) c (rows_at s k) high wide)

-- no level's side is longer than the texture's
pub side_most : (w m k : ℕ) → 1 ≤ m → w ≤ m → side w k ≤ m
side_most w m zero some most = most
side_most w m (suc k) some most = omega (arith, side_most w m k some most)

-- so many halvings divide a side by a power of two
pub side_halved : (w m k : ℕ) → w ≤ m * 2 ^ k → side w k ≤ m
side_halved w m zero most = omega (arith, pow-zero 2)
side_halved w m (suc k) most =
    let e : m * 2 ^ suc k ≡ (m + m) * 2 ^ k = rw pow-suc (omega arith) in
    omega (arith, side_halved w (m + m) k (rw e at most))

-- no more parts than texels
up_most : (a t : ℕ) → 1 ≤ t → (a + t - 1) / t ≤ a
up_most a t some =
    elim (cases_lt a ((a + t - 1) / t)) [ inl more ↦ absurd (omega (arith, lt_up a t a some more, mul-le a 1 a t (omega arith) some)) | inr most ↦ most ]

pub columns_most : (s : Shape) (k m : ℕ) → 1 ≤ s.tile → 1 ≤ m → s.width ≤ m → columns_at s k ≤ m
unfolding columns_at
columns_most s k m some more most = omega (arith, up_most (side s.width k) s.tile some, side_most s.width m k more most)

pub rows_most : (s : Shape) (k m : ℕ) → 1 ≤ s.tile → 1 ≤ m → s.height ≤ m → rows_at s k ≤ m
unfolding rows_at
rows_most s k m some more most = omega (arith, up_most (side s.height k) s.tile some, side_most s.height m k more most)

pub pages_below_most : (s : Shape) (k m : ℕ) → 1 ≤ s.tile → 1 ≤ m → s.width ≤ m → s.height ≤ m → pages_below s k ≤ k * (m * m)
pages_below_most s zero m some more wide high = omega (arith, pages_below-zero s)
pages_below_most s (suc k) m some more wide high =
    omega (
      arith,
      pages_below-suc s k,
      pages_below_most s k m some more wide high,
      mul-le (rows_at s k) (columns_at s k) m m (rows_most s k m some more high) (columns_most s k m some more wide),
    )

pub pages_of-is : (s : Shape) → pages_of s ≡ pages_below s (levels_of s)
unfolding pages_of
pages_of-is s = refl

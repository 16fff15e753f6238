-- The pages of a level among those of the chain.
use Rattle.std.proofs.Common.{◌≡◌, ℕ, suc, ◌+◌, ◌-◌, ◌*◌, ◌/◌, ◌<◌, ◌≤◌, refl, arith}
use Rattle.vt_pages.specs.Sides.{side}
use Rattle.vt_pages.specs.Shape.{Shape}
use Rattle.vt_pages.specs.Pages.{columns_at, rows_at, levels_of, pages_of, pages_below, index_at, texel_page}
use Rattle.vt_pages.proofs.Counts.{pages_below-suc, pages_below_le, pages_of-is}

pub columns_are : (s : Shape) (k : ℕ) → (side s.width k + s.tile - 1) / s.tile ≡ columns_at s k
unfolding columns_at
columns_are s k = refl

pub rows_are : (s : Shape) (k : ℕ) → (side s.height k + s.tile - 1) / s.tile ≡ rows_at s k
unfolding rows_at
rows_are s k = refl

pub first_is : (s : Shape) (k : ℕ) → 1 ≤ s.tile → texel_page s k 0 0 ≡ pages_below s k
unfolding texel_page index_at
first_is s k some = rw (none s.tile some) (omega arith) where
  none : (t : ℕ) → 1 ≤ t → 0 / t ≡ 0
  none t some = omega (arith, some)

pub level_inside : (s : Shape) (k : ℕ) → k < levels_of s → pages_below s k + rows_at s k * columns_at s k ≤ pages_of s
level_inside s k inside =
    let e = pages_below-suc s k in let le = pages_below_le s (suc k) (levels_of s) (omega (arith, inside)) in
    omega (arith, e, le, pages_of-is s)

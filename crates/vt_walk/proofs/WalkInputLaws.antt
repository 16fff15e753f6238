-- A walk pins at least one page.
use Rattle.std.proofs.Common.{ℕ, ◌-◌, ◌≤◌, arith}
use Rattle.vt_pages.specs.Shape.{Shape}
use Rattle.vt_pages.specs.Pages.{IsWithinLimits, levels_of, pinned_of}
use Rattle.vt_pages.proofs.Counts.{columns_some, rows_some, pages_below_le, index_from}
use Rattle.vt_pages.proofs.Names.{index_at_below}

pub some_pinned : (s : Shape) (n : ℕ) → IsWithinLimits s → 1 ≤ n → 1 ≤ pinned_of s n
unfolding pinned_of
some_pinned s n limits some =
    let last = levels_of s - 1 in
    let tile : 1 ≤ s.tile = omega (arith, limits.least_tile) in
    let inside = index_at_below s last 0 0 (omega (arith, limits.some_level)) (columns_some s last tile limits.least_width)
    (rows_some s last tile limits.least_height) in
    omega (arith, pages_below_le s (levels_of s - n) last (omega (arith, some)), index_from s last 0 0, inside)

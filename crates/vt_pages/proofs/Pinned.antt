-- The pinned pages are the last ones.
use Rattle.std.proofs.Common.{◌≡◌, ℕ, suc, ◌+◌, ◌-◌, ◌<◌, ◌≤◌, ◌↔◌, inl, inr, refl, arith}
use Rattle.std.proofs.lemmas.Bool.{cases_lt}
use Rattle.vt_pages.specs.Shape.{Shape}
use Rattle.vt_pages.specs.Pages.{pages_below, levels_of, pages_of, level_of, pinned_of}
use Rattle.vt_pages.proofs.Counts.{pages_below_le, pages_of-is}
use Rattle.vt_pages.proofs.Names.{level_of_from}

-- the pages below the last n levels are among all
pub unpinned_most : (s : Shape) (n : ℕ) → pages_below s (levels_of s - n) ≤ pages_of s
unpinned_most s n = omega (arith, pages_below_le s (levels_of s - n) (levels_of s) (omega arith), pages_of-is s)

pub pinned_code : (s : Shape) (n q first : ℕ) → q ≡ levels_of s - n → first ≡ pages_below s q → pages_of s - first ≡ pinned_of s n
unfolding pinned_of
pinned_code s n q first e f = rw (f, e) refl

pub pinned_none : (s : Shape) (n : ℕ) → levels_of s - n ≡ levels_of s → 0 ≡ pinned_of s n
unfolding pinned_of
pinned_none s n e = rw e (omega (arith, pages_of-is s))

pub pinned_last : (s : Shape) (n count p : ℕ) → 1 ≤ s.tile → count ≡ pinned_of s n → p < pages_of s
    → (levels_of s ≤ level_of s p + n) ↔ (pages_of s ≤ p + count)
unfolding pinned_of
pinned_last s n count p some e inside =
    let at = level_of_from s p some inside in
    let most = unpinned_most s n in (
      λ (late : levels_of s ≤ level_of s p + n).
          let from : pages_below s (levels_of s - n) ≤ pages_below s (level_of s p) = pages_below_le s (levels_of s - n) (level_of s p) (omega arith) in
          omega (arith, at.0),
      λ (late : pages_of s ≤ p + count).
          elim (cases_lt (level_of s p + n) (levels_of s)) [
            | inr h ↦ h
            | inl early ↦
                let to : pages_below s (suc (level_of s p)) ≤ pages_below s (levels_of s - n) =
                pages_below_le s (suc (level_of s p)) (levels_of s - n) (omega arith) in
                absurd (omega (arith, at.1))
          ],
    )

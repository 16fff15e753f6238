use Rattle.std.proofs.Common.{◌≡◌, ℕ, ◌+◌, ◌*◌, ◌-◌, ◌/◌, ◌≤◌, ap, subst, sym, ◌∙◌, arith}
use Rattle.vt_pages.specs.Sides.{side}
use Rattle.vt_pages.specs.Shape.{Shape}
use Rattle.vt_pages.specs.Pages.{rows_at, pages_of, pages_below}
use Rattle.vt_residency.proofs.Leveling.{columns_are, rows_are, first_is, level_inside}
use Rattle.vt_residency.proofs.levels.level_at.Goals as goal

-- so many tiles cover a side
over : (a b t u n : ℕ) → n ≡ (a + t - 1) / t → a ≡ b → t ≡ u → n ≡ (b + u - 1) / u
over a b t u n e sides tiles = e ∙ ap (λ (x : ℕ). (x + t - 1) / t) sides ∙ ap (λ (x : ℕ). (b + x - 1) / x) tiles

pub returns-clause-level : goal.returns-clause-level
returns-clause-level c =
    let s : Shape = c.args.geometry.now in
    let k : ℕ = c.args.level in
    record {
      width = ap (λ p. p.0) c.level_size-width.ensures.size;
      height = ap (λ p. p.1) c.level_size-width.ensures.size;
      columns = over c.level_size-width.result.0 (side s.width k) c.tile-tile.result s.tile c.tiles_over.result c.tiles_over.ensures
          (ap (λ p. p.0) c.level_size-width.ensures.size) c.tile-tile.ensures.tile ∙ columns_are s k;
      rows = over c.level_size-width.result.1 (side s.height k) c.tile-tile.result s.tile c.tiles_over-2.result c.tiles_over-2.ensures
          (ap (λ p. p.1) c.level_size-width.ensures.size) c.tile-tile.ensures.tile ∙ rows_are s k;
      first = c.page_of_texel.ensures.page ∙ first_is s k (let low = c.tile-tile.ensures.limits.least_tile in omega (arith, low));
    }

pub returns-clause-inside : goal.returns-clause-inside
returns-clause-inside c =
    let s : Shape = c.args.geometry.now in
    let k : ℕ = c.args.level in
    let h = returns-clause-level c in
    subst (λ (n : ℕ). n + c.tiles_over-2.result * c.tiles_over.result ≤ pages_of s) (sym h.first)
    (subst (λ (n : ℕ). pages_below s k + n * c.tiles_over.result ≤ pages_of s) (sym h.rows)
    (subst (λ (n : ℕ). pages_below s k + rows_at s k * n ≤ pages_of s) (sym h.columns) (level_inside s k c.requires)))

use Rattle.std.proofs.Common.{◌≡◌, ℕ, ◌+◌, ◌-◌, ◌/◌, ◌<◌, Bool, true, false, MatchBool, sym, subst, ap}
use Rattle.vt_pages.specs.Sides.{side}
use Rattle.vt_pages.specs.declared.PageName.{PageName}
use Rattle.vt_pages.specs.Shape.{Shape}
use Rattle.vt_pages.specs.Pages.{IsPage, levels_of, columns_at, rows_at}
use Rattle.vt_journal.proofs.fields.is_page.Goals as goal

columns_code : (s : Shape) (k c width tile : ℕ) → width ≡ side s.width k → tile ≡ s.tile
    → (c < (width + tile - 1) / tile) ≡ (c < columns_at s k)
unfolding columns_at
columns_code s k c width tile w t = rw (w, t)

rows_code : (s : Shape) (k r height tile : ℕ) → height ≡ side s.height k → tile ≡ s.tile
    → (r < (height + tile - 1) / tile) ≡ (r < rows_at s k)
unfolding rows_at
rows_code s k r height tile h t = rw (h, t)

by_row : (s : Shape) (n : PageName) (b : Bool) → n.level < levels_of s → n.col < columns_at s n.level
    → MatchBool b (n.row < rows_at s n.level) (n.row < rows_at s n.level → ⊥) → MatchBool b (IsPage s n) (IsPage s n → ⊥)
by_row s n true level col row = record { level_inside = level; col_inside = col; row_inside = row }
by_row s n false level col row = λ page. row page.row_inside

pub returns-then-not-is_on_side : goal.returns-then-not-is_on_side
returns-then-not-is_on_side c = λ page.
    let s = c.args.geometry.now in
    let k = c.args.name.now.level in
    let width : c.level_size-width.result.0 ≡ side s.width k = ap (λ (r : ℕ × ℕ). r.0) c.level_size-width.ensures.size in
    let same = columns_code s k c.args.name.now.col c.level_size-width.result.0 c.tile.result width c.tile.ensures.tile in
    c.if-not-is_on_side.ensures (subst (λ (A : Type 0). A) (sym same) page.col_inside)

pub returns : goal.returns
returns c =
    let s = c.args.geometry.now in
    let k = c.args.name.now.level in
    let width : c.level_size-width.result.0 ≡ side s.width k = ap (λ (r : ℕ × ℕ). r.0) c.level_size-width.ensures.size in
    let height : c.level_size-width.result.1 ≡ side s.height k = ap (λ (r : ℕ × ℕ). r.1) c.level_size-width.ensures.size in
    let col = columns_code s k c.args.name.now.col c.level_size-width.result.0 c.tile.result width c.tile.ensures.tile in
    let row = rows_code s k c.args.name.now.row c.level_size-width.result.1 c.tile-2.result height c.tile-2.ensures.tile in
    by_row s c.args.name.now c.is_on_side-2.result c.requires (subst (λ (A : Type 0). A) col c.if-not-is_on_side.ensures)
    (subst (λ (A : Type 0). MatchBool c.is_on_side-2.result A (A → ⊥)) row c.is_on_side-2.ensures)

-- Names and indexes of pages undo each other.
use Rattle.std.proofs.Common.{◌≡◌, ℕ, zero, suc, ◌+◌, ◌-◌, ◌*◌, ◌/◌, ◌%◌, ◌<◌, ◌≤◌, ◌⊎◌, inl, inr, Bool, true, false, cond, refl, sym, ap, add-one, arith}
use Rattle.std.proofs.lemmas.Nat.{div-mul-add, mod-mul-add, mod_below, div_below, div-add-mod'}
use Rattle.std.proofs.lemmas.Bool.Decides.{nat_tests}
use Rattle.std.proofs.lemmas.Bool.{cases_lt}
use Rattle.std.specs.Prelude.{nat_le}
use Rattle.vt_pages.specs.declared.PageName.{PageName}
use Rattle.vt_pages.specs.Shape.{Shape}
use Rattle.vt_pages.specs.Pages.{columns_at, rows_at, pages_below, levels_of, pages_of, index_at, index_of, IsPage, IsPageAt, last_level_from, level_of, name_at, parent_name}
use Rattle.vt_pages.specs.Laws.{AreInverse}
use Rattle.vt_pages.proofs.Counts.{columns_some, columns_half, rows_half, pages_below-suc, pages_below-zero, pages_below_le, index_from, index_to, levels_count}

le_true : (a b : ℕ) → nat_le a b ≡ true → a ≤ b
le_true a b e = grind (arith, nat_tests)

le_false : (a b : ℕ) → nat_le a b ≡ false → b < a
le_false a b e = grind (arith, nat_tests)

zero_or_more : (k j : ℕ) → k ≤ suc j → (k ≡ suc j) ⊎ (k ≤ j)
zero_or_more k j h = elim (cases_lt j k) [ inl above ↦ inl (omega arith) | inr within ↦ inr within ]

-- an index between the pages below level k and those below the next is of level k
level_from_is : (s : Shape) (p k j : ℕ) → k ≤ j → pages_below s k ≤ p → p < pages_below s (suc k) → last_level_from s p j ≡ k
unfolding last_level_from
level_from_is s p k zero within from to = omega arith
level_from_is s p k (suc j) within from to = step (λ w. level_from_is s p k j w from to) (nat_le (pages_below s (suc j)) p) refl where
  step : (k ≤ j → last_level_from s p j ≡ k)
      → (b : Bool) → nat_le (pages_below s (suc j)) p ≡ b → cond b (suc j) (last_level_from s p j) ≡ k
  step earlier true e =
      elim (zero_or_more k j within) [
        | inl same ↦ sym same
        | inr below ↦ absurd (omega (arith, le_true (pages_below s (suc j)) p e, pages_below_le s (suc k) (suc j) (omega arith)))
      ]
  step earlier false e =
      elim (zero_or_more k j within) [
        | inl same ↦ absurd
            (let later : pages_below s k ≡ pages_below s (suc j) = ap (pages_below s) same in omega (arith, le_false (pages_below s (suc j)) p e))
        | inr below ↦ earlier below
      ]

pub record IsLevelIn (s : Shape) (p j k : ℕ) : Type 0 where
  pub within : k ≤ j
  pub from : pages_below s k ≤ p
  pub to : p < pages_below s (suc k)

-- the level that is found has the page
level_from_has : (s : Shape) (p j : ℕ) → p < pages_below s (suc j) → IsLevelIn s p j (last_level_from s p j)
unfolding last_level_from
level_from_has s p zero to = record { within = omega arith; from = omega (arith, pages_below-zero s); to = to }
level_from_has s p (suc j) to = step (level_from_has s p j) (nat_le (pages_below s (suc j)) p) refl where
  step : (p < pages_below s (suc j) → IsLevelIn s p j (last_level_from s p j))
      → (b : Bool) → nat_le (pages_below s (suc j)) p ≡ b → IsLevelIn s p (suc j) (cond b (suc j) (last_level_from s p j))
  step earlier true e = record { within = omega arith; from = le_true (pages_below s (suc j)) p e; to = to }
  step earlier false e =
      let h = earlier (le_false (pages_below s (suc j)) p e) in
      record { within = omega (arith, h.within); from = h.from; to = h.to }

pub level_of_is : (s : Shape) (p k : ℕ) → k < levels_of s → pages_below s k ≤ p → p < pages_below s (suc k) → level_of s p ≡ k
unfolding level_of
level_of_is s p k within from to = level_from_is s p k (levels_of s - 1) (omega arith) from to

pub level_of_has : (s : Shape) (p : ℕ) → 1 ≤ levels_of s → p < pages_of s → IsLevelIn s p (levels_of s - 1) (level_of s p)
unfolding level_of pages_of
level_of_has s p some within =
    let e : suc (levels_of s - 1) ≡ levels_of s = omega arith in
    level_from_has s p (levels_of s - 1) (rw e within)

-- the level of a page's index is the page's
pub level_of-index : (s : Shape) (k c r : ℕ) → k < levels_of s → c < columns_at s k → r < rows_at s k → level_of s (index_at s k c r) ≡ k
level_of-index s k c r within wide high =
    level_of_is s (index_at s k c r) k within (index_from s k c r) (index_to s k c r wide high)

pub same_name : (a b c d e f : ℕ) → a ≡ d → b ≡ e → c ≡ f → ◌≡◌ {A = PageName} (record { level = a; col = b; row = c }) (record { level = d; col = e; row = f })
same_name a b c d e f p q r = cc

-- the name of a page's index is the page's
pub name_at-index : (s : Shape) (k c r : ℕ) → k < levels_of s → c < columns_at s k → r < rows_at s k
    → name_at s (index_at s k c r) ≡ record { level = k; col = c; row = r }
unfolding name_at index_at
name_at-index s k c r within wide high =
    let columns = columns_at s k in
    let same : level_of s (pages_below s k + (r * columns_at s k + c)) ≡ k = level_of-index s k c r within wide high in
    let place : pages_below s k + (r * columns_at s k + c) - pages_below s k ≡ r * columns_at s k + c = omega arith in
    same_name _ _ _ _ _ _
    same
    (rw (same, place) (mod-mul-add r (columns_at s k) c wide))
    (rw (same, place) (div-mul-add r (columns_at s k) c wide))

-- an index below the number of pages has a name in the chain
pub name_at_is_page : (s : Shape) (p : ℕ) → 1 ≤ s.tile → 1 ≤ s.width → p < pages_of s → IsPage s (name_at s p)
unfolding name_at
name_at_is_page s p some wide within =
    let k = level_of s p in
    let level = level_of_has s p (levels_count s some).some within in
    let columns : 1 ≤ columns_at s (level_of s p) = columns_some s (level_of s p) some wide in
    let to : p < pages_below s (level_of s p) + rows_at s (level_of s p) * columns_at s (level_of s p) = rw pages_below-suc at level.to in
    let place : p - pages_below s (level_of s p) < rows_at s (level_of s p) * columns_at s (level_of s p) = omega (arith, level.from) in
    record {
      level_inside = omega (arith, level.within, (levels_count s some).some);
      col_inside = mod_below (p - pages_below s (level_of s p)) (columns_at s (level_of s p)) columns;
      row_inside = div_below (p - pages_below s (level_of s p)) (columns_at s (level_of s p)) (rows_at s (level_of s p)) columns place;
    }

pub index_of-name_at : (s : Shape) (p : ℕ) → 1 ≤ s.tile → p < pages_of s → index_of s (name_at s p) ≡ p
unfolding name_at index_at
index_of-name_at s p some within =
    omega (arith, (level_of_has s p (levels_count s some).some within).from, div-add-mod' (p - pages_below s (level_of s p)) (columns_at s (level_of s p)))

-- the index of a page of the chain is below the number of pages
pub index_at_below : (s : Shape) (k c r : ℕ) → k < levels_of s → c < columns_at s k → r < rows_at s k → index_at s k c r < pages_of s
unfolding pages_of
index_at_below s k c r within wide high =
    omega (arith, index_to s k c r wide high, pages_below_le s (suc k) (levels_of s) within)

pub index_at_is_page : (s : Shape) (k c r : ℕ) → k < levels_of s → c < columns_at s k → r < rows_at s k → IsPageAt s k (index_at s k c r)
index_at_is_page s k c r within wide high = record {
  inside = index_at_below s k c r within wide high;
  level = level_of-index s k c r within wide high;
}

pub are_inverse : (s : Shape) → 1 ≤ s.tile → 1 ≤ s.width → AreInverse s
are_inverse s some wide = record {
  name =
      λ n h. (
        index_at_below s n.level n.col n.row h.level_inside h.col_inside h.row_inside,
        name_at-index s n.level n.col n.row h.level_inside h.col_inside h.row_inside,
      );
  index = λ p h. (name_at_is_page s p some wide h, index_of-name_at s p some h);
}

-- a parent is a page of the chain
pub parent_is_page : (s : Shape) (n : PageName) → 1 ≤ s.tile → IsPage s n → n.level + 1 < levels_of s → IsPage s (parent_name n)
parent_is_page s n some h more = record {
  level_inside = more;
  col_inside = rw add-one (columns_half s n.level n.col some h.col_inside);
  row_inside = rw add-one (rows_half s n.level n.row some h.row_inside);
}

-- what the code computes for a name
pub name_code : (s : Shape) (p k first columns : ℕ) → k ≡ level_of s p → first ≡ pages_below s k → columns ≡ columns_at s k
    → ◌≡◌ {A = PageName} (record { level = k; col = (p - first) % columns; row = (p - first) / columns }) (name_at s p)
unfolding name_at
name_code s p k first columns level from wide = rw (from, wide, level) refl

-- the level that the search for a page ends at
pub level_code : (s : Shape) (p k : ℕ) → k < levels_of s → pages_below s k ≤ p → p < pages_below s (k + 1) → k ≡ level_of s p
level_code s p k within from to = sym (level_of_is s p k within from (rw add-one at to))

pub level_of_from : (s : Shape) (p : ℕ) → 1 ≤ s.tile → p < pages_of s
    → (pages_below s (level_of s p) ≤ p) × (p < pages_below s (suc (level_of s p))) × (level_of s p < levels_of s)
level_of_from s p some inside =
    let h = level_of_has s p (levels_count s some).some inside in
    (h.from, h.to, omega (arith, h.within, (levels_count s some).some))

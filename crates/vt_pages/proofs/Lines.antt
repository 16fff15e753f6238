-- The line of a page reaches the root, and follows a place from level to level.
use Rattle.std.proofs.Common.{◌≡◌, ℕ, zero, suc, ◌+◌, ◌-◌, ◌/◌, ◌^◌, ◌<◌, ◌≤◌, true, false, Some, None, length, get_or, refl, sym, ap, ◌∙◌, subst, add-zero, arith}
use Rattle.std.proofs.Math.Nat.{div-div-eq-div-mul, div-one, mul_comm, pow-suc}
use Rattle.std.proofs.lemmas.Nat.{pow-add}
use Rattle.std.proofs.lemmas.Bool.Decides.{nat_tests}
use Rattle.std.specs.Prelude.{◌==◌}
use Rattle.vt_definitions.specs.Sides.{side}
use Rattle.vt_pages.specs.declared.PageName.{PageName}
use Rattle.vt_pages.specs.Shape.{Shape}
use Rattle.vt_pages.specs.Pages.{columns_at, rows_at, pages_below, levels_of, pages_of, index_at, index_of, IsPage, IsPageAt, level_of, name_at, parent_name, parent_of, ancestors_from, ancestors_of, ancestor_of, root_of, texel_page}
use Rattle.vt_pages.specs.Laws.{ReachesRoot, PlacesNest, LinesFollowPlaces, IsInside}
use Rattle.vt_pages.proofs.Counts.{columns_some, rows_some, columns_cover, rows_cover, last_columns, last_rows, pages_below-suc, levels_count}
use Rattle.vt_pages.proofs.Names.{level_of-index, name_at-index, name_at_is_page, index_of-name_at, index_at_below, parent_is_page, same_name, index_at_is_page}

halves : (c i : ℕ) → c / 2 / 2 ^ i ≡ c / 2 ^ suc i
halves c i = div-div-eq-div-mul c 2 (2 ^ i) ∙ ap (λ n. c / n) (mul_comm 2 (2 ^ i) ∙ sym (pow-suc 2 i))

pub whole : (c : ℕ) → c / 2 ^ 0 ≡ c
whole c = div-one c

-- the page so many levels above a name
pub above : ℕ → PageName → PageName
above i n = record { level = n.level + i; col = n.col / 2 ^ i; row = n.row / 2 ^ i }

above_none : (n : PageName) → above 0 n ≡ n
unfolding above
above_none n = same_name _ _ _ _ _ _ (add-zero n.level) (whole n.col) (whole n.row)

above_parent : (n : PageName) (i : ℕ) → above i (parent_name n) ≡ above (suc i) n
unfolding above
above_parent n i = same_name _ _ _ _ _ _ (omega arith) (halves n.col i) (halves n.row i)

pub length-ancestors_from : (s : Shape) (j : ℕ) (n : PageName) → length (ancestors_from s j n) ≡ suc j
unfolding ancestors_from
length-ancestors_from s zero n = refl
length-ancestors_from s (suc j) n = ap suc (length-ancestors_from s j (parent_name n))

get_or-ancestors_from : (s : Shape) (j i : ℕ) (n : PageName) → i ≤ j → get_or (ancestors_from s j n) i 0 ≡ index_of s (above i n)
unfolding ancestors_from
get_or-ancestors_from s zero zero n h = ap (index_of s) (sym (above_none n))
get_or-ancestors_from s zero (suc i) n h = absurd (omega arith)
get_or-ancestors_from s (suc j) zero n h = ap (index_of s) (sym (above_none n))
get_or-ancestors_from s (suc j) (suc i) n h = get_or-ancestors_from s j i (parent_name n) (omega arith) ∙ ap (index_of s) (above_parent n i)

above_is_page : (s : Shape) (i : ℕ) (n : PageName) → 1 ≤ s.tile → IsPage s n → n.level + i < levels_of s → IsPage s (above i n)
above_is_page s zero n some h within = subst (IsPage s) (sym (above_none n)) h
above_is_page s (suc i) n some h within =
    subst (IsPage s) (above_parent n i) (above_is_page s i (parent_name n) some (parent_is_page s n some h (omega arith)) (omega arith))

pub name_at-level : (s : Shape) (p : ℕ) → (name_at s p).level ≡ level_of s p
unfolding name_at
name_at-level s p = refl

-- the pages of a page's line
pub line_at : (s : Shape) (p i : ℕ) → level_of s p + i < levels_of s → get_or (ancestors_of s p) i 0 ≡ index_of s (above i (name_at s p))
unfolding ancestors_of
line_at s p i within = get_or-ancestors_from s (levels_of s - 1 - level_of s p) i (name_at s p) (omega arith)

pub line_at_page : (s : Shape) (p i : ℕ) → 1 ≤ s.tile → 1 ≤ s.width → p < pages_of s → level_of s p + i < levels_of s → IsPage s (above i (name_at s p))
line_at_page s p i some wide inside within =
    above_is_page s i (name_at s p) some (name_at_is_page s p some wide inside) (rw name_at-level within)

-- the page of a line at a level, by its name
ancestor_is : (s : Shape) (p k : ℕ) → level_of s p ≤ k → k < levels_of s → ancestor_of s p k ≡ index_of s (above (k - level_of s p) (name_at s p))
unfolding ancestor_of
ancestor_is s p k from within = line_at s p (k - level_of s p) (omega arith)

-- a page's place at a coarser level is inside the level
pub above_inside : (s : Shape) (n : PageName) (k : ℕ) → 1 ≤ s.tile → IsPage s n → n.level ≤ k → k < levels_of s
    → (n.col / 2 ^ (k - n.level) < columns_at s k) × (n.row / 2 ^ (k - n.level) < rows_at s k)
unfolding above
above_inside s n k some h from within =
    let level : n.level + (k - n.level) ≡ k = omega arith in
    let page = above_is_page s (k - n.level) n some h (omega arith) in
    (rw level at page.col_inside, rw level at page.row_inside)

-- where a line reaches a level
pub ancestor_at_level : (s : Shape) (p k : ℕ) → level_of s p ≤ k → k < levels_of s
    → ancestor_of s p k ≡ index_at s k ((name_at s p).col / 2 ^ (k - level_of s p)) ((name_at s p).row / 2 ^ (k - level_of s p))
unfolding above
ancestor_at_level s p k from within =
    let level : (name_at s p).level + (k - level_of s p) ≡ k = omega (arith, name_at-level s p) in
    ancestor_is s p k from within ∙ ap (λ l. index_at s l ((name_at s p).col / 2 ^ (k - level_of s p)) ((name_at s p).row / 2 ^ (k - level_of s p))) level

index_of_page : (s : Shape) (n : PageName) → IsPage s n → IsPageAt s n.level (index_of s n)
index_of_page s n h = index_at_is_page s n.level n.col n.row h.level_inside h.col_inside h.row_inside

above-level : (i : ℕ) (n : PageName) → (above i n).level ≡ n.level + i
unfolding above
above-level i n = refl

line_page : (s : Shape) (p i : ℕ) → 1 ≤ s.tile → 1 ≤ s.width → p < pages_of s → level_of s p + i < levels_of s
    → IsPageAt s (level_of s p + i) (index_of s (above i (name_at s p)))
line_page s p i some wide inside within =
    let page = index_of_page s (above i (name_at s p)) (line_at_page s p i some wide inside within) in
    let level : (above i (name_at s p)).level ≡ level_of s p + i = above-level i (name_at s p) ∙ ap (λ l. l + i) (name_at-level s p) in
    record { inside = page.inside; level = page.level ∙ level }

pub ancestor_is_page : (s : Shape) (p k : ℕ) → 1 ≤ s.tile → 1 ≤ s.width → p < pages_of s → level_of s p ≤ k → k < levels_of s → IsPageAt s k (ancestor_of s p k)
ancestor_is_page s p k some wide inside from within =
    let at : level_of s p + (k - level_of s p) ≡ k = omega arith in
    let page = line_page s p (k - level_of s p) some wide inside (omega arith) in
    let e = ancestor_is s p k from within in
    record { inside = rw e page.inside; level = rw e (page.level ∙ at) }

-- a page of the last level is the root
last_is_root : (s : Shape) (n : PageName) → 1 ≤ s.tile → IsPage s n → n.level ≡ levels_of s - 1 → index_of s n ≡ root_of s
unfolding root_of
last_is_root s n some h e =
    let col : n.col ≡ 0 = omega (arith, last_columns s some, rw e at h.col_inside) in
    let row : n.row ≡ 0 = omega (arith, last_rows s some, rw e at h.row_inside) in
    rw (e, col, row) refl

root_last : (s : Shape) → 1 ≤ s.tile → 1 ≤ s.width → 1 ≤ s.height → root_of s + 1 ≡ pages_of s
unfolding root_of pages_of index_at
root_last s some wide high =
    let count = levels_count s some in
    let levels : suc (levels_of s - 1) ≡ levels_of s = omega (arith, count.some) in
    let columns : columns_at s (levels_of s - 1) ≡ 1 = omega (arith, last_columns s some, columns_some s (levels_of s - 1) some wide) in
    let rows : rows_at s (levels_of s - 1) ≡ 1 = omega (arith, last_rows s some, rows_some s (levels_of s - 1) some high) in
    let next : pages_below s (suc (levels_of s - 1)) ≡ pages_below s (levels_of s - 1) + 1 = rw (pages_below-suc, columns, rows) refl in
    let whole : pages_below s (levels_of s) ≡ pages_below s (levels_of s - 1) + 1 = rw levels at next in
    rw columns (omega arith)

level_within : (s : Shape) (p : ℕ) → 1 ≤ s.tile → 1 ≤ s.width → p < pages_of s → level_of s p < levels_of s
level_within s p some wide inside = rw name_at-level at (name_at_is_page s p some wide inside).level_inside

length-ancestors_of : (s : Shape) (p : ℕ) → level_of s p < levels_of s → length (ancestors_of s p) + level_of s p ≡ levels_of s
unfolding ancestors_of
length-ancestors_of s p within = omega (arith, length-ancestors_from s (levels_of s - 1 - level_of s p) (name_at s p))

pub reaches_root : (s : Shape) (p : ℕ) → 1 ≤ s.tile → 1 ≤ s.width → 1 ≤ s.height → p < pages_of s → ReachesRoot s p
reaches_root s p some wide high inside =
    let within = level_within s p some wide inside in
    let up = levels_of s - 1 - level_of s p in
    let top : level_of s p + (levels_of s - 1 - level_of s p) < levels_of s = omega arith in
    record {
      one_a_level = length-ancestors_of s p within;
      levels = λ i h.
          let below : level_of s p + i < levels_of s = omega (arith, length-ancestors_of s p within) in
          let page = line_page s p i some wide inside below in
          (rw (line_at s p i below) page.inside, rw (line_at s p i below) page.level);
      begins = line_at s p 0 (omega arith) ∙ ap (index_of s) (above_none (name_at s p)) ∙ index_of-name_at s p some inside;
      ends = line_at s p (levels_of s - 1 - level_of s p) top
          ∙ last_is_root s (above (levels_of s - 1 - level_of s p) (name_at s p)) some (line_at_page s p (levels_of s - 1 - level_of s p) some wide inside top)
          (above-level (levels_of s - 1 - level_of s p) (name_at s p) ∙ omega (arith, name_at-level s p));
      root_is_last = root_last s some wide high;
    }

-- the parent of a page that is not the root
pub parent_is : (s : Shape) (p : ℕ) → level_of s p + 1 < levels_of s → parent_of s p ≡ Some (index_of s (parent_name (name_at s p)))
unfolding parent_of
parent_is s p more = let e : (level_of s p + 1 == levels_of s) ≡ false = grind (arith, nat_tests) in rw e refl

pub parent_none : (s : Shape) (p : ℕ) → level_of s p + 1 ≡ levels_of s → parent_of s p ≡ None
unfolding parent_of
parent_none s p last = let e : (level_of s p + 1 == levels_of s) ≡ true = grind (arith, nat_tests) in rw e refl

div_swap : (x a b : ℕ) → x / a / b ≡ x / b / a
div_swap x a b = div-div-eq-div-mul x a b ∙ ap (λ n. x / n) (mul_comm a b) ∙ sym (div-div-eq-div-mul x b a)

-- the texel's page
texel_code : (s : Shape) (k x y c r : ℕ) → c ≡ x / s.tile → r ≡ y / s.tile → index_at s k c r ≡ texel_page s k x y
unfolding texel_page
texel_code s k x y c r p q = rw (p, q) refl

pub texel_name : (s : Shape) (k x y : ℕ) → 1 ≤ s.tile → IsInside s k x y
    → name_at s (texel_page s k x y) ≡ record { level = k; col = x / s.tile; row = y / s.tile }
unfolding texel_page
texel_name s k x y some h = name_at-index s k (x / s.tile) (y / s.tile) h.0 (columns_cover s k x some h.1) (rows_cover s k y some h.2)

pub texel_is_page : (s : Shape) (k x y : ℕ) → 1 ≤ s.tile → IsInside s k x y → IsPageAt s k (texel_page s k x y)
unfolding texel_page
texel_is_page s k x y some h = record {
  inside = index_at_below s k (x / s.tile) (y / s.tile) h.0 (columns_cover s k x some h.1) (rows_cover s k y some h.2);
  level = level_of-index s k (x / s.tile) (y / s.tile) h.0 (columns_cover s k x some h.1) (rows_cover s k y some h.2);
}

side_suc : (w k : ℕ) → side w (k + 1) ≡ (side w k + 1) / 2
side_suc w k = let e : k + 1 ≡ suc k = omega arith in rw e refl

inside_half : (s : Shape) (k x y : ℕ) → k + 1 < levels_of s → IsInside s k x y → IsInside s (k + 1) (x / 2) (y / 2)
inside_half s k x y more h = (more, rw side_suc (omega (arith, h.1)), rw side_suc (omega (arith, h.2)))

texel_parent : (s : Shape) (k x y : ℕ) → 1 ≤ s.tile → IsInside s k x y
    → index_of s (parent_name (name_at s (texel_page s k x y))) ≡ texel_page s (k + 1) (x / 2) (y / 2)
texel_parent s k x y some h =
    rw (texel_name s k x y some h) (texel_code s (k + 1) (x / 2) (y / 2) (x / s.tile / 2) (y / s.tile / 2) (div_swap x s.tile 2) (div_swap y s.tile 2))

pub places_nest : (s : Shape) → 1 ≤ s.tile → PlacesNest s
places_nest s some k x y more h = (
  inside_half s k x y more h,
  parent_is s (texel_page s k x y) (omega (arith, (texel_is_page s k x y some h).level)) ∙ ap Some (texel_parent s k x y some h),
)

inside_up : (s : Shape) (j k x y : ℕ) → k + j < levels_of s → IsInside s k x y → IsInside s (k + j) (x / 2 ^ j) (y / 2 ^ j)
inside_up s zero k x y within h =
    let e : k + 0 ≡ k = omega arith in rw (e, whole x, whole y) h
inside_up s (suc j) k x y within h =
    let e : k + suc j ≡ k + 1 + j = omega arith in
    rw (e, ← halves x j, ← halves y j) (inside_up s j (k + 1) (x / 2) (y / 2) (omega arith) (inside_half s k x y (omega arith) h))

texel_line : (s : Shape) (k x y j : ℕ) → 1 ≤ s.tile → IsInside s k x y → k + j < levels_of s
    → ancestor_of s (texel_page s k x y) (k + j) ≡ texel_page s (k + j) (x / 2 ^ j) (y / 2 ^ j)
texel_line s k x y j some h within =
    let level = (texel_is_page s k x y some h).level in
    let up : k + j - k ≡ j = omega arith in
    ancestor_at_level s (texel_page s k x y) (k + j) (omega (arith, level)) within
    ∙ rw (texel_name s k x y some h, level, up)
    (texel_code s (k + j) (x / 2 ^ j) (y / 2 ^ j) (x / s.tile / 2 ^ j) (y / s.tile / 2 ^ j) (div_swap x s.tile (2 ^ j)) (div_swap y s.tile (2 ^ j)))

pub lines_follow_places : (s : Shape) → 1 ≤ s.tile → LinesFollowPlaces s
lines_follow_places s some k x y j h within = (inside_up s j k x y within h, texel_line s k x y j some h within)

-- what the code computes for an ancestor
pub ancestor_code : (s : Shape) (p k : ℕ) (n : PageName) → n ≡ name_at s p → level_of s p ≤ k → k < levels_of s
    → index_at s k (n.col / 2 ^ (k - n.level)) (n.row / 2 ^ (k - n.level)) ≡ ancestor_of s p k
ancestor_code s p k n e from within = rw (e, name_at-level) (sym (ancestor_at_level s p k from within))

-- what the code computes for a texel's page
pub texel_shift : (s : Shape) (k x y shift : ℕ) → s.tile ≡ 2 ^ shift → index_at s k (x / 2 ^ shift) (y / 2 ^ shift) ≡ texel_page s k x y
unfolding texel_page
texel_shift s k x y shift e = rw e refl

-- what is halved so many times and then cut into tiles
pub cut_at : (x k shift t : ℕ) → t ≡ 2 ^ shift → x / 2 ^ (k + shift) ≡ x / 2 ^ k / t
cut_at x k shift t e = ap (λ n. x / n) (pow-add 2 k shift) ∙ sym (div-div-eq-div-mul x (2 ^ k) (2 ^ shift)) ∙ ap (λ n. x / 2 ^ k / n) (sym e)

-- the page of the texel over a place
pub texel_is : (s : Shape) (k x y shift : ℕ) → s.tile ≡ 2 ^ shift
    → index_at s k (x / 2 ^ (k + shift)) (y / 2 ^ (k + shift)) ≡ texel_page s k (x / 2 ^ k) (y / 2 ^ k)
unfolding texel_page
texel_is s k x y shift e =
    ap (λ n. index_at s k n (y / 2 ^ (k + shift))) (cut_at x k shift s.tile e)
    ∙ ap (λ n. index_at s k (x / 2 ^ k / s.tile) n) (cut_at y k shift s.tile e)

-- the parent by its name
pub parent_code : (s : Shape) (p : ℕ) (n : PageName) → n ≡ name_at s p → n.level + 1 < levels_of s
    → parent_of s p ≡ Some (index_at s (n.level + 1) (n.col / 2) (n.row / 2))
parent_code s p n e more =
    let level : n.level ≡ level_of s p = ap (λ (m : PageName). m.level) e ∙ name_at-level s p in
    parent_is s p (rw level at more) ∙ ap (λ (m : PageName). Some (index_of s (parent_name m))) (sym e)

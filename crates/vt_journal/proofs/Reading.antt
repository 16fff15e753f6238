-- What the reading of fields finds.
use Rattle.std.proofs.Common.{◌≡◌, ℕ, ◌+◌, ◌<◌, ◌≤◌, List, [], ◌∷◌, sym, ◌∙◌, arith, Option, Some, None, slice_get}
use Rattle.vt_text.specs.Numbers.{number_spelling}
use Rattle.vt_text.specs.Lines.{fields_of}
use Rattle.vt_text.proofs.Spelling.{number_spelling_injective}
use Rattle.vt_pages.specs.declared.PageName.{PageName}
use Rattle.vt_pages.specs.Shape.{Shape}
use Rattle.vt_pages.specs.Pages.{IsPage, IsWithinLimits, name_at, pages_of}
use Rattle.vt_pages.proofs.Names.{name_at_is_page, same_name}
use Rattle.vt_pages.proofs.Counts.{columns_most, rows_most}
use Rattle.vt_journal.specs.JournalReading.{IsNumberAt, StandsAt}

-- two numbers in one field are one
pub same_number : (o : Option (List ℕ)) (m n : ℕ) → o ≡ Some (number_spelling m) → o ≡ Some (number_spelling n) → m ≡ n
same_number o m n a b =
    let both : Some (number_spelling m) ≡ Some (number_spelling n) = sym a ∙ b in
    number_spelling_injective m n (cc)

-- a number above the limit is none up to it
pub number_above : (line : List ℕ) (i most n : ℕ) → most < n → slice_get (fields_of line) i ≡ Some (number_spelling n)
    → IsNumberAt line i most None
number_above line i most n high is m low at = omega (arith, same_number (slice_get (fields_of line) i) m n at is)

-- the numbers of a page's name fit 32 bits
pub record AreShort (n : PageName) : Type 0 where
  pub level : n.level ≤ 4294967295
  pub col : n.col ≤ 4294967295
  pub row : n.row ≤ 4294967295

pub name_is_page : (s : Shape) (page : ℕ) → IsWithinLimits s → page < pages_of s → IsPage s (name_at s page)
name_is_page s page limits inside = name_at_is_page s page (omega (arith, limits.least_tile)) limits.least_width inside

pub name_is_short : (s : Shape) (page : ℕ) → IsWithinLimits s → page < pages_of s → AreShort (name_at s page)
name_is_short s page limits inside =
    let is = name_is_page s page limits inside in
    let tile : 1 ≤ s.tile = omega (arith, limits.least_tile) in
    record {
      level = omega (arith, is.level_inside, limits.most_levels);
      col = omega (arith, is.col_inside, columns_most s (name_at s page).level 16384 tile (omega arith) limits.most_width);
      row = omega (arith, is.row_inside, rows_most s (name_at s page).level 16384 tile (omega arith) limits.most_height);
    }

-- a page that is in a line has the name that was read
pub name_read : (s : Shape) (line : List ℕ) (i page level col row : ℕ) → StandsAt s line i page
    → slice_get (fields_of line) i ≡ Some (number_spelling level) → slice_get (fields_of line) (i + 1) ≡ Some (number_spelling col)
    → slice_get (fields_of line) (i + 2) ≡ Some (number_spelling row)
    → name_at s page ≡ record { level = level; col = col; row = row }
name_read s line i page level col row at l c r =
    same_name (name_at s page).level (name_at s page).col (name_at s page).row level col row
    (same_number (slice_get (fields_of line) i) (name_at s page).level level at.level l)
    (same_number (slice_get (fields_of line) (i + 1)) (name_at s page).col col at.col c)
    (same_number (slice_get (fields_of line) (i + 2)) (name_at s page).row row at.row r)

-- a list by what is at its places
pub list_of_three : (xs : List (List ℕ)) (a b c : List ℕ) → slice_get xs 0 ≡ Some a → slice_get xs 1 ≡ Some b
    → slice_get xs 2 ≡ Some c → slice_get xs 3 ≡ None → xs ≡ a ∷ b ∷ c ∷ []
list_of_three [] a b c e f g h = cc
list_of_three (x ∷ []) a b c e f g h = cc
list_of_three (x ∷ y ∷ []) a b c e f g h = cc
list_of_three (x ∷ y ∷ z ∷ []) a b c e f g h = cc
list_of_three (x ∷ y ∷ z ∷ w ∷ xs) a b c e f g h = cc

pub list_of_four : (xs : List (List ℕ)) (a b c d : List ℕ) → slice_get xs 0 ≡ Some a → slice_get xs 1 ≡ Some b
    → slice_get xs 2 ≡ Some c → slice_get xs 3 ≡ Some d → slice_get xs 4 ≡ None → xs ≡ a ∷ b ∷ c ∷ d ∷ []
list_of_four [] a b c d e f g h i = cc
list_of_four (x ∷ xs) a b c d e f g h i = let t = list_of_three xs b c d f g h i in let x' : x ≡ a = cc in cc

pub list_of_six : (xs : List (List ℕ)) (a b c d e f : List ℕ) → slice_get xs 0 ≡ Some a → slice_get xs 1 ≡ Some b
    → slice_get xs 2 ≡ Some c → slice_get xs 3 ≡ Some d → slice_get xs 4 ≡ Some e → slice_get xs 5 ≡ Some f
    → slice_get xs 6 ≡ None → xs ≡ a ∷ b ∷ c ∷ d ∷ e ∷ f ∷ []
list_of_six [] a b c d e f g h i j k l m = cc
list_of_six (x ∷ []) a b c d e f g h i j k l m = cc
list_of_six (x ∷ y ∷ xs) a b c d e f g h i j k l m =
    let t = list_of_four xs c d e f i j k l m in let x' : x ≡ a = cc in let y' : y ≡ b = cc in cc

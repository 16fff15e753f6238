-- Notes of reads, of an entry or of a word at a version, and what a look-up says by them.
use Rattle.std.specs.Prelude.{◌≡◌, ℕ, ◌+◌, ◌*◌, ◌/◌, ◌%◌, ◌^◌, ◌<◌, ◌≤◌}
use Rattle.vt_pages.specs.Shape.{Shape}
use Rattle.vt_pages.specs.Pages.{level_of, levels_of, ancestor_of, texel_page}
use Rattle.vt_draw.specs.declared.lookups.Found.{Found}

-- a note: at a version a page has an entry, which is 0 for unmapped and frame + 1 for mapped, or a frame has a word at a place
pub data Note : Type 0 where
  EntryNote : (version page entry : ℕ) → Note
  WordNote : (version frame place word : ℕ) → Note

-- the place of a texel in its page's tile, which goes row by row
abbrev pub place_in_tile : Shape → ℕ → ℕ → ℕ
place_in_tile s x y = y % s.tile * s.tile + x % s.tile

-- the page of the texel of a level that covers a place of level 0 (van Waveren 2012)
abbrev pub covering_page : Shape → ℕ → ℕ → ℕ → ℕ
covering_page s level column line = texel_page s level (column / 2 ^ level) (line / 2 ^ level)

-- the place in its page's tile of the texel of a level that covers a place of level 0
abbrev pub covering_place : Shape → ℕ → ℕ → ℕ → ℕ
covering_place s level column line = place_in_tile s (column / 2 ^ level) (line / 2 ^ level)

-- a page of the line of page p was found: by what is said it is mapped to the slot, and each finer page of the line is
-- unmapped (van Waveren 2012)
pub record IsFinestFound (s : Shape) (version : ℕ) (says : Note → Type 0) (p : ℕ) (found : Found) : Type 0 where
  pub no_finer : level_of s p ≤ found.level
  pub level_inside : found.level < levels_of s
  pub page : found.page ≡ ancestor_of s p found.level
  pub level : found.level ≡ level_of s found.page
  pub unmapped : (k : ℕ) → level_of s p ≤ k → k < found.level → says (EntryNote version (ancestor_of s p k) 0)
  pub mapped : says (EntryNote version found.page (found.slot + 1))

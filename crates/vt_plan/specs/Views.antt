-- What contracts see of the recency of mapped pages: the table, and the unpinned mapped pages, the most recent first.
use Rattle.std.specs.Prelude.{◌≡◌, ℕ, ◌+◌, ◌-◌, ◌<◌, ◌≤◌, ◌==◌, true, replicate, [], ◌++◌, nat_eq, nat_lt, nat_le, Bool, not, ◌&&◌, List, length, slice_index}
use Rattle.std.specs.List.{IsDistinct, count_by, filter, list_any, range_with_len}
use Rattle.vt_feedback.specs.Limits.{most_frames}
use Rattle.vt_feedback.specs.Shape.{Shape}
use Rattle.vt_feedback.specs.Pages.{pages_of, IsWithinLimits}
use Rattle.vt_feedback.specs.declared.Wanted.{Wanted}
use Rattle.vt_feedback.specs.Wants.{pages_wanted}
use Rattle.vt_plan.specs.PageLists.{is_in}
use Rattle.vt_plan.specs.Missing.{has_frame}
use Rattle.vt_plan.specs.Orders.{line_pages, put_first}

-- the shape of the pages, the numbers of frames and of pinned pages, an entry for each page (0 for unmapped, else its frame and 1), and the
-- unpinned mapped pages, the most recently used first
pub record RecencyView : Type 0 where
  pub shape : Shape
  pub frames : ℕ
  pub pinned : ℕ
  pub entries : List ℕ
  pub order : List ℕ

-- a page below the pinned ones has a frame
abbrev pub is_loose_below : List ℕ → ℕ → ℕ → Bool
is_loose_below entries unpinned p = nat_lt p unpinned && has_frame entries p

-- the frame of a mapped page
abbrev pub frame_of : List ℕ → ℕ → ℕ
frame_of entries p = slice_index entries p - 1

-- a page is one of the pinned ones, which have the last indexes (Mayer 2010)
abbrev pub is_pinned : RecencyView → ℕ → Bool
is_pinned v p = nat_le (pages_of v.shape) (p + v.pinned)

-- a page has a frame that may be given up
abbrev pub is_loose : RecencyView → ℕ → Bool
is_loose v p = has_frame v.entries p && not (is_pinned v p)

-- a page has this frame
abbrev pub is_held : List ℕ → ℕ → Bool
is_held entries f = list_any (λ e. e == f + 1) entries

-- the frames that no page has, by rising number
unfoldable pub free_frames : RecencyView → List ℕ
free_frames v = filter (λ f. not (is_held v.entries f)) (range_with_len 0 v.frames)

-- the pages that a wanted list stamps, by falling stamp: the unpinned mapped ones of its lines
unfoldable pub touched_pages : RecencyView → List Wanted → List ℕ
touched_pages v wants = filter (is_loose v) (line_pages v.shape (pages_wanted wants))

-- the table and the order after the stamps of a wanted list
abbrev pub touched : RecencyView → List Wanted → RecencyView
touched v wants = record v { order = put_first (touched_pages v wants) v.order }

-- how many unpinned pages are in the lines of a wanted list
unfoldable pub pages_needed : RecencyView → List Wanted → ℕ
pages_needed v wants = count_by (λ p. not (is_pinned v p)) (line_pages v.shape (pages_wanted wants))

-- what holds of every table that is kept: the pinned pages are mapped, no frame is held twice, and the order has the unpinned mapped pages, each once
pub record IsRecencyTable (v : RecencyView) : Type 0 where
  pub limits : IsWithinLimits v.shape
  pub most_frames : v.frames ≤ most_frames
  pub some_pinned : 1 ≤ v.pinned
  pub enough_frames : v.pinned ≤ v.frames
  pub enough_pages : v.pinned ≤ pages_of v.shape
  pub entries_for_all : length v.entries ≡ pages_of v.shape
  pub frames_inside : (p : ℕ) → slice_index v.entries p ≤ v.frames
  pub pinned_mapped : (p : ℕ) → p < pages_of v.shape → is_pinned v p ≡ true → has_frame v.entries p ≡ true
  pub apart : (p q : ℕ) → has_frame v.entries p ≡ true → slice_index v.entries p ≡ slice_index v.entries q → p ≡ q
  pub in_order : (p : ℕ) → is_in v.order p ≡ is_loose v p
  pub once : IsDistinct nat_eq v.order

-- the table in which only the pinned pages are mapped, to the first frames in the order of their indexes
unfoldable pub first_view : Shape → ℕ → ℕ → RecencyView
first_view s frames pinned = record {
  shape = s;
  frames = frames;
  pinned = pinned;
  entries = replicate (pages_of s - pinned) 0 ++ range_with_len 1 pinned;
  order = [];
}

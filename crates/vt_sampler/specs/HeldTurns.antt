-- The rows of a sampler that are drawn so far, each under a hold of its own.
use Rattle.std.specs.Prelude.{◌≡◌, ℕ, ◌+◌, ◌*◌, ◌<◌, ◌≤◌, true, Some, List, length, take, reverse, slice_index}
use Rattle.vt_definitions.specs.Limits.{most_samplers, most_picture_side}
use Rattle.vt_definitions.specs.Dealing.{sampler_of, turn_of, own_count}
use Rattle.vt_definitions.specs.Depths.{IsDepth}
use Rattle.vt_pages.specs.Shape.{Shape}
use Rattle.vt_pages.specs.Pages.{pages_of}
use Rattle.vt_lookup.specs.Paths.{PathView}
use Rattle.vt_lookup.specs.Shots.{shot_row, wants_in_rows}
use Rattle.vt_lookup.specs.Evidence.{AreShown}
use Rattle.vt_lookup.specs.Tokens.{IsPassOf}
use Rattle.vt_lookup.specs.Values.{WordsValue, PassValue}
use Rattle.vt_lookup.specs.GraceTypes.views.PassView.{PassView}
use Rattle.vt_lookup.specs.Notes.{FitsShape, IsNotedIn, HasHeldMore}
use Rattle.vt_lookup.specs.PicturesTypes.filters.Filter.{Ghosts as FilterMeanings}
use Rattle.vt_sampler.specs.Held.{WasHeld}
use Rattle.vt_sampler.specs.Samplers.{own_rows, row_in, row_length}
use Rattle.vt_sampler.specs.declared.held_rows.HeldRows.{HeldRows}

-- a sampler may draw the row of a turn: it has its pass of words that are as large as the texture asks, given at a version that maps the root, and
-- buffers for its rows, and has counted what the rows before want
pub record MayDrawTurn {P : Type 0} (filter : FilterMeanings P) (words : WordsValue) (s : Shape) (path : PathView)
    (picture depth sampler samplers line turn : ℕ) (q : PassValue) (versions bytes counts : List ℕ) : Type 0 where
  pub of : IsPassOf words q
  pub fits : FitsShape s words.sizes
  pub rooted : q.view.rooted ≡ true
  pub own : q.view.sampler ≡ sampler
  pub one_of : sampler < samplers
  pub few : samplers ≤ most_samplers
  pub depth_is : IsDepth depth
  pub picture_is : picture < length path.cameras
  pub wide : path.width ≤ most_picture_side
  pub high : path.height ≤ most_picture_side
  pub line_is : line ≡ row_length depth path.width
  pub rows : length versions ≡ own_count sampler samplers path.height
  pub room : length bytes ≡ own_count sampler samplers path.height * row_length depth path.width
  pub pages : length counts ≡ pages_of s
  pub counted : (p : ℕ) → p < length counts
      → slice_index counts p ≡ wants_in_rows filter.wants s path picture (own_rows sampler samplers (turn * samplers + sampler)) p

-- the rows of so many turns are drawn between two views of a pass, each at a version that it held, which never fell
pub record HasDrawnHeld {P : Type 0} (filter : FilterMeanings P) (s : Shape) (path : PathView) (picture depth sampler samplers turns : ℕ) (p q : PassView)
    (versions bytes : List ℕ) : Type 0 where
  pub holds : HasHeldMore p q (reverse (take turns versions))
  pub drawn : (y : ℕ) → y < turns * samplers + sampler → sampler_of y samplers ≡ sampler
      → AreShown filter.shown s depth (slice_index versions (turn_of y samplers)) (IsNotedIn q) (shot_row s path picture y) path.width
      (row_in samplers (row_length depth path.width) bytes y)
  pub held : (y : ℕ) → y < turns * samplers + sampler → sampler_of y samplers ≡ sampler → WasHeld p q (slice_index versions (turn_of y samplers))
  pub rising : (y z : ℕ) → z < turns * samplers + sampler → sampler_of y samplers ≡ sampler → sampler_of z samplers ≡ sampler → y ≤ z
      → slice_index versions (turn_of y samplers) ≤ slice_index versions (turn_of z samplers)

-- the rows of so many turns are drawn between two states of what a sampler has drawn
pub record HasDrawnTurns {P : Type 0} (filter : FilterMeanings P) (words : WordsValue) (s : Shape) (path : PathView)
    (picture depth sampler samplers line turns : ℕ) (a b : HeldRows) : Type 0 where
  pub first : PassValue
  pub last : PassValue
  pub had : a.pass ≡ Some first
  pub has : b.pass ≡ Some last
  pub may : MayDrawTurn filter words s path picture depth sampler samplers line turns last b.versions.items b.bytes.items b.counts.items
  pub held : HasDrawnHeld filter s path picture depth sampler samplers turns first.view last.view b.versions.items b.bytes.items

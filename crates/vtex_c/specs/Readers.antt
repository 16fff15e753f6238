-- What the calls from C do to a reader of a shared table, by the number that they answer.
use Rattle.std.specs.Prelude.{◌≡◌, ℕ, ◌*◌, ◌<◌, ◌≤◌, ◌⊎◌, Option, None, Some, List, length}
use Rattle.std.specs.List.{All}
use Rattle.vt_definitions.specs.Depths.{texel_length}
use Rattle.vt_pages.specs.Pages.{pages_of}
use Rattle.vt_draw.specs.declared.lookups.Found.{Found}
use Rattle.vt_residency.specs.declared.places.Place.{Place}
use Rattle.vt_texel_runs.specs.declared.points.Point.{Point}
use Rattle.vt_texel_runs.specs.declared.spans.Span.{Span}
use Rattle.vt_texel_runs.specs.Points.{IsPoint}
use Rattle.vt_shared.specs.Readers.{SharedReaderView, HoldsOne, HoldsNone, HasTakenHold, HasReleased, HasLookedUp, HasReadTexels, HasReadRun, HasBlendedRun}
use Rattle.vt_texel_runs.specs.Spans.{IsSpanInside}
use Rattle.vtex_c.specs.declared.reader.ReaderPlace.{ReaderPlace}

-- there is a reader before and after, and the two are related
abbrev pub Between : (SharedReaderView → SharedReaderView → Type 0) → Option SharedReaderView → Option SharedReaderView → Type 0
Between P None new = ⊥
Between P (Some a) None = ⊥
Between P (Some a) (Some b) = P a b

-- there is a reader, of which this holds
abbrev pub Holding : (SharedReaderView → Type 0) → Option SharedReaderView → Type 0
Holding P None = ⊥
Holding P (Some a) = P a

-- the reader's number was answered: 0; the reader is closed: 4
pub record IsNumbered (old : ReaderPlace) (before status answered : ℕ) (new : ReaderPlace) : Type 0 where
  pub same : new ≡ old
  pub statuses : (status ≡ 0) ⊎ (status ≡ 4)
  pub number : status ≡ 0 → Holding (λ a. answered ≡ a.sampler) old.inner
  pub closed : status ≡ 4 → old.inner ≡ None
  pub kept : (status ≡ 0 → ⊥) → answered ≡ before

-- the newest version is held: 0; the reader is closed: 4; it holds one already: 7
pub record IsNewestHeld (old : ReaderPlace) (before status version : ℕ) (new : ReaderPlace) : Type 0 where
  pub statuses : (status ≡ 0) ⊎ (status ≡ 4) ⊎ (status ≡ 7)
  pub held : status ≡ 0 → Between (λ a b. HasTakenHold a b version) old.inner new.inner
  pub same : (status ≡ 0 → ⊥) → new ≡ old
  pub kept : (status ≡ 0 → ⊥) → version ≡ before
  pub closed : status ≡ 4 → old.inner ≡ None
  pub held_already : status ≡ 7 → Holding HoldsOne old.inner

-- what was found, as the table below says it
abbrev pub found_in : Place → Found
found_in p = record { page = p.page; level = p.level; slot = p.frame }

-- a page was looked up: 0; there is no such page: 2; the reader is closed: 4; it holds nothing: 7
pub record IsFoundUnder (old : ReaderPlace) (page : ℕ) (before : Place) (status : ℕ) (after : Place) (new : ReaderPlace) : Type 0 where
  pub statuses : (status ≡ 0) ⊎ (status ≡ 2) ⊎ (status ≡ 4) ⊎ (status ≡ 7)
  pub inside : status ≡ 0 → Holding (λ a. page < pages_of a.shape) old.inner
  pub found : status ≡ 0 → Between (λ a b. HasLookedUp a b page (found_in after)) old.inner new.inner
  pub outside : status ≡ 2 → Holding (λ a. pages_of a.shape ≤ page) old.inner
  pub same : (status ≡ 0 → ⊥) → new ≡ old
  pub kept : (status ≡ 0 → ⊥) → after ≡ before
  pub closed : status ≡ 4 → old.inner ≡ None
  pub held_none : status ≡ 7 → Holding HoldsNone old.inner

-- the points are the texture's, and the room is as long as their texels
pub record AreFit (points : List Point) (bytes : ℕ) (r : SharedReaderView) : Type 0 where
  pub inside : All (IsPoint r.shape) points
  pub room : bytes ≡ texel_length r.depth * length points
  pub few : length points < 4294967296

-- texels were read: 0; a point is outside, or the room has another length: 2; the reader is closed: 4; it holds nothing: 7
pub record IsRead (old : ReaderPlace) (points : List Point) (before : List ℕ) (status : ℕ) (after : List ℕ) (new : ReaderPlace) : Type 0 where
  pub long : length after ≡ length before
  pub statuses : (status ≡ 0) ⊎ (status ≡ 2) ⊎ (status ≡ 4) ⊎ (status ≡ 7)
  pub inside : status ≡ 0 → Holding (AreFit points (length before)) old.inner
  pub read : status ≡ 0 → Between (λ a b. HasReadTexels a b points after) old.inner new.inner
  pub unfit : status ≡ 2 → Holding (λ a. AreFit points (length before) a → ⊥) old.inner
  pub same : (status ≡ 0 → ⊥) → new ≡ old
  pub kept : (status ≡ 0 → ⊥) → after ≡ before
  pub closed : status ≡ 4 → old.inner ≡ None
  pub held_none : status ≡ 7 → Holding HoldsNone old.inner

-- the points of a run are the texture's, the room is as long as its texels, and there is a page for each
pub record IsFit (span : Span) (bytes pages : ℕ) (r : SharedReaderView) : Type 0 where
  pub inside : IsSpanInside r.shape span
  pub room : bytes ≡ texel_length r.depth * span.count
  pub each : pages ≡ span.count

-- a run of texels was read in some way: 0; a point is outside, or a room has another length: 2; the reader is closed: 4; it holds nothing: 7
pub record IsRunReadBy (Reads : SharedReaderView → SharedReaderView → Span → List ℕ → List ℕ → Type 0) (old : ReaderPlace) (span : Span) (before was : List ℕ)
    (status : ℕ) (after are : List ℕ) (new : ReaderPlace) : Type 0 where
  pub long : length after ≡ length before
  pub wide : length are ≡ length was
  pub statuses : (status ≡ 0) ⊎ (status ≡ 2) ⊎ (status ≡ 4) ⊎ (status ≡ 7)
  pub inside : status ≡ 0 → Holding (IsFit span (length before) (length was)) old.inner
  pub read : status ≡ 0 → Between (λ a b. Reads a b span after are) old.inner new.inner
  pub unfit : status ≡ 2 → Holding (λ a. IsFit span (length before) (length was) a → ⊥) old.inner
  pub same : (status ≡ 0 → ⊥) → new ≡ old
  pub kept : (status ≡ 0 → ⊥) → (after ≡ before) × (are ≡ was)
  pub closed : status ≡ 4 → old.inner ≡ None
  pub held_none : status ≡ 7 → Holding HoldsNone old.inner

-- by the nearest texels
abbrev pub IsRunRead : ReaderPlace → Span → List ℕ → List ℕ → ℕ → List ℕ → List ℕ → ReaderPlace → Type 0
IsRunRead old span before was status after are new = IsRunReadBy HasReadRun old span before was status after are new

-- by bilinear filtering
abbrev pub IsRunBlended : ReaderPlace → Span → List ℕ → List ℕ → ℕ → List ℕ → List ℕ → ReaderPlace → Type 0
IsRunBlended old span before was status after are new = IsRunReadBy HasBlendedRun old span before was status after are new

-- the version is held no longer: 0; the reader is closed: 4; it held none: 7
pub record IsReleased (old : ReaderPlace) (status : ℕ) (new : ReaderPlace) : Type 0 where
  pub statuses : (status ≡ 0) ⊎ (status ≡ 4) ⊎ (status ≡ 7)
  pub released : status ≡ 0 → Between HasReleased old.inner new.inner
  pub same : (status ≡ 0 → ⊥) → new ≡ old
  pub closed : status ≡ 4 → old.inner ≡ None
  pub held_none : status ≡ 7 → Holding HoldsNone old.inner

-- a reader was closed: 0
pub record IsShut (old : ReaderPlace) (status : ℕ) (new : ReaderPlace) : Type 0 where
  pub done : status ≡ 0
  pub closed : new.inner ≡ None

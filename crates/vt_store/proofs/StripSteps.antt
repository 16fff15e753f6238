-- The steps of writing a store by strips: how one ends, and what is left after some.
use Rattle.std.proofs.Common.{◌≡◌, ℕ, ◌+◌, ◌-◌, ◌*◌, ◌<◌, ◌≤◌, inl, inr, Bool, Option, Some, List, take, min, refl, sym, ap, ◌∙◌, subst, arith, Ok, Err}
use Rattle.std.proofs.lemmas.Nat.{le-div}
use Rattle.std.specs.Prelude.{option_map, IfSome, Result}
use Rattle.std.specs.Result.{IsErrAnd}
use Rattle.vt_outside.specs.Counts.{Rose}
use Rattle.vt_outside.specs.Effects.{FolderEffect, FolderState}
use Rattle.vt_outside.specs.Files.{Files, with_appended}
use Rattle.vt_outside.specs.declared.answers.OutsideError.{OutsideError}
use Rattle.vt_outside.specs.declared.answers.OutsideError.TheVariants as outside_error
use Rattle.vt_outside.specs.declared.place.Place.{Place}
use Rattle.vt_ppm.specs.declared.header.Header.{Header}
use Rattle.vt_ppm.specs.Format.{depth_of}
use Rattle.vt_ppm.specs.StripPlaces.{strip_rows, StripsAsked}
use Rattle.vt_ppm.specs.Strips.{RowsAsked, sample_rows}
use Rattle.vt_pages.specs.Shape.{Shape, shape_of}
use Rattle.vt_pages.specs.Pages.{IsWithinLimits, columns_at, rows_at}
use Rattle.vt_tiles.specs.declared.error.StoreError.{StoreError}
use Rattle.vt_tiles.specs.declared.error.StoreError.TheVariants.{Failed}
use Rattle.vt_tiles.specs.Made.{HoldsMade, HoldsMadeFront}
use Rattle.vt_tiles.specs.Refusals.{IsOutsideRefusal, refusal_by}
use Rattle.vt_store.specs.StripStores.{strip_front, strip_tiles}
use Rattle.vt_store.specs.Rounds.{StripsAdded, StripsRead}
use Rattle.vt_store.specs.Steps.{AddsFront, AsksNoPlace, StepDone, StepStopped}
use Rattle.vt_store.specs.StripSteps.{StripsState, KeepsStrips, KeepsStep, IsNextStrip, StripMade, StripLost, StripRead, ReadsStrip, IsStripThere, StripTried, StripStep, StripsDone, StripsStopped, AddsStrips, state_store}
use Rattle.vt_store.proofs.StripStores.{store_made, made_moved, made_more, made_part, there_made}
use Rattle.vt_store.proofs.StripLevels.{all_taken, strip_inside}
use Rattle.vt_store.proofs.ReadStrips.{all_strips, high, read_front, read_more, read_next, read_none, read_tried, row_known, some_tile}
use Rattle.vt_store.proofs.StripTiles.{IsStrip, is_strip}
use Rattle.vt_store.proofs.WideStores.{rose_along}

-- a folder, from one state to another
abbrev pub between : FolderState → FolderState → FolderEffect
between f g = record { before = f; after = g }

pub asks_none : (f : FolderState) → AsksNoPlace (between f f)
asks_none f = record { asked = refl; faults = omega arith }

pub asks_on : (f g h : FolderState) → AsksNoPlace (between f g) → AsksNoPlace (between g h) → AsksNoPlace (between f h)
asks_on f g h p q = record { asked = q.asked ∙ p.asked; faults = omega (arith, p.faults, q.faults) }

-- its place, where it was asked by its row and number of rows
pub asked_at : (h : Header) (t i y count : ℕ) (failed : Bool) (p q : Option (List Place)) → y ≡ i * t → count ≡ strip_rows h t i
    → RowsAsked h y count failed p q → RowsAsked h (i * t) (strip_rows h t i) failed p q
asked_at h t i y count failed p q ey ec one =
    subst (λ (n : ℕ). RowsAsked h (i * t) n failed p q) ec (subst (λ (n : ℕ). RowsAsked h n count failed p q) ey one)

-- a strip's rows, where they were read by their first one and their number
pub rows_of_known : (known : Option (List ℕ)) (h : Header) (t i y count : ℕ) (rows : List ℕ) → y ≡ i * t → count ≡ strip_rows h t i
    → IfSome known (λ b. rows ≡ sample_rows h b y count) → IfSome known (λ b. rows ≡ sample_rows h b (i * t) (strip_rows h t i))
rows_of_known known h t i y count rows ey ec are =
    subst (λ (n : ℕ). IfSome known (λ b. rows ≡ sample_rows h b (i * t) n)) ec (subst (λ (n : ℕ). IfSome known (λ b. rows ≡ sample_rows h b n count)) ey are)

-- which of a strip's places were asked that was read, or not
pub read_of : {T E : Type 0} (s : Shape) (i : ℕ) (a b : StripsState) (rows : List ℕ) (r : Result T E) → ReadsStrip s i a b rows r → StripTried s i a b
read_of s i a b rows (Ok x) was = inr (inl was.read)
read_of s i a b rows (Err e) lost = inr (inr lost.read)

-- a strip that was read is there
pub there_after : (s : Shape) (i : ℕ) (a b : StripsState) (rows : List ℕ) → IsNextStrip s i a → KeepsStrips a b → StripRead s i a b rows → IsStripThere s i b
there_after s i a b rows next kept was = record {
  shape = ap (λ (h : Header). shape_of h.width h.height b.tile) kept.header ∙ ap (λ (t : ℕ). shape_of a.header.width a.header.height t) kept.tile ∙ next.shape;
  inside = next.inside;
  depth = was.depth ∙ next.depth ∙ ap (λ (h : Header). depth_of h.maximum) (sym kept.header);
  width = was.width ∙ next.width ∙ ap (λ (h : Header). h.width) (sym kept.header);
  height = was.height ∙ next.height ∙ ap (λ (h : Header). h.height) (sym kept.header);
  taken = was.taken ∙ next.taken;
}

-- the numbers of the next strip
pub is_next : (s : Shape) (i : ℕ) (a : StripsState) (columns : ℕ) → IsNextStrip s i a → IsWithinLimits s → columns ≡ columns_at s 0
    → IsStrip s a.header i (i * s.tile) (strip_rows a.header s.tile i) columns
is_next s i a columns next limits across =
    is_strip s a.header a.tile i s.tile (i * s.tile) s.height (strip_rows a.header s.tile i) columns next.shape limits next.inside refl refl refl
    (ap (λ (z : Shape). min s.tile (z.height - i * s.tile)) next.shape) across

-- The name holds the tiles of the first strips, those of strip i are made, and the strips up to it were read and halved
pub record IsAhead (s : Shape) (n : List ℕ) (i : ℕ) (a b : StripsState) (folder : FolderEffect) (row : List ℕ) : Type 0 where
  pub held : (before : Option Files) → HoldsMade a.known (strip_front s a.header 0) n before folder.before.files
      → HoldsMade a.known (strip_front s a.header (i * columns_at s 0)) n before folder.after.files
  pub tiles : (bytes : List ℕ) → a.known ≡ Some bytes → row ≡ strip_tiles s a.header i bytes
  pub strips : StripsRead s (i + 1) a b
  pub asks : AsksNoPlace folder

module _ (s : Shape) (n : List ℕ) (a : StripsState) (first : IsNextStrip s 0 a) (limits : IsWithinLimits s) where
  -- a prefix of the store, as callers see it
  pub seen : (before g : Option Files) → HoldsMadeFront a.known (store_made s a.header) n before g → HoldsMadeFront a.known (state_store a) n before g
  seen before g holds = subst (λ (z : Shape). HoldsMadeFront a.known (store_made z a.header) n before g) (sym first.shape) holds

  -- nothing was read and added
  pub added_none : (f : FolderState) → rows_at s 0 ≤ a.spare → StripsAdded s n 0 a a (between f f)
  added_none f enough = record {
    strips = read_none s a first limits enough;
    held = λ before h. made_moved a.known s a.header n before f.files 0 (0 * columns_at s 0) (omega arith) h;
    asks = asks_none f;
  }

  module _ (i : ℕ) (b : StripsState) (f g : FolderState) (was : StripsAdded s n i a b (between f g)) where
    -- the next strip was not read
    pub next_lost : (c : StripsState) → i < rows_at s 0 → StripLost s i b c → StripsStopped s n a c (between f g) Failed
    next_lost c inside lost = record {
      part = λ before h. seen before g.files
          (made_part a.known a.known s a.header a.header i n before g.files g.files refl refl (strip_inside s i limits.some_level inside)
          (was.held before h) (inl refl));
      front_read = read_tried s a first limits i b was.strips c inside (inr (inr lost.read));
      failed = λ _ before h. inr (let up : Rose b.faults c.faults = lost.rose in omega (arith, up, was.strips.kept.faults));
      outside = tt;
    }

    -- it was made
    pub ahead_begun : (c : StripsState) (tiles : List ℕ) → i < rows_at s 0 → StripMade s i b c tiles → KeepsStrips b c → b.spare ≤ c.spare + 1
        → IsAhead s n i a c (between f g) tiles
    ahead_begun c tiles inside made kept spare = record {
      held = was.held;
      tiles = row_known s a first limits i b was.strips c tiles made;
      strips = read_more s a first limits i b was.strips c tiles inside made kept spare;
      asks = was.asks;
    }

    -- there is none
    pub added_all : i ≡ rows_at s 0 → StripsDone s n a b (between f g)
    added_all all = record {
      whole = λ before begun. made_moved a.known s a.header n before g.files (i * columns_at s 0) (rows_at s 0 * columns_at s 0)
          (ap (λ (x : ℕ). x * columns_at s 0) all) (was.held before begun);
      all_read = subst (λ (x : ℕ). StripsAsked a.header s.tile x a.places b.places) (all ∙ sym (all_strips s a first limits)) was.strips.read;
      halves = was.strips.halves;
      all_taken = omega (
        arith,
        all_taken s (some_tile s a first limits),
        ap (λ (x : ℕ). x * s.tile) all,
        high s a first limits,
        first.height,
        was.strips.taken,
      );
      half_depth = was.strips.depth;
      half_width = was.strips.width;
      half_height = was.strips.height;
    }

  module _ (i : ℕ) (b : StripsState) (f g : FolderState) (tiles : List ℕ) (ahead : IsAhead s n i a b (between f g) tiles) where
    -- the next strip may be made
    pub ahead_next : i + 1 < rows_at s 0 → IsNextStrip s (i + 1) b
    ahead_next inside = read_next s a first limits (i + 1) b ahead.strips inside

    -- the tiles that are made, where some of them were added
    ahead_part : (p : ℕ) (h : Option Files) → h ≡ option_map (with_appended n (take p tiles)) g.files
        → (before : Option Files) → HoldsMade a.known (strip_front s a.header 0) n before f.files → HoldsMadeFront a.known (state_store a) n before h
    ahead_part p h held before begun = seen before h
        (made_part a.known a.known s a.header a.header i n before g.files h refl refl
        (strip_inside s i limits.some_level (omega (arith, ahead.strips.few))) (ahead.held before begun)
        (inr (record { more = tiles; part = p; held = held; same = ahead.tiles })))

    -- where all were added
    pub ahead_added : (h : FolderState) → h.files ≡ option_map (with_appended n tiles) g.files → AsksNoPlace (between g h)
        → StripsAdded s n (i + 1) a b (between f h)
    ahead_added h held asks = record {
      strips = ahead.strips;
      held = λ before begun. made_more a.known a.known s a.header a.header i n before g.files h.files refl refl (ahead.held before begun)
          (record { more = tiles; held = held; same = ahead.tiles });
      asks = asks_on f g h ahead.asks asks;
    }

    -- one step more
    pub ahead_more : (c : StripsState) (h : FolderState) (next : List ℕ) → i + 1 < rows_at s 0
        → StepDone (StripMade s (i + 1) b c next) n tiles (between g h) → KeepsStep b c (between g h) → IsAhead s n (i + 1) a c (between f h) next
    ahead_more c h next inside done kept =
        ahead_begun (i + 1) b f h (ahead_added h done.added kept.asks) c next inside done.made kept.strips kept.spare

    -- a step was refused
    pub ahead_stopped : (c : StripsState) (h : FolderState) (e : StoreError) → i + 1 < rows_at s 0
        → StepStopped (StripTried s (i + 1) b c) (Rose b.faults c.faults) n tiles (between g h) e → StripsStopped s n a c (between f h) e
    ahead_stopped c h e inside stopped = record {
      part = ahead_part stopped.part h.files stopped.held;
      front_read = read_tried s a first limits (i + 1) b ahead.strips c inside stopped.read;
      failed = λ is before begun. rose_along f.faults g.faults h.faults a.faults b.faults c.faults ahead.asks.faults ahead.strips.kept.faults
          (stopped.rose is (there_made a.known (strip_front s a.header (i * columns_at s 0)) n before g.files (ahead.held before begun)));
      outside = stopped.outside;
    }

    -- a row of tiles was refused
    pub row_refused : {T : Type 0} (h : FolderState) (e : OutsideError) (q : Result T StoreError)
        → IsErrAnd q (λ x. x ≡ refusal_by e) → AddsFront n tiles (between g h) e → AddsStrips s n a b (between f h) q
    row_refused h e (Ok x) is adds = absurd is
    row_refused h outside_error.Failed (Err x) is adds = record {
      part = ahead_part adds.part h.files adds.held;
      front_read = read_front s a first limits (i + 1) b ahead.strips;
      failed = λ _ before begun. rose_along f.faults g.faults h.faults a.faults b.faults b.faults ahead.asks.faults ahead.strips.kept.faults
          (inl (adds.rose refl (there_made a.known (strip_front s a.header (i * columns_at s 0)) n before g.files (ahead.held before begun))));
      outside = subst IsOutsideRefusal (sym is) tt;
    }
    row_refused h outside_error.NoMemory (Err x) is adds = record {
      part = ahead_part adds.part h.files adds.held;
      front_read = read_front s a first limits (i + 1) b ahead.strips;
      failed = λ failed before begun. let no : ⊥ = cc in absurd no;
      outside = subst IsOutsideRefusal (sym is) tt;
    }

-- a step in rooms that were lent
pub steps_in : {T : Type 0} (s : Shape) (i : ℕ) (n tiles tiles' next next' : List ℕ) (a b : StripsState) (folder : FolderEffect) (r : Result T StoreError)
    → tiles ≡ tiles' → next' ≡ next → StripStep s i n tiles next a b folder r → StripStep s i n tiles' next' a b folder r
steps_in s i n tiles tiles' next next' a b folder r lent back step =
    subst (λ (l : List ℕ). StripStep s i n tiles' l a b folder r) (sym back) (subst (λ (l : List ℕ). StripStep s i n l next a b folder r) lent step)

-- there is a strip
pub rows_some : (s : Shape) → IsWithinLimits s → 1 ≤ rows_at s 0
unfolding rows_at
rows_some s limits = le-div 1 (s.height + s.tile - 1) s.tile (omega (arith, limits.least_tile)) (omega (arith, limits.least_height))

-- in a room for a texture's strips the first one is next
pub first_next : (s : Shape) (a : StripsState) → shape_of a.header.width a.header.height a.tile ≡ s → IsWithinLimits s → rows_at s 0 ≤ a.spare
    → a.half.depth ≡ depth_of a.header.maximum → a.half.width ≡ s.width → a.half.height ≡ s.height → a.half.taken ≡ 0 → IsNextStrip s 0 a
first_next s a shape limits spare depth width height taken = record {
  shape = shape;
  inside = rows_some s limits;
  spare = omega (arith, rows_some s limits, spare);
  depth = depth;
  width = width ∙ sym (ap (λ (z : Shape). z.width) shape);
  height = height ∙ sym (ap (λ (z : Shape). z.height) shape);
  taken = omega (arith, taken);
}

-- what refused a step refuses the writing of the strips
pub stopped_by : {T : Type 0} (s : Shape) (n : List ℕ) (a b : StripsState) (folder : FolderEffect) (q : Result T StoreError) (e : StoreError)
    → IsErrAnd q (λ x. x ≡ e) → StripsStopped s n a b folder e → AddsStrips s n a b folder q
stopped_by s n a b folder (Ok x) e is stopped = absurd is
stopped_by s n a b folder (Err x) e is stopped = subst (λ (y : StoreError). StripsStopped s n a b folder y) (sym is) stopped

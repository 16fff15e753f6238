-- What the samplers of a machine work with.
use Rattle.std.specs.Prelude.{◌≡◌, ℕ, ◌≤◌, Some, List, [], length, map, slice_get}
use Rattle.vt_definitions.specs.Limits.{most_samplers}
use Rattle.vt_definitions.specs.Depths.{IsDepth}
use Rattle.vt_journal.specs.Shape.{Shape}
use Rattle.vt_journal.specs.Pages.{pages_of}
use Rattle.vt_pass_rows.specs.Paths.{ArePictureSides}
use Rattle.vt_pass_rows.specs.Samplers.{row_length}
use Rattle.vt_pass_rows.specs.PageTableTypes.table.PageTable.{Ghosts as TableMeanings}
use Rattle.vt_pass_rows.specs.SchedulesTypes.schedule.Schedule.{Ghosts as ScheduleMeanings}
use Rattle.vt_pass_rows.specs.SchedulesRows.{AreRowsInPlace}
use Rattle.vt_pass_rows.specs.declared.sampler.PassSampler.{PassSampler}
use Rattle.vt_pass_pool.specs.declared.pool.PassPool.{PassPool}

-- the ways of samplers to rows
abbrev pub ways_of : {T S H R W B O M : Type 0} → List (PassSampler T S H R W B O M) → List O
ways_of samplers = map (λ a. a.own) samplers

-- a sampler has this number, counts the pages of a texture, and keeps nothing
pub record IsSampler {T S H R W B O M : Type 0} (s : Shape) (number : ℕ) (a : PassSampler T S H R W B O M) : Type 0 where
  pub number_is : a.number ≡ number
  pub pages : length a.counts.items ≡ pages_of s
  pub none : a.kept.elements ≡ []

-- there are so many samplers, each at the place of its number
pub record AreSamplers {T S H R W B O M : Type 0} (s : Shape) (count : ℕ) (samplers : List (PassSampler T S H R W B O M)) : Type 0 where
  pub number : length samplers ≡ count
  pub each : (k : ℕ) (a : PassSampler T S H R W B O M) → slice_get samplers k ≡ Some a → IsSampler s k a

-- a sampler is the same but for its reader, its way and its room
pub record IsSameSampler {T S H R W B O M : Type 0} (a b : PassSampler T S H R W B O M) : Type 0 where
  pub number : b.number ≡ a.number
  pub counts : b.counts ≡ a.counts
  pub none : b.kept.elements ≡ []

pub record AreSameSamplers {T S H R W B O M : Type 0} (before after : List (PassSampler T S H R W B O M)) : Type 0 where
  pub count : length after ≡ length before
  pub each : (k : ℕ) (a b : PassSampler T S H R W B O M) → slice_get before k ≡ Some a → slice_get after k ≡ Some b → IsSameSampler a b

-- the reader of each sampler is at home
abbrev pub AreAtHome : {T S H R W B O M : Type 0} → TableMeanings T H R W → W → List (PassSampler T S H R W B O M) → Type 0
AreAtHome table w samplers = (k : ℕ) (a : _) → slice_get samplers k ≡ Some a → table.is_home w k a.reader

-- how many bytes a row of a pool's pictures has
abbrev pub line_length : {T S H R W B O M : Type 0} → PassPool T S H R W B O M → ℕ
line_length k = row_length k.depth k.width

-- what holds of a pool whose samplers are these
pub record IsPool {T S H R W B O M : Type 0} (k : PassPool T S H R W B O M) (samplers : List (PassSampler T S H R W B O M)) : Type 0 where
  pub some : 1 ≤ k.count
  pub few : k.count ≤ most_samplers
  pub depth : IsDepth k.depth
  pub sides : ArePictureSides k.width k.height
  pub samplers_are : AreSamplers k.geometry k.count samplers
  pub counts : length k.counts ≡ pages_of k.geometry
  pub number : length k.drawn.elements ≡ k.height
  pub no_lines : k.lines.elements ≡ []

-- between passes each reader is at home, and the pool has all rows, as they were drawn last
pub record IsIdlePool {T S H R W B O M : Type 0} (table : TableMeanings T H R W) (w : W) (k : PassPool T S H R W B O M) : Type 0 where
  pub pool : IsPool k k.samplers.elements
  pub home : AreAtHome table w k.samplers.elements
  pub rows : AreRowsInPlace k.height (line_length k) k.drawn.elements

-- they have the same readers
abbrev pub HaveSameReaders : {T S H R W B O M : Type 0} → List (PassSampler T S H R W B O M) → List (PassSampler T S H R W B O M) → Type 0
HaveSameReaders before after = (k : ℕ) (a b : _) → slice_get before k ≡ Some a → slice_get after k ≡ Some b → b.reader ≡ a.reader

-- a sampler has a way to the rows of a picture of so many, and room for them
pub record HasWay {T S H R W B O M : Type 0} (schedule : ScheduleMeanings S B O M) (rows : B) (height line : ℕ) (a : PassSampler T S H R W B O M) : Type 0 where
  pub of : schedule.is_of rows height line a.own
  pub room : height ≤ a.kept.spare

abbrev pub HaveWays : {T S H R W B O M : Type 0} → ScheduleMeanings S B O M → B → ℕ → ℕ → List (PassSampler T S H R W B O M) → Type 0
HaveWays schedule rows height line samplers = (k : ℕ) (a : _) → slice_get samplers k ≡ Some a → HasWay schedule rows height line a

-- the reader of a sampler was opened for a pass that starts at a version
pub record IsOpenedSampler {T S H R W B O M : Type 0} (table : TableMeanings T H R W) (shared : H) (s : Shape) (start number : ℕ)
    (a b : PassSampler T S H R W B O M) : Type 0 where
  pub rest : b ≡ record a { reader = b.reader }
  pub opened : table.is_open shared s number b.reader
  pub start_is : table.start b.reader ≡ start

pub record AreOpened {T S H R W B O M : Type 0} (table : TableMeanings T H R W) (shared : H) (s : Shape) (start : ℕ)
    (before after : List (PassSampler T S H R W B O M)) : Type 0 where
  pub count : length after ≡ length before
  pub each : (k : ℕ) (a b : PassSampler T S H R W B O M) → slice_get before k ≡ Some a → slice_get after k ≡ Some b
      → IsOpenedSampler table shared s start k a b

-- a sampler is ready for a pass that starts at a version: its reader was opened, and it has a way to rows and room for them
pub record IsReadySampler {T S H R W B O M : Type 0} (table : TableMeanings T H R W) (schedule : ScheduleMeanings S B O M) (shared : H) (rows : B) (s : Shape)
    (height line start number : ℕ) (a : PassSampler T S H R W B O M) : Type 0 where
  pub opened : table.is_open shared s number a.reader
  pub start_is : table.start a.reader ≡ start
  pub of : schedule.is_of rows height line a.own
  pub room : height ≤ a.kept.spare

abbrev pub AreReady : {T S H R W B O M : Type 0} → TableMeanings T H R W → ScheduleMeanings S B O M → H → B → Shape → ℕ → ℕ → ℕ
    → List (PassSampler T S H R W B O M) → Type 0
AreReady table schedule shared rows s height line start samplers =
    (k : ℕ) (a : _) → slice_get samplers k ≡ Some a → IsReadySampler table schedule shared rows s height line start k a

-- all rows were dealt to the samplers, whose readers are still at home
pub record IsDealtPool {T S H R W B O M : Type 0} (table : TableMeanings T H R W) (schedule : ScheduleMeanings S B O M) (w : W) (rows : B)
    (k : PassPool T S H R W B O M) : Type 0 where
  pub pool : IsPool k k.samplers.elements
  pub home : AreAtHome table w k.samplers.elements
  pub ways : HaveWays schedule rows k.height (line_length k) k.samplers.elements
  pub home_is : schedule.is_home rows k.home
  pub dealt : schedule.has_dealt rows k.height (line_length k) k.count (ways_of k.samplers.elements) k.home
  pub line_room : k.height ≤ k.lines.spare

-- a pass that starts at a version is prepared: these samplers are ready, and all rows were dealt to them
pub record IsReadyPool {T S H R W B O M : Type 0} (table : TableMeanings T H R W) (schedule : ScheduleMeanings S B O M) (shared : H) (rows : B) (start : ℕ)
    (k : PassPool T S H R W B O M) (samplers : List (PassSampler T S H R W B O M)) : Type 0 where
  pub pool : IsPool k samplers
  pub ready : AreReady table schedule shared rows k.geometry k.height (line_length k) start samplers
  pub home_is : schedule.is_home rows k.home
  pub dealt : schedule.has_dealt rows k.height (line_length k) k.count (ways_of samplers) k.home
  pub line_room : k.height ≤ k.lines.spare

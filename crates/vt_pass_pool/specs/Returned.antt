-- Samplers that come home after a pass.
use Rattle.std.specs.Prelude.{◌≡◌, ℕ, ◌^◌, ◌<◌, ◌≤◌, Bool, Some, List, [], length, slice_get, All}
use Rattle.vt_journal.specs.Shape.{Shape}
use Rattle.vt_pass_rows.specs.DrawLookups.{Note}
use Rattle.vt_pass_rows.specs.PageTableTypes.table.PageTable.{Ghosts as TableMeanings}
use Rattle.vt_pass_rows.specs.SchedulesTypes.schedule.Schedule.{Ghosts as ScheduleMeanings}
use Rattle.vt_pass_rows.specs.SchedulesRows.{AreTaken, AreAllRows}
use Rattle.vt_pass_rows.specs.declared.sampler.PassSampler.{PassSampler}
use Rattle.vt_pass_pool.specs.Pools.{ways_of}
use Rattle.vt_pass_pool.specs.Placing.{IsRowInside, rows_kept, counted_by}

-- a sampler is out: it is at the place of its number, its reader may draw, its way is one to rows, and its rows are of a picture of so many
pub record IsOut {T S H R W B O M : Type 0} (table : TableMeanings T H R W) (schedule : ScheduleMeanings S B O M) (shared : H) (rows : B) (s : Shape)
    (height number : ℕ) (a : PassSampler T S H R W B O M) : Type 0 where
  pub number_is : a.number ≡ number
  pub may : table.may_draw shared s a.number a.reader
  pub way : (h : ℕ) × (line : ℕ) × schedule.is_of rows h line a.own
  pub inside : All (IsRowInside height) a.kept.elements

abbrev pub AreOut : {T S H R W B O M : Type 0} → TableMeanings T H R W → ScheduleMeanings S B O M → H → B → Shape → ℕ
    → List (PassSampler T S H R W B O M) → Type 0
AreOut table schedule shared rows s height samplers = (k : ℕ) (a : _) → slice_get samplers k ≡ Some a → IsOut table schedule shared rows s height k a

-- the reader of a sampler was closed between two views of a writer: it came home, what it said is known, and so are the versions at which it drew
pub record IsClosed {T S H R W B O M : Type 0} (table : TableMeanings T H R W) (v w : W) (a b : PassSampler T S H R W B O M) : Type 0 where
  pub came : table.came v w a.number a.reader b.reader
  pub known : (note : Note) → table.says a.reader note → table.knows w note
  pub at : (r : R) (version : ℕ) → table.drew r a.reader version → table.was_at w a.number b.reader version
  pub newest : (r : R) (version : ℕ) → table.drew r a.reader version → version ≤ length (table.journal w)

abbrev pub AreClosed : {T S H R W B O M : Type 0} → TableMeanings T H R W → W → W → List (PassSampler T S H R W B O M)
    → List (PassSampler T S H R W B O M) → Type 0
AreClosed table v w before after = (k : ℕ) (a b : _) → slice_get before k ≡ Some a → slice_get after k ≡ Some b → IsClosed table v w a b

-- by ways that were dealt to them samplers took the rows that they keep, until there was nothing more to take
pub record HaveTaken {T S H R W B O M : Type 0} (schedule : ScheduleMeanings S B O M) (rows : B) (height line count : ℕ) (firsts : List O) (home : M)
    (samplers : List (PassSampler T S H R W B O M)) : Type 0 where
  pub gathered : schedule.has_gathered rows height line count firsts [] home
  pub took : AreTaken (schedule.took height line) count firsts (ways_of samplers) (rows_kept samplers)
  pub ended : AreTaken (schedule.ended height line) count firsts (ways_of samplers) (rows_kept samplers)

-- where their rows are each row of a picture once, what samplers have counted together is below the bound of counts
abbrev pub MayCount : {T S H R W B O M : Type 0} → Bool → ℕ → ℕ → ℕ → List (PassSampler T S H R W B O M) → Type 0
MayCount dealt height count pages samplers =
    AreAllRows dealt height count (rows_kept samplers) → (p : ℕ) → p < pages → counted_by samplers p < 2 ^ 32

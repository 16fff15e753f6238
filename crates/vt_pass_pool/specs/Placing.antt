-- Rows that are put into the places of their numbers.
use Rattle.std.specs.Prelude.{◌≡◌, ◌≢◌, ℕ, ◌<◌, ◌≤◌, ◌⊎◌, Some, List, [], ◌∷◌, ◌++◌, length, map, slice_get, slice_index, slice_index_or, sum_by, Contains}
use Rattle.vt_journal.specs.declared.changes.RowLine.{RowLine}
use Rattle.vt_pass_rows.specs.SchedulesTypes.bag.RowJob.{RowJob}
use Rattle.vt_pass_rows.specs.SharedRows.{rows_of}
use Rattle.vt_pass_rows.specs.declared.sampler.PassSampler.{PassSampler}

-- its number is below that of the rows
abbrev pub IsRowInside : ℕ → RowJob → Type 0
IsRowInside height job = job.row < height

-- at a place is one of these rows, which has its number; or, where none has it, what was there
abbrev pub IsPlacedAt : List RowJob → ℕ → RowJob → RowJob → Type 0
IsPlacedAt jobs y old new = ((new ≡ old) × ((job : RowJob) → Contains jobs job → job.row ≢ y)) ⊎ (Contains jobs new × (new.row ≡ y))

-- rows were put into the places of their numbers
pub record ArePlaced (jobs old new : List RowJob) : Type 0 where
  pub number : length new ≡ length old
  pub each : (y : ℕ) (d : RowJob) → y < length old → IsPlacedAt jobs y (slice_index_or old y d) (slice_index_or new y d)

-- the rows that samplers keep, one sampler's after the other's
abbrev pub all_kept : {T S H R W B O M : Type 0} → List (PassSampler T S H R W B O M) → List RowJob
all_kept [] = []
all_kept (a ∷ others) = a.kept.elements ++ all_kept others

-- the numbers of the rows that each of some samplers keeps
abbrev pub rows_kept : {T S H R W B O M : Type 0} → List (PassSampler T S H R W B O M) → List (List ℕ)
rows_kept samplers = map (λ a. rows_of a.kept.elements) samplers

-- how many texels of a page samplers have counted together
abbrev pub counted_by : {T S H R W B O M : Type 0} → List (PassSampler T S H R W B O M) → ℕ → ℕ
counted_by samplers p = sum_by (λ a. slice_index a.counts.items p) samplers

-- by whom a row was drawn, and at which version
abbrev pub line_of : RowJob → RowLine
line_of job = record { row = job.row; sampler = job.sampler; version = job.version }

abbrev pub lines_of : List RowJob → List RowLine
lines_of jobs = map line_of jobs

-- the bytes of rows
abbrev pub bytes_of : List RowJob → List (List ℕ)
bytes_of jobs = map (λ job. job.samples.elements) jobs

-- the versions of the rows of one sampler never fall
abbrev pub RiseBySampler : List RowJob → Type 0
RiseBySampler jobs = (i j : ℕ) (a b : RowJob) → i < j → slice_get jobs i ≡ Some a → slice_get jobs j ≡ Some b → a.sampler ≡ b.sampler
    → a.version ≤ b.version

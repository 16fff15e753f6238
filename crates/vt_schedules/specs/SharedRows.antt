-- Rows that samplers take, draw and keep, and those of a bag.
use Rattle.std.specs.Prelude.{◌≡◌, ℕ, ◌<◌, ◌≤◌, List, ◌++◌, map, length, All, AllPairs}
use Rattle.std.specs.List.{range_with_len}
use Rattle.vt_queue.specs.declared.views.PassView.{PassView}
use Rattle.vt_queue.specs.PassViews.{pass_view}
use Rattle.vt_queue.specs.Orders.{items_of}
use Rattle.vt_schedules.specs.declared.bag.RowJob.{RowJob}

-- the numbers of rows
abbrev pub rows_of : List RowJob → List ℕ
rows_of jobs = map (λ job. job.row) jobs

-- the versions at which rows were drawn
abbrev pub versions_of : List RowJob → List ℕ
versions_of jobs = map (λ job. job.version) jobs

-- it is a row of a picture of so many, with as many bytes as a row has
pub record FitsRow (height line : ℕ) (job : RowJob) : Type 0 where
  pub inside : job.row < height
  pub full : length job.samples.elements ≡ line

-- all rows of a picture were put, from the top, each at the place of its number
pub record AreRowsPut (height line : ℕ) (put : List (ℕ × RowJob)) : Type 0 where
  pub all : rows_of (items_of put) ≡ range_with_len 0 height
  pub each : All (λ entry. (entry.1.row ≡ entry.0) × FitsRow height line entry.1) put

-- entries whose places rise
abbrev pub Rise : List (ℕ × RowJob) → Type 0
Rise entries = AllPairs (λ a b. a.0 < b.0) entries

-- a pass took these
abbrev pub Took : PassView RowJob → List (ℕ × RowJob) → PassView RowJob → Type 0
Took v got w = w ≡ pass_view v.shares v.known v.put (v.took ++ got)

-- versions that do not fall
abbrev pub VersionsRise : List RowJob → Type 0
VersionsRise jobs = AllPairs (λ a b. a.version ≤ b.version) jobs

-- Rows that are dealt.
use Rattle.std.specs.Prelude.{◌≡◌, ℕ, ◌≤◌, ◌⊎◌, Some, List, [], ◌++◌, length, reverse, slice_get}
use Rattle.vt_definitions.specs.Dealing.{sampler_of}
use Rattle.vt_sampler.specs.Samplers.{own_rows}
use Rattle.vt_schedules.specs.declared.bag.RowJob.{RowJob}
use Rattle.vt_schedules.specs.SharedRows.{rows_of}
use Rattle.vt_schedules.specs.declared.dealt.DealtWay.{DealtWay}

-- a way has rows, the next one last: these were taken from it, the first one first
abbrev pub TookDealt : List RowJob → List RowJob → List ℕ → Type 0
TookDealt first own rows = rows_of first ≡ rows_of own ++ reverse rows

-- none is left, or as many were taken as the picture has
abbrev pub EndsDealt : ℕ → List RowJob → List ℕ → Type 0
EndsDealt height own rows = (own ≡ []) ⊎ (height ≤ length rows)

-- each row of a sampler is in its place
abbrev pub AreOwnInPlace : ℕ → ℕ → ℕ → ℕ → List RowJob → Type 0
AreOwnInPlace height line samplers number jobs = (y : ℕ) (job : RowJob) → sampler_of y samplers ≡ number → slice_get jobs y ≡ Some job
    → (job.row ≡ y) × (length job.samples.elements ≡ line)

-- the ways of the first samplers have their rows, and the rows of the others are in their places
pub record AreDealt (height line samplers : ℕ) (owns : List DealtWay) (jobs : List RowJob) : Type 0 where
  pub some : 1 ≤ samplers
  pub number : length jobs ≡ height
  pub left : (k : ℕ) → length owns ≤ k → AreOwnInPlace height line samplers k jobs
  pub each : (k : ℕ) (own : DealtWay) → slice_get owns k ≡ Some own → rows_of own.jobs.elements ≡ reverse (own_rows k samplers height)

-- ways that had the rows of their samplers
pub record AreDealtWays (height samplers : ℕ) (owns : List DealtWay) : Type 0 where
  pub some : 1 ≤ samplers
  pub each : (k : ℕ) (own : DealtWay) → slice_get owns k ≡ Some own → rows_of own.jobs.elements ≡ reverse (own_rows k samplers height)

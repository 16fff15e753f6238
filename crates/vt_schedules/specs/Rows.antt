-- The rows that samplers took.
use Rattle.std.specs.Prelude.{◌≡◌, ℕ, ◌<◌, Bool, IsTrue, Some, List, length, slice_get, Contains, AllPairs, IsPermutation}
use Rattle.std.specs.List.{concat, range_with_len}
use Rattle.vt_definitions.specs.Dealing.{sampler_of}
use Rattle.vt_schedules.specs.declared.bag.RowJob.{RowJob}

-- the rows of a picture of so many, each at its place, with as many bytes as a row has
pub record AreRowsInPlace (height line : ℕ) (jobs : List RowJob) : Type 0 where
  pub number : length jobs ≡ height
  pub each : (y : ℕ) (job : RowJob) → slice_get jobs y ≡ Some job → (job.row ≡ y) × (length job.samples.elements ≡ line)

-- of so many samplers each took some rows, by its way as it was first and last
pub record AreTaken {O : Type 0} (took : O → O → List ℕ → Type 0) (samplers : ℕ) (firsts lasts : List O) (rows : List (List ℕ)) : Type 0 where
  pub firsts_number : length firsts ≡ samplers
  pub lasts_number : length lasts ≡ samplers
  pub rows_number : length rows ≡ samplers
  pub each : (k : ℕ) (first last : O) (own : List ℕ) → slice_get firsts k ≡ Some first → slice_get lasts k ≡ Some last
      → slice_get rows k ≡ Some own → took first last own

-- the rows that samplers took are each row of a picture once, those of one sampler rise, and where they are dealt they are those of its turns
pub record AreAllRows (dealt : Bool) (height samplers : ℕ) (rows : List (List ℕ)) : Type 0 where
  pub once : IsPermutation (range_with_len 0 height) (concat rows)
  pub rise : (k : ℕ) (own : List ℕ) → slice_get rows k ≡ Some own → AllPairs (λ a b. a < b) own
  pub dealt_to : IsTrue dealt → (k : ℕ) (own : List ℕ) (y : ℕ) → slice_get rows k ≡ Some own → Contains own y → sampler_of y samplers ≡ k

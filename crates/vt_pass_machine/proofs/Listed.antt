-- What is at a place of a list that is made of another.
use Rattle.std.proofs.Common.{◌≡◌, ℕ, zero, suc, List, [], ◌∷◌, get_or, map, Some, refl, ap, ◌∙◌}
use Rattle.std.specs.Prelude.{slice_get}
use Rattle.std.proofs.lemmas.List.{get_or-map}
use Rattle.std.proofs.lemmas.Option.{none-some, same_Some, slice_get_within, get_or_from_slice_get}
use Rattle.vt_pass_pool.specs.SchedulesTypes.bag.RowJob.{RowJob}
use Rattle.vt_pass_pool.specs.Placing.{bytes_of}

pub made_of : {X Y : Type 0} (f : X → Y) (xs : List X) (n : ℕ) (y : Y) → slice_get (map f xs) n ≡ Some y
    → (x : X) × (slice_get xs n ≡ Some x) × (f x ≡ y)
made_of f [] n y is = absurd (none-some y is)
made_of f (x ∷ xs) zero y is = (x, refl, same_Some (f x) y is)
made_of f (x ∷ xs) (suc n) y is = made_of f xs n y is

-- the bytes of the row at a place
pub bytes_at : (jobs : List RowJob) (y : ℕ) (job : RowJob) → slice_get jobs y ≡ Some job → get_or (bytes_of jobs) y [] ≡ job.samples.elements
bytes_at jobs y job is =
    get_or-map (λ (j : RowJob). j.samples.elements) jobs y job [] (slice_get_within jobs y job is)
    ∙ ap (λ (j : RowJob). j.samples.elements) (get_or_from_slice_get jobs y job job is)

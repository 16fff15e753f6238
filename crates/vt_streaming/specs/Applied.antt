-- What results do to a writer, one after another, where it is said what putting an entry with a tile does.
use Rattle.std.specs.Prelude.{◌≡◌, ℕ, Bool, true, false, Option, Some, None, List, [], ◌∷◌, slice_get}
use Rattle.vt_requests.specs.PlanTypes.batches.Planned.{Planned}
use Rattle.vt_queue.specs.declared.items.Loaded.{Loaded}
use Rattle.vt_requests.specs.Readings.{is_lost}

-- a result was applied to an entry: where it is lost, the writer is as before; where it was read, the entry was put with its tile
abbrev pub IsAppliedIf : {W : Type 0} → (Planned → List ℕ → W → W → Type 0) → Planned → Bool → List ℕ → W → W → Type 0
IsAppliedIf put e true tile v w = w ≡ v
IsAppliedIf put e false tile v w = put e tile v w

-- it was applied to the entry at a place, if there is one
abbrev pub IsAppliedAt : {W : Type 0} → (Planned → List ℕ → W → W → Type 0) → Option Planned → Bool → List ℕ → W → W → Type 0
IsAppliedAt put None lost tile v w = w ≡ v
IsAppliedAt put (Some e) lost tile v w = IsAppliedIf put e lost tile v w

-- it was applied to the entry of its ticket, with its buffer as the tile
abbrev pub IsApplied : {W : Type 0} → (Planned → List ℕ → W → W → Type 0) → List Planned → Loaded → W → W → Type 0
IsApplied put batch result v w = IsAppliedAt put (slice_get batch result.request.ticket) (is_lost result.outcome) result.request.buffer.elements v w

-- results were applied one after another, in the order in which they came, and nothing else was done
abbrev pub AreApplied : {W : Type 0} → (Planned → List ℕ → W → W → Type 0) → List Planned → List Loaded → W → W → Type 0
AreApplied put batch [] v w = w ≡ v
AreApplied put batch (result ∷ results) v w = (between : _) × IsApplied put batch result v between × AreApplied put batch results between w

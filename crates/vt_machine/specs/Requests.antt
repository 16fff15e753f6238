-- What a pass asks of the files of its loaders: each tile of its batch once, and nothing else.
use Rattle.std.specs.Prelude.{◌≡◌, ℕ, ◌+◌, ◌≤◌, Bool, not, ◌==◌, ◌&&◌, Option, IsSome, is_some, unwrap_or, List, [], length, map, sum_by, count_by, All}
use Rattle.vt_outside.specs.declared.place.Place.{Place}
use Rattle.vt_outside.specs.Places.{times_asked, times_failed}
use Rattle.vt_outside.specs.Counts.{RoseTogetherBy}
use Rattle.vt_pages.specs.Shape.{Shape}
use Rattle.vt_evict.specs.PlanTypes.batches.Planned.{Planned}
use Rattle.vt_evict.specs.Batches.{read_entries}
use Rattle.vt_tiles.specs.Format.{tile_start, tile_length}
use Rattle.vt_machine.specs.Outcomes.{lost_count}

-- a loader's file: its name, the places it was asked, where they are known, and its count of faults
pub record FileState : Type 0 where
  pub name : List ℕ
  pub asked : Option (List Place)
  pub faults : ℕ

-- each file tells the places it was asked
abbrev pub AllKnown : List FileState → Type 0
AllKnown files = All (λ f. IsSome f.asked) files

-- how often all the files together were asked a place
abbrev pub times_asked_by : List FileState → ℕ → ℕ → ℕ
times_asked_by files at len = sum_by (λ f. times_asked at len (unwrap_or f.asked [])) files

-- how often they were asked it and the read failed
abbrev pub times_failed_by : List FileState → ℕ → ℕ → ℕ
times_failed_by files at len = sum_by (λ f. times_failed at len (unwrap_or f.asked [])) files

-- so many bytes from a place on are a page's tile
abbrev pub is_tile_at : Shape → ℕ → ℕ → ℕ → ℕ → Bool
is_tile_at s d at len page = tile_start s d page == at && tile_length s d == len

-- how often a place is that of an entry's tile
abbrev pub times_planned : Shape → ℕ → List Planned → ℕ → ℕ → ℕ
times_planned s d batch at len = count_by (λ e. is_tile_at s d at len e.page) batch

-- the entries that were lost
abbrev pub lost_entries : List Planned → List Bool → List Planned
lost_entries batch losses = read_entries batch (map not losses)

-- each request once: the files were asked each place as often as it is that of an entry, and the read failed as often as it is that of a
-- lost one
pub record AreAskedOnce (s : Shape) (d : ℕ) (batch : List Planned) (losses : List Bool) (before after : List FileState) : Type 0 where
  pub asked : (at len : ℕ) → times_asked_by after at len ≡ times_asked_by before at len + times_planned s d batch at len
  pub failed : (at len : ℕ) → times_failed_by after at len ≡ times_failed_by before at len + times_planned s d (lost_entries batch losses) at len

-- no request twice: the files were asked each place at most as often as it is that of an entry
abbrev pub AreAskedAtMostOnce : Shape → ℕ → List Planned → List FileState → List FileState → Type 0
AreAskedAtMostOnce s d batch before after = (at len : ℕ) → times_asked_by after at len ≤ times_asked_by before at len + times_planned s d batch at len

-- the counts of faults
abbrev pub counts_of : List FileState → List ℕ
counts_of files = map (λ f. f.faults) files

-- they are the same files, and tell their places where they did
pub record AreSameFiles (before after : List FileState) : Type 0 where
  pub names : map (λ f. f.name) after ≡ map (λ f. f.name) before
  pub all_known : map (λ f. is_some f.asked) after ≡ map (λ f. is_some f.asked) before

-- the files were read for a batch: where they tell their places, each request was made once, and their counts rose together by the lost entries
pub record AreReadFor (s : Shape) (d : ℕ) (batch : List Planned) (losses : List Bool) (before after : List FileState) : Type 0 where
  pub same : AreSameFiles before after
  pub once : AllKnown before → AreAskedOnce s d batch losses before after
  pub faults : RoseTogetherBy (lost_count losses) (counts_of before) (counts_of after)

-- the files were read for a part of a batch: where they tell their places, each request was made at most once, and a read failed at most as
-- often as it is that of some entries, by which their counts rose together
pub record ArePartlyReadFor (s : Shape) (d : ℕ) (batch : List Planned) (before after : List FileState) : Type 0 where
  pub same : AreSameFiles before after
  pub at_most_once : AllKnown before → AreAskedAtMostOnce s d batch before after
  pub lost : List Planned
  pub failed : AllKnown before → (at len : ℕ) → times_failed_by after at len ≤ times_failed_by before at len + times_planned s d lost at len
  pub faults : RoseTogetherBy (length lost) (counts_of before) (counts_of after)

-- What the pictures of a run show: each row of the last pass, at the version that it names.
use Rattle.std.specs.Prelude.{ℕ, ◌==◌, if◌then◌else◌, List, [], ◌∷◌}
use Rattle.vt_journal.specs.declared.changes.RowLine.{RowLine}
use Rattle.vt_journal.specs.Changes.{Table}
use Rattle.vt_walk_decisions.specs.Replays.{IsReplayOf}
use Rattle.vt_walk.specs.Fits.{WalkSetup}
use Rattle.vt_walk.specs.Runs.{WalkPass, journal_after}

-- the rows of a picture's last pass
abbrev pub last_rows : List WalkPass → ℕ → List RowLine
last_rows [] picture = []
last_rows (p ∷ passes) picture = if p.picture == picture then p.rows else last_rows passes picture

-- a run up to a picture's last pass
abbrev pub run_through : List WalkPass → ℕ → List WalkPass
run_through [] picture = []
run_through (p ∷ passes) picture = if p.picture == picture then p ∷ passes else run_through passes picture

-- the samples of a picture of a run, where a pixel is what the page table shows of it (van Waveren 2012)
abbrev pub IsRunPicture : WalkSetup → List WalkPass → ℕ → ℕ → (Table → ℕ → ℕ → ℕ → List ℕ) → ℕ → List ℕ → Type 0
IsRunPicture w passes d width pixel picture samples =
    IsReplayOf d width w.height (λ m x y. pixel m picture x y) (journal_after w passes) (last_rows passes picture) samples

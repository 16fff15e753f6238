-- What a walk has counted of a picture's passes.
use Rattle.std.specs.Prelude.{ℕ, List, length}
use Rattle.vt_walk_decisions.specs.declared.tallies.Tally.{Tally}
use Rattle.vt_walk.specs.Runs.{WalkPass}
use Rattle.vt_walk_decisions.specs.Tallies.{is_load, is_loss, is_eviction}
use Rattle.vt_walk.specs.Logs.{events_in, line_of_numbers}

-- the tally of passes
abbrev pub tally_of : List WalkPass → Tally
tally_of passes = record {
  passes = length passes;
  loaded = events_in is_load passes;
  lost = events_in is_loss passes;
  evicted = events_in is_eviction passes;
}

-- the line of a picture that wants so many pages, by the tally of its passes
abbrev pub numbers_line : ℕ → ℕ → Tally → List ℕ
numbers_line picture wanted t = line_of_numbers picture t.passes wanted t.loaded t.lost t.evicted

-- What a walk prints: a line for each picture, and the last line.
use Rattle.std.specs.Prelude.{ℕ, ◌+◌, ◌==◌, Bool, List, [], ◌∷◌, ◌++◌, length, sum_by, count_by, codes, flat_map}
use Rattle.std.specs.List.{filter, range_with_len}
use Rattle.vt_text.specs.Numbers.{number_spelling}
use Rattle.vt_journal.specs.declared.changes.Event.{Event}
use Rattle.vt_walk_decisions.specs.Tallies.{is_load, is_loss, is_eviction}
use Rattle.vt_walk.specs.Fits.{WalkSetup}
use Rattle.vt_walk.specs.Runs.{WalkPass, planned_in}

-- the passes of a picture
abbrev pub passes_of : ℕ → List WalkPass → List WalkPass
passes_of picture passes = filter (λ p. p.picture == picture) passes

-- how many pages are wanted in a picture's passes
abbrev pub wanted_in : List WalkPass → ℕ
wanted_in [] = 0
wanted_in (p ∷ passes) = length p.wants

-- how many events of passes are of a kind
abbrev pub events_in : (Event → Bool) → List WalkPass → ℕ
events_in kind passes = sum_by (λ p. count_by kind p.events) passes

-- a word of a line and the number behind it
abbrev pub counted : List ℕ → ℕ → List ℕ
counted word number = codes " " ++ word ++ codes " " ++ number_spelling number

-- the line of a picture, by its number and those of its passes, of the pages that it wants, and of the pages mapped, lost and unmapped
unfoldable pub line_of_numbers : ℕ → ℕ → ℕ → ℕ → ℕ → ℕ → List ℕ
line_of_numbers picture passes wanted loaded lost evicted =
    codes "picture " ++ number_spelling picture ++ counted (codes "passes") passes ++ counted (codes "wanted") wanted
    ++ counted (codes "loaded") loaded ++ counted (codes "lost") lost ++ counted (codes "evicted") evicted ++ codes "\n"

-- the line of a picture with these passes
abbrev pub line_with : List WalkPass → ℕ → List ℕ
line_with passes picture =
    line_of_numbers picture (length passes) (wanted_in passes) (events_in is_load passes) (events_in is_loss passes) (events_in is_eviction passes)

-- the line of a picture of a run
unfoldable pub picture_line : List WalkPass → ℕ → List ℕ
picture_line passes picture = line_with (passes_of picture passes) picture

-- the lines of the first so many pictures
abbrev pub picture_lines : List WalkPass → ℕ → List ℕ
picture_lines passes pictures = flat_map (picture_line passes) (range_with_len 0 pictures)

-- how many tiles were asked for: those of the pinned pages, and those of all batches
abbrev pub reads_of : WalkSetup → List WalkPass → ℕ
reads_of w passes = w.pinned + length (planned_in passes)

-- the last line, by the numbers of pictures and of tiles that were asked for
unfoldable pub end_line : ℕ → ℕ → List ℕ
end_line pictures reads = codes "end pictures " ++ number_spelling pictures ++ codes " reads " ++ number_spelling reads ++ codes "\n"

-- the last line of a run
abbrev pub walk_end_line : WalkSetup → List WalkPass → List ℕ
walk_end_line w passes = end_line w.pictures (reads_of w passes)

-- what a whole run prints
abbrev pub log_text : WalkSetup → List WalkPass → List ℕ
log_text w passes = picture_lines passes w.pictures ++ walk_end_line w passes

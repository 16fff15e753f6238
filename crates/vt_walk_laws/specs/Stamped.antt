-- The stamps of a run, by which the order of its pages goes.
use Rattle.std.specs.Prelude.{◌≡◌, ◌+◌, List, [], ◌∷◌, length}
use Rattle.vt_machine.specs.Stamps.{StampedPass, Stamps, no_stamps, AreAfter}
use Rattle.vt_walk.specs.Runs.{WalkPass}

-- what the stamps of a pass that comes after passes depend on
abbrev pub stamping : List WalkPass → WalkPass → StampedPass
stamping before p = record { number = length before + 1; after = p.settled; batch = p.batch; lost = p.losses; wants = p.wants }

-- these are the stamps after passes: none at first, and after each pass each page has the greatest of its own
abbrev pub AreStampsOf : List WalkPass → Stamps → Type 0
AreStampsOf [] stamps = stamps ≡ no_stamps
AreStampsOf (p ∷ passes) stamps = (before : Stamps) × AreStampsOf passes before × AreAfter before (stamping passes p) stamps

-- The stages of a hold: a version is read as a hint, the hint is announced, and then the newest version is held.
use Rattle.std.specs.Prelude.{ℕ, ◌+◌, ◌≤◌}
use Rattle.vt_grace.specs.declared.views.Stage.{Stage}
use Rattle.vt_grace.specs.declared.views.Stage.TheVariants.{Idle, Hinted, Announced, Holding}

-- the word that a sampler has announced at a stage: 0, or one more than the hint
abbrev pub announcement : Stage → ℕ
announcement Idle = 0
announcement (Hinted k) = 0
announcement (Announced k) = k + 1
announcement (Holding k u) = k + 1

-- the version that was read as a hint
abbrev pub hint_of : Stage → ℕ
hint_of Idle = 0
hint_of (Hinted k) = k
hint_of (Announced k) = k
hint_of (Holding k u) = k

-- the version that is held
abbrev pub held_of : Stage → ℕ
held_of (Holding k u) = u
held_of stage = 0

-- a hint and an announcement are not above the newest version; what is held is not below the floor nor the announcement
abbrev pub IsStageIn : ℕ → ℕ → Stage → Type 0
IsStageIn version floor Idle = Unit {0}
IsStageIn version floor (Hinted k) = k ≤ version
IsStageIn version floor (Announced k) = k ≤ version
IsStageIn version floor (Holding k u) = (k ≤ u) × (floor ≤ u) × (u ≤ version)

-- what is held is not below the version at which the pass was given
abbrev pub IsSince : ℕ → Stage → Type 0
IsSince given (Holding k u) = given ≤ u
IsSince given stage = Unit {0}

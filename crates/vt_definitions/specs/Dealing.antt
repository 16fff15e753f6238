-- How the rows of a picture are dealt to its samplers: in turn, from the top.
use Rattle.std.specs.Prelude.{ℕ, ◌+◌, ◌-◌, ◌*◌, ◌/◌, ◌%◌}

-- the sampler that a row is dealt to
abbrev pub sampler_of : ℕ → ℕ → ℕ
sampler_of y samplers = y % samplers

-- the turn in which it is dealt: how many rows of its sampler are above it
abbrev pub turn_of : ℕ → ℕ → ℕ
turn_of y samplers = y / samplers

-- the row that a sampler is dealt in a turn
abbrev pub dealt_row : ℕ → ℕ → ℕ → ℕ
dealt_row sampler turn samplers = turn * samplers + sampler

-- how many of so many rows a sampler is dealt
abbrev pub own_count : ℕ → ℕ → ℕ → ℕ
own_count sampler samplers height = (height + samplers - 1 - sampler) / samplers

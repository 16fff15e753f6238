-- Which refusal a call answered, and what that does to a count.
use Rattle.std.specs.Prelude.{ℕ, if◌then◌else◌, Bool, true, false, Result, Err}
use Rattle.vt_outside.specs.Counts.{added}
use Rattle.vt_outside.specs.declared.answers.OutsideError.{OutsideError}
use Rattle.vt_outside.specs.declared.answers.OutsideError.TheVariants.{Failed, NoMemory}

-- the call failed
abbrev pub is_failed : {T : Type 0} → Result T OutsideError → Bool
is_failed (Err Failed) = true
is_failed _ = false

-- the call was refused for memory
abbrev pub is_no_memory : {T : Type 0} → Result T OutsideError → Bool
is_no_memory (Err NoMemory) = true
is_no_memory _ = false

-- a count after a call, which raises it by one where this is so, and else leaves it
abbrev pub raised_if : Bool → ℕ → ℕ
raised_if so count = if so then added count 1 else count

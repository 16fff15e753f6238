-- The refusal of a walk by what the outside refused.
use Rattle.vt_outside.specs.declared.answers.OutsideError.{OutsideError}
use Rattle.vt_outside.specs.declared.answers.OutsideError.TheVariants.{Failed, NoMemory}
use Rattle.vt_walk_decisions.specs.declared.error.WalkError.{WalkError}
use Rattle.vt_walk_decisions.specs.declared.error.WalkError.TheVariants as walk_error

abbrev pub walk_refusal_by : OutsideError → WalkError
walk_refusal_by Failed = walk_error.Failed
walk_refusal_by NoMemory = walk_error.NoMemory

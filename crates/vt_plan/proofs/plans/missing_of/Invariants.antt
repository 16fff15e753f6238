use Rattle.std.proofs.Common.{◌≡◌, take}
use Rattle.vt_feedback.specs.Wants.{pages_wanted}
use Rattle.vt_plan.specs.Missing.{missing_from}
use Rattle.vt_plan.proofs.plans.missing_of.Given as goal

abbrev pub invariant-loop-want : goal.invariant-loop-want
invariant-loop-want l = l.missing.keys ≡ missing_from l.geometry l.entries (pages_wanted (take l.want-index l.list))

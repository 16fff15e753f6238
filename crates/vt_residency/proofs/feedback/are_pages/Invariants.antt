use Rattle.std.proofs.Common.{◌<◌, take}
use Rattle.std.specs.List.{All}
use Rattle.vt_residency.proofs.feedback.are_pages.Given as goal

abbrev pub invariant-loop-listed : goal.invariant-loop-listed
invariant-loop-listed l = All (λ w. w.page < l.pages) (take l.listed-index l.list)

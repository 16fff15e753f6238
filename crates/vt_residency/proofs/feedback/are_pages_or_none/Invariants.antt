use Rattle.std.proofs.Common.{take}
use Rattle.std.specs.List.{All}
use Rattle.vt_residency.specs.Tallies.{IsPageOrNone}
use Rattle.vt_residency.proofs.feedback.are_pages_or_none.Given as goal

abbrev pub invariant-loop-page : goal.invariant-loop-page
invariant-loop-page l = All (IsPageOrNone l.pages) (take l.page-index l.list)

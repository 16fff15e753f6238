use Rattle.std.proofs.Common.{◌≡◌, take}
use Rattle.vt_plan.specs.Pages.{pages_of}
use Rattle.vt_plan.specs.Wants.{pages_wanted}
use Rattle.vt_plan.specs.Orders.{line_pages}
use Rattle.vt_evict.specs.Kept.{IsWalk, HasParents}
use Rattle.vt_evict.proofs.lines.walk_lines.Given as goal

abbrev pub invariant-loop-want : goal.invariant-loop-want
invariant-loop-want l = record {
  walk : IsWalk (pages_of l.geometry) l.walk.marks.items l.walk.walked;
  closed : HasParents l.geometry l.walk.walked.elements;
  walked : l.walk.walked.elements ≡ line_pages l.geometry (pages_wanted (take l.want-index l.list));
}

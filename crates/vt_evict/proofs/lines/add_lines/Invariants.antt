use Rattle.std.proofs.Common.{◌≡◌, take}
use Rattle.vt_plan.specs.Wants.{pages_wanted}
use Rattle.vt_plan.specs.Orders.{line_pages}
use Rattle.vt_evict.specs.Kept.{HasParents}
use Rattle.vt_evict.proofs.lines.add_lines.Given as goal

abbrev pub invariant-loop-want : goal.invariant-loop-want
invariant-loop-want l = record {
  closed : HasParents l.geometry l.pages.keys;
  walked : l.pages.keys ≡ line_pages l.geometry (pages_wanted (take l.want-index l.list));
}

use Rattle.std.proofs.Common.{◌≡◌, ◌≤◌, length, sum}
use Rattle.vt_outside.specs.Counts.{added, RoseBy}
use Rattle.vt_walk_decisions.specs.Requests.{counts_of}
use Rattle.vt_walk_decisions.specs.Machines.{files_of}
use Rattle.vt_walk.specs.Closing.{with_closed}
use Rattle.vt_walk.proofs.loaders.close_stores.Given as goal

abbrev pub invariant-loop-store : goal.invariant-loop-store
invariant-loop-store g l = record {
  asked : with_closed (files_of g.D.File.File l.stores.elements) (g.D.Folder.asked l.folder)
      ≡ with_closed (files_of g.D.File.File l.initial.stores.elements) (g.D.Folder.asked l.initial.folder);
  rose : RoseBy (sum (counts_of (files_of g.D.File.File l.initial.stores.elements))) (g.D.Folder.faults l.initial.folder)
      (added (g.D.Folder.faults l.folder) (sum (counts_of (files_of g.D.File.File l.stores.elements))));
  files : g.D.Folder.files l.folder ≡ g.D.Folder.files l.initial.folder;
  faults : g.D.Folder.faults l.initial.folder ≤ g.D.Folder.faults l.folder;
}

abbrev pub decreases-loop-store : goal.decreases-loop-store
decreases-loop-store g l = length l.stores.elements

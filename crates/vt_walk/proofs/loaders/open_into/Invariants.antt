use Rattle.std.proofs.Common.{◌≡◌, ◌+◌, ◌≤◌, length}
use Rattle.std.specs.Prelude.{All}
use Rattle.vt_outside.specs.Files.{bytes_at}
use Rattle.vt_walk.specs.Opening.{IsFresh, KeepsFolder}
use Rattle.vt_walk.proofs.loaders.open_into.Given as goal

abbrev pub invariant-loop-i : goal.invariant-loop-i
invariant-loop-i g l = record {
  fresh : All (IsFresh g.D.File.File l.geometry l.depth l.name (g.D.Folder.asked l.initial.folder) (bytes_at (g.D.Folder.files l.initial.folder) l.name))
      l.stores.elements;
  count : length l.stores.elements ≡ l._i;
  room : l.loaders ≤ l._i + l.stores.spare;
  kept : KeepsFolder g.D.Folder l.initial.folder l.folder;
}

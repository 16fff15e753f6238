use Rattle.std.proofs.Common.{◌≡◌, ◌-◌, ◌≤◌}
use Rattle.vt_mip.specs.Levels.{IsLevel}
use Rattle.vt_pages.specs.Pages.{levels_of, pages_below}
use Rattle.vt_store.specs.ChainStores.{AddsPages, level_source}
use Rattle.vt_store.proofs.levels.write_levels.Given as goal

abbrev pub invariant-loop-level : goal.invariant-loop-level
invariant-loop-level g l = record {
  from : 1 ≤ l.level;
  to : l.level ≤ levels_of l.geometry;
  is : IsLevel l.fn.image (l.level - 1) l.next;
  adds : AddsPages l.geometry l.fn.image.depth (level_source (record { base = l.fn.image; tile = l.geometry.tile }) 1) (pages_below l.geometry 1)
      (pages_below l.geometry l.level) l.name (g.D.Folder.files l.fn.folder) (g.D.Folder.files l.folder);
  asked : g.D.Folder.asked l.folder ≡ g.D.Folder.asked l.fn.folder;
  faults : g.D.Folder.faults l.fn.folder ≤ g.D.Folder.faults l.folder;
}

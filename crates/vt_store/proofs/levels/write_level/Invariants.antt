use Rattle.std.proofs.Common.{◌≡◌, ◌+◌, ◌*◌, ◌≤◌, min}
use Rattle.vt_definitions.specs.Texels.{Source}
use Rattle.vt_mip.specs.InPlace.{ShrinksFront}
use Rattle.vt_pages.specs.Pages.{pages_below, columns_at}
use Rattle.vt_store.specs.ChainStores.{AddsPages, HasLevelTexels}
use Rattle.vt_store.proofs.levels.write_level.Given as goal

abbrev pub invariant-loop-strip : goal.invariant-loop-strip
invariant-loop-strip g l = record {
  adds : (src : Source) → HasLevelTexels src l.level l.fn.image → AddsPages l.geometry l.fn.image.depth src (pages_below l.geometry l.level)
      (pages_below l.geometry l.level + l.strip * columns_at l.geometry l.level) l.name (g.D.Folder.files l.fn.folder) (g.D.Folder.files l.folder);
  depth : l.texels.depth ≡ l.fn.image.depth;
  width : l.texels.width ≡ l.fn.image.width;
  height : l.texels.height ≡ l.fn.image.height;
  taken : l.texels.taken ≡ min (l.strip * l.geometry.tile) l.fn.image.height;
  front : ShrinksFront l.fn.image l.texels;
  asked : g.D.Folder.asked l.folder ≡ g.D.Folder.asked l.fn.folder;
  faults : g.D.Folder.faults l.fn.folder ≤ g.D.Folder.faults l.folder;
}

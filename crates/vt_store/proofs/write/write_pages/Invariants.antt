use Rattle.std.specs.Prelude.{◌≡◌, ◌-◌, ◌≤◌}
use Rattle.vt_mip.specs.Chains.{chain_texel}
use Rattle.vt_pages.specs.Pages.{pages_of}
use Rattle.vt_store.specs.ChainStores.{AddsPages}
use Rattle.vt_store.proofs.write.write_pages.Given as goal

abbrev pub invariant-loop-page : goal.invariant-loop-page
invariant-loop-page g l = record {
  inside : l.page ≤ pages_of l.geometry;
  adds : AddsPages l.geometry l.chain.base.depth (chain_texel l.chain) 0 l.page l.name (g.D.Folder.files l.fn.folder)
      (g.D.Folder.files l.folder);
  asked : g.D.Folder.asked l.folder ≡ g.D.Folder.asked l.fn.folder;
  faults : g.D.Folder.faults l.fn.folder ≤ g.D.Folder.faults l.folder;
}

abbrev pub decreases-loop-page : goal.decreases-loop-page
decreases-loop-page g l = pages_of l.geometry - l.page

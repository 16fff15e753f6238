use Rattle.std.proofs.Common.{◌≡◌, ◌+◌, ◌*◌, ◌≤◌, min}
use Rattle.vt_pages.specs.Pages.{pages_of}
use Rattle.vt_tiles.specs.Places.{PiecesAsked, piece_tiles, pieces_of}
use Rattle.vt_store.proofs.WideStores.{HoldsPages}
use Rattle.vt_store.proofs.widen.widen_store.Given as goal

abbrev pub invariant-loop-piece : goal.invariant-loop-piece
invariant-loop-piece g l = record {
  held : HoldsPages (g.D.File.File.bytes l.fn.store.file) l.fn.store.shape l.name (g.D.Folder.files l.fn.folder) (g.D.Folder.files l.folder)
      (min (l.piece * piece_tiles l.fn.store.shape) (pages_of l.fn.store.shape));
  read : PiecesAsked l.fn.store.shape 1 l.piece (g.D.File.File.asked l.fn.store.file) (g.D.File.File.asked l.store.file);
  spare : pieces_of l.fn.store.shape ≤ g.D.File.File.spare l.store.file + l.piece;
  bytes : g.D.File.File.bytes l.store.file ≡ g.D.File.File.bytes l.fn.store.file;
  called : g.D.File.File.name l.store.file ≡ g.D.File.File.name l.fn.store.file;
  shape : l.store.shape ≡ l.fn.store.shape;
  depth : l.store.depth ≡ 1;
  file_faults : g.D.File.File.faults l.fn.store.file ≤ g.D.File.File.faults l.store.file;
  asked : g.D.Folder.asked l.folder ≡ g.D.Folder.asked l.fn.folder;
  faults : g.D.Folder.faults l.fn.folder ≤ g.D.Folder.faults l.folder;
}

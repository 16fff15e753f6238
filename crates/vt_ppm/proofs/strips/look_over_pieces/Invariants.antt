use Rattle.std.proofs.Common.{◌≡◌, ◌+◌, ◌*◌, ◌≤◌, min, IfSome}
use Rattle.vt_ppm.specs.Strips.{AreRowsUpTo, RasterPiecesAsked, piece_rows}
use Rattle.vt_ppm.proofs.strips.look_over_pieces.Given as goal

abbrev pub invariant-loop-piece : goal.invariant-loop-piece
invariant-loop-piece g l = record {
  few : IfSome (g.F.File.bytes l.fn.file) (λ b. AreRowsUpTo l.header b (min (l.piece * piece_rows l.header) l.header.height));
  asked : RasterPiecesAsked l.header l.piece (g.F.File.asked l.fn.file) (g.F.File.asked l.file);
  spare : g.F.File.spare l.fn.file ≤ g.F.File.spare l.file + l.piece;
  bytes : g.F.File.bytes l.file ≡ g.F.File.bytes l.fn.file;
  called : g.F.File.name l.file ≡ g.F.File.name l.fn.file;
  faults : g.F.File.faults l.fn.file ≤ g.F.File.faults l.file;
}

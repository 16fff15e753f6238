use Rattle.std.proofs.Common.{◌≡◌, ◌≤◌, take}
use Rattle.std.specs.Option.{option_map}
use Rattle.vt_outside.specs.Files.{gained}
use Rattle.vt_text.specs.Pieces.{joined_pieces}
use Rattle.vt_text.proofs.pieces.put_pieces.Given as goal

-- the pieces so far were put
abbrev pub invariant-loop-piece : goal.invariant-loop-piece
invariant-loop-piece g l = record {
  put : g.S.Sink.held l.sink ≡ option_map (gained (joined_pieces (take l.piece-index l.pieces))) (g.S.Sink.held l.fn.sink);
  faults : g.S.Sink.faults l.fn.sink ≤ g.S.Sink.faults l.sink;
  refusals : g.S.Sink.refusals l.fn.sink ≤ g.S.Sink.refusals l.sink;
}

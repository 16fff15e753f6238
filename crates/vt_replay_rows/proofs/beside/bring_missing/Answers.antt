use Rattle.std.proofs.Common.{sym}
use Rattle.vt_replay_rows.proofs.Reading.{read_none, read_then}
use Rattle.vt_replay_rows.proofs.Tiling.{tiles_under}
use Rattle.vt_replay_rows.proofs.beside.bring_missing.Goals as goal

pub loop-part-init : goal.loop-part-init
loop-part-init g c = record { tiles = c.requires.tiles; read = read_none g.F.File c.args.store.now }

pub bring_all-requires : goal.bring_all-requires
bring_all-requires g c =
    let read = c.loop-part.invariant.read in
    record { tiles = tiles_under _ _ _ _ _ _ _ _ _ _ (sym read.shape) (sym read.depth) (sym read.bytes) c.loop-part.invariant.tiles }

pub returns-in_err-bring_all-clause-read : goal.returns-in_err-bring_all-clause-read
returns-in_err-bring_all-clause-read g c =
    read_then g.F.File c.args.store.now c.loop-part.store c.bring_all.new.store c.loop-part.invariant.read c.bring_all.ensures.read

pub loop-part-preserved : goal.loop-part-preserved
loop-part-preserved g c =
    let read = c.loop-part.invariant.read in
    record {
      tiles = tiles_under _ _ _ _ _ _ _ _ _ _ read.shape read.depth read.bytes c.in_ok-bring_all.ensures.tiles;
      read = read_then g.F.File c.args.store.now c.loop-part.store c.bring_all.new.store read c.bring_all.ensures.read;
    }

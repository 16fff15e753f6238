use Rattle.std.proofs.Common.{sym}
use Rattle.vt_replay_rows.proofs.Reading.{read_none, read_then}
use Rattle.vt_replay_rows.proofs.Tiling.{tiles_under}
use Rattle.vt_replay_rows.proofs.draw.bring_all.Goals as goal

pub loop-page-init : goal.loop-page-init
loop-page-init g c = record { tiles = c.requires.tiles; read = read_none g.F.File c.args.store.now }

pub bring_inside-requires : goal.bring_inside-requires
bring_inside-requires g c =
    let read = c.loop-page.invariant.read in
    record { tiles = tiles_under _ _ _ _ _ _ _ _ _ _ (sym read.shape) (sym read.depth) (sym read.bytes) c.loop-page.invariant.tiles }

pub returns-in_err-bring_inside-clause-read : goal.returns-in_err-bring_inside-clause-read
returns-in_err-bring_inside-clause-read g c =
    read_then g.F.File c.args.store.now c.loop-page.store c.bring_inside.new.store c.loop-page.invariant.read c.bring_inside.ensures.read

pub loop-page-preserved : goal.loop-page-preserved
loop-page-preserved g c =
    let read = c.loop-page.invariant.read in
    record {
      tiles = tiles_under _ _ _ _ _ _ _ _ _ _ read.shape read.depth read.bytes c.in_ok-bring_inside.ensures.tiles;
      read = read_then g.F.File c.args.store.now c.loop-page.store c.bring_inside.new.store read c.bring_inside.ensures.read;
    }

use Rattle.std.proofs.Common.{◌+◌, ◌-◌, arith}
use Rattle.vt_replay_rows.proofs.Following.{follows_more}
use Rattle.vt_replay_rows.proofs.table.make_changes.Goals as goal

pub loop-made-preserved : goal.loop-made-preserved
loop-made-preserved c =
    let more = follows_more c.args.geometry.now c.args.journal.now.changes c.loop-made.entries c.make_change.new.entries c.loop-made.made c.change.result
    c.requires.played.in_turn c.loop-made.invariant.follows c.change.ensures (omega arith) c.make_change.ensures in
    record { follows = more }

pub make_change-requires-clause-page : goal.make_change-requires-clause-page
make_change-requires-clause-page c =
    let low = c.requires.played.in_pages (c.loop-made.made + 1 - 1) c.change.result c.change.ensures in
    let size = c.loop-made.invariant.follows.all_entries in
    omega (arith, low, size)

pub make_change-requires-clause-frame : goal.make_change-requires-clause-frame
make_change-requires-clause-frame c = c.requires.played.in_frames (c.loop-made.made + 1 - 1) c.change.result c.change.ensures

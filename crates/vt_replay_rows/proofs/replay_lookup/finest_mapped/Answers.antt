use Rattle.std.proofs.Common.{arith}
use Rattle.vt_journal.specs.Kept.{entries_of}
use Rattle.vt_replay_rows.proofs.Climbing.{line_is_mapped}
use Rattle.vt_replay_rows.proofs.replay_lookup.finest_mapped.Goals as goal

pub unreachable-requires : goal.unreachable-requires
unreachable-requires c =
    let named = c.page_at-name.ensures in
    line_is_mapped c.args.geometry.now (entries_of c.args.table.now.entries.items) c.args.page c.loop-level.level named.limits c.requires.page
    (omega (arith, named.level, named.in_chain.level_inside)) (omega arith) c.requires.root c.loop-level.invariant.unmapped

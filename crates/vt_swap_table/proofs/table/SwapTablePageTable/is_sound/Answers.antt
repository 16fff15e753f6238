use Rattle.std.proofs.Common.{sym, ◌∙◌}
use Rattle.vt_swap_table.proofs.Knowing.{not_so, journal_true}
use Rattle.vt_swap_table.proofs.table.SwapTablePageTable.is_sound.Goals as goal

pub returns-clause-sound : goal.returns-clause-sound
returns-clause-sound c sure s d b version limits store are =
    let v = c.args.writer.now.streamer in
    let did = c.is_broken.ensures in
    journal_true v s d b did.lawful store (sym did.broken ∙ not_so c.is_broken.result sure) are version did.whole

use Rattle.std.proofs.Common.{List, sym, subst}
use Rattle.vt_journal.specs.declared.changes.Change.{Change}
use Rattle.vt_journal.specs.declared.changes.Change.TheVariants.{Map}
use Rattle.vt_journal.specs.Changes.{newest, IsNext, AreInTurn}
use Rattle.vt_swap.specs.Streamers.{StreamerView}
use Rattle.vt_swap.proofs.Bringing.{next_unmapped}
use Rattle.vt_swap.proofs.streamer.SwapStreamer.replace.Goals as goal

pub map_and_notify-requires-clause-next : goal.map_and_notify-requires-clause-next
map_and_notify-requires-clause-next g c =
    subst (λ (js : List Change). IsNext (newest js) (Map c.args.page c.args.frame)) (sym c.in_ok-unmap.ensures.unmapped.journal)
    (next_unmapped c.args.self.now.journal c.args.page c.args.frame c.args.victim
    (subst (λ (v : StreamerView). AreInTurn v.journal) c.self.view_is c.version-version.ensures.in_turn) c.requires.may)

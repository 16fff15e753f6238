use Rattle.std.proofs.Common.{ap, ◌∙◌, subst}
use Rattle.rtrb.specs.Ring.{received}
use Rattle.vt_outside.specs.Effects.{folder_effect, folder_state}
use Rattle.vt_store.specs.Steps.{AddsBytes}
use Rattle.vt_store.proofs.RoundRows.{row_added}
use Rattle.vt_store.proofs.round.add_oldest.Goals as goal

pub returns-clause-adds : goal.returns-clause-adds
returns-clause-adds g c =
    row_added c.args.name.now (received c.args.adding.now.rows) (received c.give_back.new.self.rows) c.pop_known-row.result
    (folder_state g.D.Folder c.args.folder.now) (folder_state g.D.Folder c.add_row-added.new.folder) c.add_row-added.result
    (ap (λ r. received r) c.give_back.ensures ∙ c.pop_known-row.ensures.received.0)
    (subst (λ l. AddsBytes c.args.name.now l (folder_effect g.D.Folder c.args.folder.now c.add_row-added.new.folder) c.add_row-added.result)
    c.as_slice.ensures.value c.add_row-added.ensures.added)

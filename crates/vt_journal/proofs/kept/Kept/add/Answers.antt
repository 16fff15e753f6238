use Rattle.std.proofs.Common.{◌≡◌, ◌++◌, ◌∷◌, [], List, ap, ◌∙◌, sym, subst}
use Rattle.vt_journal.specs.declared.changes.Change.{Change}
use Rattle.vt_journal.specs.Changes.{Table, changed, newest, IsNext}
use Rattle.vt_journal.specs.Kept.{entries_of, KeptView}
use Rattle.vt_journal.proofs.Versions.{newest-more}
use Rattle.vt_journal.proofs.kept.Kept.add.Goals as goal

pub change-requires-clause-in_turn : goal.change-requires-clause-in_turn
change-requires-clause-in_turn c =
    let same : entries_of c.self.inside.table ≡ newest c.args.self.now.changes = c.self.invariant ∙ ap (λ (k : KeptView). newest k.changes) c.self.view_is in
    subst (λ (m : Table). IsNext m c.args.change) (sym same) c.requires.in_turn

pub invariant_of-self-2 : goal.invariant_of-self-2
invariant_of-self-2 c =
    let js = c.self.inside.journal.changes in
    let kept : c.reserve.new.self.changes ≡ js = c.in_ok-reserve.ensures.changes in
    let made : c.push.new.self.changes ≡ js ++ c.args.change ∷ [] = c.push.ensures.changes ∙ ap (λ (ks : List Change). ks ++ c.args.change ∷ []) kept in
    c.change.ensures.entries ∙ ap (λ m. changed m c.args.change) c.self.invariant ∙ sym (newest-more js c.args.change)
    ∙ ap newest (sym made)

use Rattle.std.proofs.Common.{◌≡◌, List, length, sym, ap, subst, arith, length-append}
use Rattle.vt_journal.specs.declared.changes.Change.{Change}
use Rattle.vt_journal.specs.Changes.{AreInTurn, IsNext, newest}
use Rattle.vt_journal.specs.Journals.{JournalView, room_for_changes}
use Rattle.vt_journal.proofs.Versions.{in_turn-more}
use Rattle.vt_journal.proofs.journal.Journal.push.Goals as goal

pub invariant_of-self : goal.invariant_of-self
invariant_of-self c =
    let js = c.self.inside.changes.elements in
    let same : js ≡ c.args.self.now.changes = ap (λ (j : JournalView). j.changes) c.self.view_is in
    let room : room_for_changes js c.self.inside.changes.spare ≡ c.args.self.now.spare = ap (λ (j : JournalView). j.spare) c.self.view_is in
    let next : IsNext (newest js) c.args.change = subst (λ (js : List Change). IsNext (newest js) c.args.change) (sym same) c.requires.in_turn in (
      omega (arith, room, c.requires.room, ap length c.push.ensures.elements, length-append {A = Change}),
      subst AreInTurn (sym c.push.ensures.elements) (in_turn-more js c.args.change c.self.invariant.1 next),
    )

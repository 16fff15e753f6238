use Rattle.std.proofs.Common.{arith, ◌≡◌, ◌+◌, ◌-◌, ℕ, refl, sym, subst}
use Rattle.vt_grace.specs.PassViews.{HasEntry, noting}
use Rattle.vt_grace.specs.declared.views.PassView.{PassView}
use Rattle.vt_tests_words.proofs.streamer.beside.read_page.Goals as goal

noted_now : (u page entry frame : ℕ) (p : PassView) → entry ≡ frame + 1 → HasEntry u (noting u page entry p) frame
noted_now u page entry frame p is = (record { version = u; page = page; entry = entry }, (0, omega arith, refl), refl, is)

pub word-requires-clause-noted : goal.word-requires-clause-noted
word-requires-clause-noted c = let same = c.entry-entry.ensures.version in let some = c.if-entry-eq0.false in
    subst (λ (u : ℕ). HasEntry u c.entry-entry.new.self.view (c.entry-entry.result - 1)) (sym same)
    (subst (λ (p : PassView). HasEntry c.args.held.now.version p (c.entry-entry.result - 1)) (sym c.entry-entry.ensures.view)
    (noted_now c.args.held.now.version c.args.page c.entry-entry.result (c.entry-entry.result - 1) c.args.held.now.view (omega arith)))

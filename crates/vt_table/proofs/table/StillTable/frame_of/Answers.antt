use Rattle.std.proofs.Common.{◌≡◌, ℕ, zero, suc, ◌-◌, ◌<◌, ◌≤◌, length, Some, sym, ap, subst, ◌∙◌, arith}
use Rattle.std.proofs.lemmas.List.{get_or_read}
use Rattle.vt_journal.specs.Pages.{pages_of}
use Rattle.vt_journal.specs.Changes.{Table, newest}
use Rattle.vt_journal.specs.Kept.{entry_of}
use Rattle.vt_table.specs.Views.{TableView}
use Rattle.vt_table.proofs.table.StillTable.frame_of.Goals as goal

some_entry : (n : ℕ) → 1 ≤ n → Some (n - 1) ≡ entry_of n
some_entry zero some = absurd (omega (arith, some))
some_entry (suc n) some = ap (λ (k : ℕ). Some k) (let e : suc n - 1 ≡ n = omega arith in e)

pub returns-in_default-clause-frame : goal.returns-in_default-clause-frame
returns-in_default-clause-frame c =
    let entries = c.self.inside.entries.items in
    let asked : c.args.page < pages_of c.self.inside.geometry = subst (λ (u : TableView). c.args.page < pages_of u.shape) (sym c.self.view_is) c.requires in
    let inside : c.args.page < length entries = subst (λ (n : ℕ). c.args.page < n) (sym c.self.invariant.all_entries) asked in
    let some : 1 ≤ c.index.result.now = omega arith in
    some_entry c.index.result.now some
    ∙ ap entry_of (get_or_read entries c.args.page c.index.result.now inside c.index.ensures 0)
    ∙ ap (λ (m : Table). m c.args.page) c.self.invariant.agrees
    ∙ ap (λ (u : TableView). newest u.changes c.args.page) c.self.view_is

use Rattle.std.proofs.Common.{◌≡◌, ◌<◌, ℕ, List, length, Some, sym, subst}
use Rattle.vt_journal.specs.Kept.{entries_of}
use Rattle.vt_journal.proofs.Pairing.{paired-unmap}
use Rattle.vt_journal.proofs.table.PageTable.unmap.Goals as goal

pub invariant_of-self : goal.invariant_of-self
invariant_of-self c =
    let back = sym c.self.view_is in
    paired-unmap c.self.inside.frames.items c.self.inside.pages.items c.args.page c.args.frame c.self.invariant
    (subst (λ (numbers : List ℕ). c.args.page < length numbers) back c.requires.within.page_inside) c.requires.within.frame_inside
    (subst (λ (numbers : List ℕ). entries_of numbers c.args.page ≡ Some c.args.frame) back c.requires.mapped)

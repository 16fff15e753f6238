use Rattle.std.proofs.Common.{◌≡◌, ◌<◌, ℕ, List, length, None, sym, subst}
use Rattle.vt_journal.specs.Changes.{IsFree}
use Rattle.vt_journal.specs.Kept.{entries_of}
use Rattle.vt_journal.proofs.Pairing.{paired-map}
use Rattle.vt_journal.proofs.table.PageTable.map.Goals as goal

pub invariant_of-self : goal.invariant_of-self
invariant_of-self c =
    let back = sym c.self.view_is in
    paired-map c.self.inside.frames.items c.self.inside.pages.items c.args.page c.args.frame c.self.invariant
    (subst (λ (numbers : List ℕ). c.args.page < length numbers) back c.requires.within.page_inside) c.requires.within.frame_inside
    (subst (λ (numbers : List ℕ). entries_of numbers c.args.page ≡ None) back c.requires.no_frame)
    (subst (λ (numbers : List ℕ). IsFree (entries_of numbers) c.args.frame) back c.requires.free)

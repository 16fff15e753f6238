use Rattle.std.proofs.Common.{◌≡◌, ℕ, Bool, true, false, None, ap, ◌∙◌, subst, MatchBool}
use Rattle.vt_journal.specs.declared.changes.Change.TheVariants.{Map}
use Rattle.vt_journal.specs.Changes.{Table, newest, IsFree, IsNext}
use Rattle.vt_journal.specs.Kept.{entries_of}
use Rattle.vt_journal.specs.Kept.{KeptView}
use Rattle.vt_journal.proofs.kept.Kept.is_map_next.Goals as goal

by_free : (m : Table) (page frame : ℕ) (b : Bool) → m page ≡ None → MatchBool b (IsFree m frame) (IsFree m frame → ⊥)
    → MatchBool b (IsNext m (Map page frame)) (IsNext m (Map page frame) → ⊥)
by_free m page frame true none free = (none, free)
by_free m page frame false none taken = λ next. taken next.1

pub returns : goal.returns
returns c =
    let same : entries_of c.self.inside.table ≡ newest c.args.self.now.changes = c.self.invariant ∙ ap (λ (k : KeptView). newest k.changes) c.self.view_is in
    by_free (newest c.args.self.now.changes) c.args.page c.args.frame c.is_free.result c.if-is_mapped.ensures
    (subst (λ (m : Table). MatchBool c.is_free.result (IsFree m c.args.frame) (IsFree m c.args.frame → ⊥)) same c.is_free.ensures)

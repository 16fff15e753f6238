use Rattle.std.proofs.Common.{◌≡◌, ◌<◌, length, set, sym, subst, refl}
use Rattle.vt_journal.specs.declared.changes.Change.{Change}
use Rattle.vt_journal.specs.Kept.{entries_of, change_frame}
use Rattle.vt_table.specs.Views.{filled_after}
use Rattle.vt_table.proofs.Entries.{entry_written}
use Rattle.vt_table.proofs.steps.free_owner.Goals as goal

pub returns-in-Unmap : goal.returns-in-Unmap
returns-in-Unmap c =
    let xs = c.args.owners.now in
    let inside : c.in-Unmap.frame < length xs = subst (λ (x : Change). change_frame x < length xs) c.in-Unmap.is c.requires in
    subst (λ (x : Change). entries_of (set xs c.in-Unmap.frame 0) ≡ filled_after (entries_of xs) x) (sym c.in-Unmap.is)
    (entry_written xs c.in-Unmap.frame 0 _ inside refl)

use Rattle.std.proofs.Common.{◌≡◌, ◌+◌, ◌<◌, length, set, sym, subst, refl}
use Rattle.vt_journal.specs.declared.changes.Change.{Change}
use Rattle.vt_journal.specs.Changes.{changed}
use Rattle.vt_journal.specs.Lookups.{change_page}
use Rattle.vt_journal.specs.Kept.{entries_of}
use Rattle.vt_table.proofs.Entries.{entry_written, number_of}
use Rattle.vt_table.proofs.steps.put_entry.Goals as goal

pub returns-in-Map : goal.returns-in-Map
returns-in-Map c =
    let xs = c.args.entries.now in
    let inside : c.in-Map.page < length xs = subst (λ (x : Change). change_page x < length xs) c.in-Map.is c.requires.page in
    subst (λ (x : Change). entries_of (set xs c.in-Map.page (c.in-Map.frame + 1)) ≡ changed (entries_of xs) x) (sym c.in-Map.is)
    (entry_written xs c.in-Map.page (c.in-Map.frame + 1) _ inside (number_of c.in-Map.frame))

pub returns-in-Unmap : goal.returns-in-Unmap
returns-in-Unmap c =
    let xs = c.args.entries.now in
    let inside : c.in-Unmap.page < length xs = subst (λ (x : Change). change_page x < length xs) c.in-Unmap.is c.requires.page in
    subst (λ (x : Change). entries_of (set xs c.in-Unmap.page 0) ≡ changed (entries_of xs) x) (sym c.in-Unmap.is)
    (entry_written xs c.in-Unmap.page 0 _ inside refl)

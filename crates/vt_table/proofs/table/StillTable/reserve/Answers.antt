use Rattle.vt_table.proofs.Keeping.{kept_reserved}
use Rattle.vt_table.proofs.table.StillTable.reserve.Goals as goal

pub invariant_of-self : goal.invariant_of-self
invariant_of-self c =
    let t = c.self.inside in
    kept_reserved t.geometry t.journal.changes c.reserve.new.self.changes t.journal.spare c.reserve.new.self.spare t.room t.entries.items t.bytes.items
    t.depths.items t.owners.items c.reserve.ensures.changes c.self.invariant

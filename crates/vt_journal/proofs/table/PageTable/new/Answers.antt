use Rattle.std.proofs.Common.{arith}
use Rattle.vt_journal.proofs.Pairing.{paired-none, entries-none}
use Rattle.vt_journal.proofs.table.PageTable.new.Goals as goal

pub invariant_of-result : goal.invariant_of-result
invariant_of-result c =
    paired-none c.in_ok-zeros.field-0.items c.in_ok-zeros-2.field-0.items (omega (arith, c.in_ok-zeros.ensures.count, c.requires))
    c.in_ok-zeros-2.ensures.count c.in_ok-zeros.ensures.zero c.in_ok-zeros-2.ensures.zero

pub returns : goal.returns
returns c = (c.in_ok-zeros.ensures.count, entries-none c.in_ok-zeros.field-0.items c.in_ok-zeros.ensures.zero)

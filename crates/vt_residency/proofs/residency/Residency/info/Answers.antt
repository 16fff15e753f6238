use Rattle.std.proofs.Common.{arith}
use Rattle.vt_residency.proofs.Passing.{few_free}
use Rattle.vt_residency.proofs.residency.Residency.info.Goals as goal

pub overflow_cast-result : goal.overflow_cast-result
overflow_cast-result c =
    let few = few_free c.self.inside.recency c.self.invariant.table in record { fits = omega (arith, few, c.free_count.ensures) }

use Rattle.std.proofs.Common.{arith}
use Rattle.vt_pages.proofs.Names.{are_inverse}
use Rattle.vt_pages.proofs.Geometry.index_of.Goals as goal

pub returns-clause-undone : goal.returns-clause-undone
returns-clause-undone c =
    let limits = c.index_at.ensures.limits in
    rw c.index_at.ensures.index (((are_inverse c.args.self.now (omega (arith, limits.least_tile)) limits.least_width).name c.args.name.now c.requires).1)

pub returns-clause-inverse : goal.returns-clause-inverse
returns-clause-inverse c =
    let limits = c.index_at.ensures.limits in
    are_inverse c.args.self.now (omega (arith, limits.least_tile)) limits.least_width

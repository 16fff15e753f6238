use Rattle.std.proofs.Common.{◌≡◌, ◌+◌, ◌<◌, arith}
use Rattle.vt_pages.specs.Pages.{levels_of}
use Rattle.vt_pages.proofs.Counts.{pages_below-zero, pages_of-is}
use Rattle.vt_pages.proofs.Names.{level_code}
use Rattle.vt_pages.proofs.Seen.{seen}
use Rattle.vt_pages.proofs.Geometry.level_of.Goals as goal

pub loop-level-init : goal.loop-level-init
loop-level-init c =
    let g = seen c.self.view_is c.self.invariant in
    record { inside = omega (arith, g.levels_is, g.limits.some_level); from = omega (arith, pages_below-zero c.args.self.now) }

pub returns-else-self-level-clause-level : goal.returns-else-self-level-clause-level
returns-else-self-level-clause-level c =
    let g = seen c.self.view_is c.self.invariant in
    let within : c.loop-level.level + 1 < levels_of c.args.self.now = omega (arith, g.levels_is) in
    let next = g.tabled.first (c.loop-level.level + 1) (omega (arith, g.limits.most_levels)) in
    level_code c.args.self.now c.args.page c.loop-level.level (omega arith) c.loop-level.invariant.from (rw next at c.if-self-level.false)

pub returns-after-loop-level-clause-level : goal.returns-after-loop-level-clause-level
returns-after-loop-level-clause-level c =
    let g = seen c.self.view_is c.self.invariant in
    let last : levels_of c.args.self.now ≡ c.loop-level.level + 1 = omega (arith, g.levels_is) in
    level_code c.args.self.now c.args.page c.loop-level.level (omega arith) c.loop-level.invariant.from (rw (pages_of-is, last) at c.requires)

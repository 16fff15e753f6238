use Rattle.std.proofs.Common.{◌<◌, arith}
use Rattle.vt_definitions.specs.Limits.{most_levels}
use Rattle.vt_definitions.proofs.Levels.{side_at_least}
use Rattle.vt_pages.proofs.Counts.{side_most}
use Rattle.vt_pages.proofs.Seen.{seen}
use Rattle.vt_pages.proofs.Geometry.level_size.Goals as goal

pub returns-clause-some : goal.returns-clause-some
returns-clause-some c =
    let g = seen c.self.view_is c.self.invariant in
    let inside : c.args.level < most_levels = omega (arith, g.limits.most_levels) in (
      rw (g.tabled.widths c.args.level inside) (side_at_least c.args.self.now.width c.args.level g.limits.least_width),
      rw (g.tabled.heights c.args.level inside) (side_at_least c.args.self.now.height c.args.level g.limits.least_height),
    )

pub returns-clause-most : goal.returns-clause-most
returns-clause-most c =
    let g = seen c.self.view_is c.self.invariant in
    let inside : c.args.level < most_levels = omega (arith, g.limits.most_levels) in (
      rw (g.tabled.widths c.args.level inside) (side_most c.args.self.now.width c.args.self.now.width c.args.level g.limits.least_width (omega arith)),
      rw (g.tabled.heights c.args.level inside) (side_most c.args.self.now.height c.args.self.now.height c.args.level g.limits.least_height (omega arith)),
    )

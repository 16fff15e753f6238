use Rattle.vt_schedules.specs.Bags.{view_of}
use Rattle.vt_schedules.proofs.Taking.{took_one, took_else, ended_else}
use Rattle.vt_schedules.proofs.shared.take_row.Goals as goal

pub returns-then-fits-clause-some : goal.returns-then-fits-clause-some
returns-then-fits-clause-some g c first taken took =
    took_one c.args.height c.args.line first (view_of c.args.own.now) (view_of c.take.new.pass) taken c.in-Some.job took c.in-Some.ensures.takes

pub returns-else-fits-clause-none : goal.returns-else-fits-clause-none
returns-else-fits-clause-none g c first taken took = (
  took_else c.args.height c.args.line first (view_of c.args.own.now) (view_of c.take.new.pass) taken c.in-Some.job took c.in-Some.ensures.takes
      c.if-fits.ensures,
  ended_else c.args.height c.args.line first (view_of c.args.own.now) (view_of c.take.new.pass) taken c.in-Some.job took c.in-Some.ensures.takes
      c.if-fits.ensures,
)

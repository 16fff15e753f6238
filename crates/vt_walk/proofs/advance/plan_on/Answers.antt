use Rattle.vt_walk.specs.DrawnBy.{IsDrawnBySome}
use Rattle.vt_walk.proofs.Advancing.{recency_shape, turn_lawful, has_room, has_drawn}
use Rattle.vt_walk.proofs.advance.plan_on.Goals as goal

pub plan_next-requires-clause-shape : goal.plan_next-requires-clause-shape
plan_next-requires-clause-shape g c = recency_shape g.M.PassMachine.drawing c.args.input.now
    c.requires.ran.0.known c.requires.ran.0.run c.args.number c.args.step c.requires.ran.0.machine c.args.recency.now c.requires.ran.1.may

pub plan_next-requires-clause-lawful : goal.plan_next-requires-clause-lawful
plan_next-requires-clause-lawful g c = turn_lawful g.M.PassMachine.drawing c.args.input.now
    c.requires.ran.0.known c.requires.ran.0.run c.args.number c.args.step c.requires.ran.0.machine c.args.recency.now c.requires.ran.1.may

pub drawn_of-requires-clause-passes : goal.drawn_of-requires-clause-passes
drawn_of-requires-clause-passes g c = (has_room g.M.PassMachine.drawing c.args.input.now
    c.requires.ran.0.known c.requires.ran.0.run c.args.number c.args.step c.requires.ran.0.machine c.args.recency.now
    c.args.report.losses.elements c.args.report.events.elements
    c.requires.input c.ranges.number.fits c.requires.ran.1.may c.requires.ran.1.ran.outcome).passes

pub drawn_of-requires-clause-loaded : goal.drawn_of-requires-clause-loaded
drawn_of-requires-clause-loaded g c = (has_room g.M.PassMachine.drawing c.args.input.now
    c.requires.ran.0.known c.requires.ran.0.run c.args.number c.args.step c.requires.ran.0.machine c.args.recency.now
    c.args.report.losses.elements c.args.report.events.elements
    c.requires.input c.ranges.number.fits c.requires.ran.1.may c.requires.ran.1.ran.outcome).loaded

pub drawn_of-requires-clause-lost : goal.drawn_of-requires-clause-lost
drawn_of-requires-clause-lost g c = (has_room g.M.PassMachine.drawing c.args.input.now
    c.requires.ran.0.known c.requires.ran.0.run c.args.number c.args.step c.requires.ran.0.machine c.args.recency.now
    c.args.report.losses.elements c.args.report.events.elements
    c.requires.input c.ranges.number.fits c.requires.ran.1.may c.requires.ran.1.ran.outcome).lost

pub drawn_of-requires-clause-evicted : goal.drawn_of-requires-clause-evicted
drawn_of-requires-clause-evicted g c = (has_room g.M.PassMachine.drawing c.args.input.now
    c.requires.ran.0.known c.requires.ran.0.run c.args.number c.args.step c.requires.ran.0.machine c.args.recency.now
    c.args.report.losses.elements c.args.report.events.elements
    c.requires.input c.ranges.number.fits c.requires.ran.1.may c.requires.ran.1.ran.outcome).evicted

pub drawn_of-requires-clause-reads : goal.drawn_of-requires-clause-reads
drawn_of-requires-clause-reads g c = (has_room g.M.PassMachine.drawing c.args.input.now
    c.requires.ran.0.known c.requires.ran.0.run c.args.number c.args.step c.requires.ran.0.machine c.args.recency.now
    c.args.report.losses.elements c.args.report.events.elements
    c.requires.input c.ranges.number.fits c.requires.ran.1.may c.requires.ran.1.ran.outcome).reads

pub returns : goal.returns
returns g c = λ b made. has_drawn g.M.PassMachine.drawing c.args.input.now b.known
    (IsDrawnBySome g.M.PassMachine) b.run c.args.number c.args.start c.args.step b.machine (g.M.PassMachine.state c.args.machine.now)
    c.args.recency.now c.plan_next.new.recency c.counts.result.now c.args.report c.in_ok-next_plan.next_plan c.drawn_of.result made
    c.counts.ensures c.in_ok-next_plan.ensures c.drawn_of.ensures

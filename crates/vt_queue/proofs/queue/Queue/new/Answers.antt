use Rattle.vt_queue.proofs.queue.Queue.new.Goals as goal

pub returns-clause-capacity : goal.returns-clause-capacity
returns-clause-capacity g c = c.in_ok-ring.ensures.0

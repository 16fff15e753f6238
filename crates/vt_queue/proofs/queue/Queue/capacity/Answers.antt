use Rattle.vt_queue.proofs.queue.Queue.capacity.Goals as goal

pub returns : goal.returns
returns g c = c.capacity.ensures

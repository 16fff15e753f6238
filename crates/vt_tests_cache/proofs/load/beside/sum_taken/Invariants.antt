use Rattle.vt_queue.specs.Queues.{IsPassOfQueue}
use Rattle.vt_tests_cache.proofs.load.beside.sum_taken.Given as goal

abbrev pub invariant-loop : goal.invariant-loop
invariant-loop g l = IsPassOfQueue l.results l.answers

use Rattle.vt_replay_rows.proofs.beside.+fn-try_beside-join_mut+arg2+fn-try_beside-join_mut+arg3+try_beside.Given as goal

abbrev pub decreases-join_mut+arg2 : goal.decreases-join_mut+arg2
decreases-join_mut+arg2 g l = l.few

abbrev pub decreases-join_mut+arg3 : goal.decreases-join_mut+arg3
decreases-join_mut+arg3 g l = l.many

abbrev pub decreases-try_beside : goal.decreases-try_beside
decreases-try_beside g l = l.threads

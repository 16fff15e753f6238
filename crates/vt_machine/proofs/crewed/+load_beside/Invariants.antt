use Rattle.vt_machine.proofs.crewed.+load_beside.Given as goal

abbrev pub decreases-load_beside : goal.decreases-load_beside
decreases-load_beside g l = l.most

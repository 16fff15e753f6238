use Rattle.vt_machine.proofs.crewed.+draw_beside.Given as goal

abbrev pub decreases-draw_beside : goal.decreases-draw_beside
decreases-draw_beside g l = l.most

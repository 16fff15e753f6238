use Rattle.vt_mip.proofs.strip_chain.+level_row.Given as goal

abbrev pub decreases-level_row : goal.decreases-level_row
decreases-level_row g l = l.level

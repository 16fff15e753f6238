use Rattle.vt_journal.proofs.parse.frame_at.Goals as goal

pub returns : goal.returns
returns c = c.small_at.ensures

use Rattle.vt_walk_laws.proofs.Walked.{last_content, count_content, count_whole}
use Rattle.vt_walk_laws.proofs.replays.journal_spells_its_run.Goals as goal

pub returns : goal.returns
returns c = record { rows = last_content; pictures = count_content; whole = count_whole }

use Rattle.vt_journal.proofs.Versions.{newest-none, at-next, newest-more, at-front}
use Rattle.vt_journal.proofs.laws.changes_make_versions.Goals as goal

pub returns : goal.returns
returns c = record { first = newest-none; next = at-next; newest = newest-more; stay = at-front }

use Rattle.vt_journal.proofs.Finding.{lookup-finest, finest-lookup, root_found}
use Rattle.vt_journal.proofs.laws.lookup_is_finest.Goals as goal

pub returns : goal.returns
returns c = record { finest = λ s m p a. (lookup-finest s m p a, finest-lookup s m p a); root = root_found }

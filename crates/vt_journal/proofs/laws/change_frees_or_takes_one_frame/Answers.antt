use Rattle.vt_journal.proofs.Versions.{free_after_map, free_after_unmap}
use Rattle.vt_journal.proofs.laws.change_frees_or_takes_one_frame.Goals as goal

pub returns : goal.returns
returns c = record { map = free_after_map; unmap = free_after_unmap }

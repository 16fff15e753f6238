use Rattle.std.proofs.Common.{Some, None}
use Rattle.vt_journal.proofs.Versions.{entry-same}
use Rattle.vt_journal.proofs.Finding.{changed_elsewhere}
use Rattle.vt_journal.proofs.laws.change_sets_one_entry.Goals as goal

pub returns : goal.returns
returns c = record { map = λ m page frame. entry-same m page (Some frame); unmap = λ m page frame. entry-same m page None; other = changed_elsewhere }

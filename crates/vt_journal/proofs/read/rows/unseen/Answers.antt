use Rattle.std.proofs.Common.{[], refl, replicate}
use Rattle.std.proofs.lemmas.List.{get_or-replicate, length-replicate}
use Rattle.vt_journal.proofs.Rows.{seen_none}
use Rattle.vt_journal.proofs.read.rows.unseen.Goals as goal

pub returns : goal.returns
returns c = seen_none c.args.start [] (replicate 64 c.args.start) refl (length-replicate 64 c.args.start)
    (λ k small. get_or-replicate 64 k c.args.start 0 small)

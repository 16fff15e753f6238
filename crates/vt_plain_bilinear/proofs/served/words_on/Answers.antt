use Rattle.vt_plain_bilinear.proofs.Kept.{memo_kept}
use Rattle.vt_plain_bilinear.proofs.served.words_on.Goals as goal

pub returns-then-are_one-clause-known : goal.returns-then-are_one-clause-known
returns-then-are_one-clause-known g c =
    memo_kept c.args.geometry.now (g.K.Lookup.version c.args.lookup.now) (g.K.Lookup.says c.recall-found.new.lookup)
    (g.K.Lookup.says c.words_by.new.lookup) c.recall-found.new.memo c.words_by.ensures.on.said c.recall-found.ensures.known

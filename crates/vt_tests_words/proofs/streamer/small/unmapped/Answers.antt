use Rattle.std.proofs.Common.{arith, rules}
use Rattle.vt_tests_words.proofs.Small.{small_spared, root_is_4}
use Rattle.vt_tests_words.proofs.streamer.small.unmapped.Goals as goal

pub returns-then-not-is_reserved : goal.returns-then-not-is_reserved
returns-then-not-is_reserved c = small_spared _ _ _ _ c.requires.small c.is_reserved.ensures.rest

pub try_publish-requires-clause-of : goal.try_publish-requires-clause-of
try_publish-requires-clause-of c = (small_spared _ _ _ _ c.requires.small c.is_reserved.ensures.rest).of

pub try_publish-requires-clause-legal : goal.try_publish-requires-clause-legal
try_publish-requires-clause-legal c =
    let root = root_is_4 _ _ _ (small_spared _ _ _ _ c.requires.small c.is_reserved.ensures.rest) in let low = c.requires.page in
    (search rules, λ e. absurd (omega (arith, e, root)))

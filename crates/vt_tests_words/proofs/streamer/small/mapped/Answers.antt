use Rattle.vt_tests_words.proofs.Small.{still_small, small_spared, small_tile}
use Rattle.vt_tests_words.proofs.streamer.small.mapped.Goals as goal

pub fill-requires-clause-tile : goal.fill-requires-clause-tile
fill-requires-clause-tile c = small_tile _ _ _ c.args.tile.now (still_small _ _ _ _ c.requires.small c.try_free.ensures.of) c.requires.tile

pub returns-then-not-is_reserved-clause-small : goal.returns-then-not-is_reserved-clause-small
returns-then-not-is_reserved-clause-small c = small_spared _ _ _ _ (still_small _ _ _ _ c.requires.small c.fill.ensures.of) c.is_reserved.ensures.rest

pub try_publish-requires-clause-of : goal.try_publish-requires-clause-of
try_publish-requires-clause-of c = (small_spared _ _ _ _ (still_small _ _ _ _ c.requires.small c.fill.ensures.of) c.is_reserved.ensures.rest).of

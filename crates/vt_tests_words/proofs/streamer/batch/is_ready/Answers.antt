use Rattle.vt_tests_words.proofs.Small.{small_spared}
use Rattle.vt_tests_words.proofs.streamer.batch.is_ready.Goals as goal

pub returns-clause-small : goal.returns-clause-small
returns-clause-small c = small_spared _ _ _ _ c.requires c.reserve.ensures.rest

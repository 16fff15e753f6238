use Rattle.vt_machine.specs.Nearest.{nearest}
use Rattle.vt_walk_laws.proofs.Walked.{settings_fit}
use Rattle.vt_walk_laws.proofs.replays.nearest_walk_is_of_its_store.Goals as goal

pub returns-clause-setup : goal.returns-clause-setup
returns-clause-setup c = λ scene settings mode known names. settings_fit nearest scene settings mode

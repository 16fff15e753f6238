use Rattle.vt_pictures.proofs.Named.{name_found}
use Rattle.vt_pictures.proofs.name_laws.known_names_are_pictures.Goals as goal

pub returns : goal.returns
returns c = name_found

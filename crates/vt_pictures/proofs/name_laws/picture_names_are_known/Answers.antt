use Rattle.vt_pictures.proofs.Named.{name_known}
use Rattle.vt_pictures.proofs.name_laws.picture_names_are_known.Goals as goal

pub returns : goal.returns
returns c = name_known

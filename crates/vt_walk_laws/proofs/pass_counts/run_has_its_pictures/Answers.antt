use Rattle.vt_walk_laws.proofs.PictureParts.{earlier_picture, newest_picture, whole_picture}
use Rattle.vt_walk_laws.proofs.pass_counts.run_has_its_pictures.Goals as goal

pub returns-clause-earlier : goal.returns-clause-earlier
returns-clause-earlier c = earlier_picture

pub returns-clause-newest : goal.returns-clause-newest
returns-clause-newest c = newest_picture

pub returns-clause-whole : goal.returns-clause-whole
returns-clause-whole c = whole_picture

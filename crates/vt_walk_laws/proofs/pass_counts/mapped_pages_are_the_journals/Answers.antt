use Rattle.vt_walk_laws.proofs.PictureParts.{mapped_is, unmapped_is}
use Rattle.vt_walk_laws.proofs.pass_counts.mapped_pages_are_the_journals.Goals as goal

pub returns-clause-mapped : goal.returns-clause-mapped
returns-clause-mapped c = mapped_is

pub returns-clause-unmapped : goal.returns-clause-unmapped
returns-clause-unmapped c = unmapped_is

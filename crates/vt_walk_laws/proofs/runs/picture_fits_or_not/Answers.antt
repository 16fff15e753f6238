use Rattle.vt_walk.proofs.Wholeness.{needs_one, needs_of, fits_or_not}
use Rattle.vt_walk_laws.proofs.runs.picture_fits_or_not.Goals as goal

pub returns : goal.returns
returns c = record { one = needs_one; needed = needs_of; not_both = fits_or_not }

use Rattle.vt_walk.proofs.Wholeness.{finished_maps_needed}
use Rattle.vt_walk_laws.proofs.runs.finished_picture_is_mapped.Goals as goal

pub returns : goal.returns
returns c = finished_maps_needed

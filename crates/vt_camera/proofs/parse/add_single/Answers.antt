use Rattle.std.proofs.Common.{rules}
use Rattle.vt_camera.proofs.parse.add_single.Goals as goal

pub returns-in-Ok : goal.returns-in-Ok
returns-in-Ok c = search rules

use Rattle.vt_camera.proofs.PathReadingLemmas.{camera_found}
use Rattle.vt_camera.proofs.parse.read_camera.Goals as goal

pub returns : goal.returns
returns c = camera_found c.args.line.now c.camera_at.result c.if-not-has_word.ensures c.if-not-ends_before.ensures c.camera_at.ensures

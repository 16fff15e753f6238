use Rattle.vt_camera.proofs.PathReadingLemmas.{focal_read}
use Rattle.vt_camera.proofs.parse.read_focal.Goals as goal

pub returns : goal.returns
returns c = focal_read c.args.line.now _ c.if-not-has_word.ensures c.if-not-ends_before.ensures c.natural_at.ensures

use Rattle.vt_camera.proofs.PathReadingLemmas.{way_line}
use Rattle.vt_camera.proofs.parse.read_steps.Goals as goal

pub returns : goal.returns
returns c = (
  (c.in_ok-pictures.ensures.0, c.in_ok-pictures.ensures.1, c.in_ok-camera.ensures.0),
  way_line c.args.line.now c.in_ok-pictures.pictures c.in_ok-camera.camera c.if-not-has_word.ensures
      c.if-not-ends_before.ensures c.in_ok-pictures.ensures.2 c.in_ok-camera.ensures.1,
)

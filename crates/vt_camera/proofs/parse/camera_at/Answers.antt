use Rattle.vt_camera.proofs.PathReadingLemmas.{camera_read}
use Rattle.vt_camera.proofs.parse.camera_at.Goals as goal

pub returns : goal.returns
returns c =
    camera_read c.args.line.now c.args.i c.in_ok-u.u c.in_ok-v.v c.in_ok-h.h c.in_ok-c.c c.in_ok-s.s c.in_ok-u.ensures
    c.in_ok-v.ensures c.in_ok-h.ensures c.in_ok-c.ensures c.in_ok-s.ensures

use Rattle.vt_camera.proofs.PathSteps.{path_read}
use Rattle.vt_camera.proofs.parse.read_path.Goals as goal

pub returns : goal.returns
returns c =
    path_read c.args.text.now c.in_ok-head.head.sides.width c.in_ok-head.head.sides.height c.in_ok-head.head.focal
    c.in_ok-head.head.end c.in_ok-cameras.cameras.items c.from_parts.result c.from_parts.ensures c.in_ok-head.ensures
    c.in_ok-cameras.ensures

use Rattle.vt_camera.specs.Ways.{camera_on_way}
use Rattle.vt_camera.proofs.WayLemmas.{one_more}
use Rattle.vt_camera.proofs.ways.add_way.Goals as goal

pub loop-done-preserved : goal.loop-done-preserved
loop-done-preserved c =
    one_more c.args.cameras.now.items c.loop-done.cameras.items _ _
    (camera_on_way c.args.from.now c.args.to.now c.args.n) c.loop-done.done c.loop-done.invariant
    c.in_ok-push.ensures.items c.camera_between.ensures.value

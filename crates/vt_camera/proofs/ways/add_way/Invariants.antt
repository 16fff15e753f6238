use Rattle.std.proofs.Common.{◌≡◌, ◌++◌, map}
use Rattle.std.specs.List.{range_with_len}
use Rattle.vt_camera.specs.Ways.{camera_on_way}
use Rattle.vt_camera.proofs.ways.add_way.Given as goal

abbrev pub invariant-loop-done : goal.invariant-loop-done
invariant-loop-done l = l.cameras.items ≡ l.fn.cameras.items ++ map (camera_on_way l.from l.to l.n) (range_with_len 1 l.done)

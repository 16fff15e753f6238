use Rattle.std.proofs.Common.{◌-◌, length}
use Rattle.vt_camera.proofs.PathSteps.{ReadSoFar}
use Rattle.vt_camera.proofs.parse.read_keys.Given as goal

abbrev pub invariant-loop-at : goal.invariant-loop-at
invariant-loop-at l = ReadSoFar l.text l.start l.at l.number l.last l.cameras.items

abbrev pub decreases-loop-at : goal.decreases-loop-at
decreases-loop-at l = length l.text - l.at

use Rattle.vt_camera.specs.Rows.{camera_place}
use Rattle.vt_camera.proofs.Ground.{ring_place_below}
use Rattle.vt_camera.proofs.laws.place_within_surface.Goals as goal

pub returns-clause-columns : goal.returns-clause-columns
unfolding camera_place
returns-clause-columns c = λ width focal camera x y columns rows some. ring_place_below _ columns some

pub returns-clause-rows : goal.returns-clause-rows
unfolding camera_place
returns-clause-rows c = λ width focal camera x y columns rows some. ring_place_below _ rows some

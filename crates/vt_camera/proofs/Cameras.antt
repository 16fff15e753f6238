-- The cameras of a path.
use Rattle.std.specs.Prelude.{◌≡◌, ℕ, slice_get, Some, pos}
use Rattle.std.proofs.Common.{sym}
use Rattle.std.proofs.lemmas.Option.{get_or_from_slice_get}
use Rattle.vt_camera.specs.declared.paths.Camera.{Camera}
use Rattle.vt_camera.specs.Paths.{PathView, camera_at}

-- the camera of a picture that a path has
pub camera_is : (path : PathView) (picture : ℕ) (camera : Camera) → slice_get path.cameras picture ≡ Some camera → camera ≡ camera_at path picture
camera_is path picture camera has =
    sym (get_or_from_slice_get path.cameras picture camera (record { u = pos 0; v = pos 0; h = pos 1; c = pos 0; s = pos 0 }) has)

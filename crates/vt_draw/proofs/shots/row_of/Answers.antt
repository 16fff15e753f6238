use Rattle.std.proofs.Common.{◌≡◌, ap, sym, subst, ◌∙◌}
use Rattle.vt_camera.specs.declared.paths.Camera.{Camera}
use Rattle.vt_camera.specs.declared.surfaces.Surface.{Surface}
use Rattle.vt_camera.specs.Rows.{RowView, IsSurface, row_of}
use Rattle.vt_camera.specs.Paths.{camera_at}
use Rattle.vt_draw.specs.Shots.{paged_surface, shot_row}
use Rattle.vt_camera.proofs.Cameras.{camera_is}
use Rattle.vt_draw.proofs.shots.row_of.Goals as goal

pub returns-clause-row : goal.returns-clause-row
unfolding shot_row
returns-clause-row c =
    let path = c.args.shot.now.path.now in
    let shape = c.args.shot.now.geometry.now in
    let camera : c.camera-camera.result ≡ camera_at path c.args.shot.now.picture =
    camera_is path c.args.shot.now.picture c.camera-camera.result c.camera-camera.ensures.value in
    let sides : ◌≡◌ {A = Surface} (record { width = c.width.result; height = c.height.result; levels = c.levels.result }) (paged_surface shape) =
    λ i. record { width = c.width.ensures.width i; height = c.height.ensures.height i; levels = c.levels.ensures.levels i } in
    c.of.ensures
    ∙ ap (λ (s : Surface). row_of path c.camera-camera.result c.args.y s) sides
    ∙ ap (λ (m : Camera). row_of path m c.args.y (paged_surface shape)) camera

pub camera-camera-requires : goal.camera-camera-requires
camera-camera-requires c = c.requires.picture

pub of-requires-clause-within : goal.of-requires-clause-within
of-requires-clause-within c = c.requires.within

pub of-requires-clause-limits : goal.of-requires-clause-limits
of-requires-clause-limits c = c.camera-camera.ensures.limits

pub of-requires-clause-sides : goal.of-requires-clause-sides
of-requires-clause-sides c =
    let sides : ◌≡◌ {A = Surface} (paged_surface c.args.shot.now.geometry.now) (record { width = c.width.result; height = c.height.result; levels = c.levels.result }) =
    λ i. record { width = sym c.width.ensures.width i; height = sym c.height.ensures.height i; levels = sym c.levels.ensures.levels i } in
    let of = c.width.ensures.limits in
    subst IsSurface sides (record {
      width_low = of.least_width;
      width_high = of.most_width;
      height_low = of.least_height;
      height_high = of.most_height;
      some_level = of.some_level;
    })

pub returns-clause-width : goal.returns-clause-width
returns-clause-width c = ap (λ (r : RowView). r.width) c.of.ensures

pub returns-clause-surface : goal.returns-clause-surface
returns-clause-surface c =
    ap (λ (r : RowView). r.surface) c.of.ensures
    ∙ λ i. record { width = c.width.ensures.width i; height = c.height.ensures.height i; levels = c.levels.ensures.levels i }

pub returns-clause-limits : goal.returns-clause-limits
returns-clause-limits c = c.width.ensures.limits

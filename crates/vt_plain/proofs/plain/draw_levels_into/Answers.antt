use Rattle.std.proofs.Common.{ℕ, ◌*◌, ap, ap₂, sym, subst, ◌∙◌, arith}
use Rattle.vt_pages.specs.Depths.{texel_length}
use Rattle.vt_camera.specs.declared.paths.Camera.{Camera}
use Rattle.vt_plain.specs.Plain.{first_rows}
use Rattle.vt_plain.specs.Views.{WantsNone, source_of}
use Rattle.vt_camera.proofs.Cameras.{camera_is}
use Rattle.vt_plain.proofs.PartsDrawn.{room_by_rows}
use Rattle.vt_plain.proofs.plain.draw_levels_into.Goals as goal

pub camera-requires : goal.camera-requires
camera-requires g c = c.requires.picture

pub draw_in_threads-requires-clause-rows : goal.draw_in_threads-requires-clause-rows
draw_in_threads-requires-clause-rows g c κs within =
    λ y below.
    let path = c.args.path.now in
    record {
      view = record {
        levels = c.requires.levels;
        camera = c.camera.ensures.limits;
        wants = subst (λ (m : Camera). WantsNone c.args.levels.now path m)
            (sym (camera_is path c.args.picture c.camera.result c.camera.ensures.value)) c.requires.wants;
      };
      inside = omega (arith, below, c.height.ensures.value);
      full = ap₂ (λ (m n : ℕ). m * n) (c.texel_length.ensures.value ∙ ap texel_length c.depth.ensures.value) c.width.ensures.value;
    }

pub draw_in_threads-requires-clause-room : goal.draw_in_threads-requires-clause-room
draw_in_threads-requires-clause-room g c κs within =
    let path = c.args.path.now in
    room_by_rows (texel_length c.args.levels.now.chain.now.base.depth) path.width path.height _ _ _ c.requires.room
    (ap₂ (λ (m n : ℕ). m * n) (c.texel_length.ensures.value ∙ ap texel_length c.depth.ensures.value) c.width.ensures.value)
    c.height.ensures.value

pub returns : goal.returns
unfolding first_rows
returns g c =
    let l = c.args.levels.now in
    let d : ℕ = l.chain.now.base.depth in
    let path = c.args.path.now in
    c.draw_in_threads.ensures
    ∙ ap (λ (n : ℕ). first_rows d (source_of l) l.surface path c.camera.result n) c.height.ensures.value
    ∙ ap (λ (m : Camera). first_rows d (source_of l) l.surface path m path.height)
    (camera_is path c.args.picture c.camera.result c.camera.ensures.value)

use Rattle.std.proofs.Common.{ℕ, ◌*◌, ap, ap₂, ◌∙◌, arith}
use Rattle.vt_definitions.specs.Depths.{texel_length}
use Rattle.vt_camera.specs.declared.paths.Camera.{Camera}
use Rattle.vt_camera.specs.declared.surfaces.Surface.{Surface}
use Rattle.vt_plain.specs.Plain.{chain_of, surface_of}
use Rattle.vt_camera.proofs.Cameras.{camera_is}
use Rattle.vt_plain.proofs.PartsDrawn.{room_by_rows}
use Rattle.vt_plain.specs.BlendedPlain.{first_blended_rows, plain_blends}
use Rattle.vt_plain.proofs.blended.draw_plain_blend_into.Goals as goal

pub camera-requires : goal.camera-requires
camera-requires g c = c.requires.picture

pub draw_in_threads-requires-clause-rows : goal.draw_in_threads-requires-clause-rows
draw_in_threads-requires-clause-rows g c κs within =
    λ y below. record {
      view = record {
        surface = c.surface_of.ensures.value;
        limits = c.surface_of.ensures.limits;
        levels = c.surface_of.ensures.levels;
        camera = c.camera.ensures.limits;
      };
      inside = omega (arith, below, c.height.ensures.value);
      full = ap₂ (λ (m n : ℕ). m * n) (c.texel_length.ensures.value ∙ ap texel_length c.depth.ensures.value) c.width.ensures.value;
    }

pub draw_in_threads-requires-clause-room : goal.draw_in_threads-requires-clause-room
draw_in_threads-requires-clause-room g c κs within =
    let path = c.args.path.now in
    room_by_rows (texel_length c.args.chain.now.base.depth) path.width path.height _ _ _ c.requires.room
    (ap₂ (λ (m n : ℕ). m * n) (c.texel_length.ensures.value ∙ ap texel_length c.depth.ensures.value) c.width.ensures.value)
    c.height.ensures.value

pub returns : goal.returns
unfolding plain_blends first_blended_rows
returns g c =
    let base = c.args.chain.now.base in
    let d : ℕ = base.depth in
    let path = c.args.path.now in
    c.draw_in_threads.ensures
    ∙ ap (λ (n : ℕ). first_blended_rows d (chain_of base) c.surface_of.result path c.camera.result n) c.height.ensures.value
    ∙ ap (λ (s : Surface). first_blended_rows d (chain_of base) s path c.camera.result path.height) c.surface_of.ensures.value
    ∙ ap (λ (m : Camera). first_blended_rows d (chain_of base) (surface_of base c.args.chain.now.tile) path m path.height)
    (camera_is path c.args.picture c.camera.result c.camera.ensures.value)

use Rattle.std.proofs.Common.{ap, ◌∙◌, length}
use Rattle.std.proofs.lemmas.List.{with_items_is}
use Rattle.vt_camera.specs.Paths.{camera_at}
use Rattle.vt_plain.specs.Plain.{chain_of, surface_of}
use Rattle.vt_plain.specs.BlendedPlain.{plain_blends}
use Rattle.vt_plain.proofs.PlainBlends.{length-rows}
use Rattle.vt_plain.proofs.blended.draw_plain_blend.Goals as goal

pub returns-clause-samples : goal.returns-clause-samples
returns-clause-samples g c =
    with_items_is c.in_ok-samples.samples c.draw_plain_blend_into.new.out (c.draw_plain_blend_into.auto.out ∙ c.as_mut_slice.ensures.len) ∙ c.draw_plain_blend_into.ensures

pub returns-clause-size : goal.returns-clause-size
unfolding plain_blends
returns-clause-size g c =
    let base = c.args.chain.now.base in
    let path = c.args.path.now in
    ap length (with_items_is c.in_ok-samples.samples c.draw_plain_blend_into.new.out (c.draw_plain_blend_into.auto.out ∙ c.as_mut_slice.ensures.len)
    ∙ c.draw_plain_blend_into.ensures)
    ∙ length-rows base.depth (chain_of base) (surface_of base c.args.chain.now.tile) path (camera_at path c.args.picture) path.height

use Rattle.std.proofs.Common.{ap, ◌∙◌, length}
use Rattle.std.proofs.lemmas.List.{with_items_is}
use Rattle.vt_camera.specs.Paths.{camera_at}
use Rattle.vt_plain.specs.Plain.{chain_of, surface_of, plain_samples}
use Rattle.vt_plain.proofs.Drawn.{length-first_rows}
use Rattle.vt_plain.proofs.plain.draw_plain.Goals as goal

pub returns-clause-samples : goal.returns-clause-samples
returns-clause-samples g c =
    with_items_is c.in_ok-samples.samples c.draw_plain_into.new.out (c.draw_plain_into.auto.out ∙ c.as_mut_slice.ensures.len) ∙ c.draw_plain_into.ensures

pub returns-clause-size : goal.returns-clause-size
unfolding plain_samples
returns-clause-size g c =
    let base = c.args.chain.now.base in
    let path = c.args.path.now in
    ap length (with_items_is c.in_ok-samples.samples c.draw_plain_into.new.out (c.draw_plain_into.auto.out ∙ c.as_mut_slice.ensures.len)
    ∙ c.draw_plain_into.ensures)
    ∙ length-first_rows base.depth (chain_of base) (surface_of base c.args.chain.now.tile) path (camera_at path c.args.picture) path.height

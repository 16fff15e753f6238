use Rattle.std.proofs.Common.{ap, ◌∙◌}
use Rattle.vt_pages.specs.Texels.{Source}
use Rattle.vt_camera.specs.declared.surfaces.Surface.{Surface}
use Rattle.vt_plain.specs.Plain.{chain_of, plain_picture, plain_samples}
use Rattle.vt_plain.proofs.WantedLevels.{levels_whole}
use Rattle.vt_plain.proofs.plain.draw_plain_into.Goals as goal

pub returns : goal.returns
unfolding plain_samples
returns g c =
    let base = c.args.chain.now.base in
    let path = c.args.path.now in
    c.draw_levels_into.ensures
    ∙ ap (λ (source : Source). plain_picture base.depth source c.surface_of.result path c.args.picture) (levels_whole (chain_of base))
    ∙ ap (λ (s : Surface). plain_picture base.depth (chain_of base) s path c.args.picture) c.surface_of.ensures.value

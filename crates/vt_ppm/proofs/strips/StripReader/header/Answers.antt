use Rattle.std.proofs.Common.{◌≡◌, ap, ◌∙◌, subst}
use Rattle.vt_ppm.specs.Strips.{IsTextureIfKnown}
use Rattle.vt_ppm.proofs.StripLaws.{texture_known}
use Rattle.vt_ppm.proofs.strips.StripReader.header.Goals as goal

pub returns-clause-texture : goal.returns-clause-texture
returns-clause-texture g c = λ checked.
    let same : c.self.inside.checked ≡ c.args.self.now.checked = ap (λ v. v.checked) c.self.view_is in
    subst (λ v. IsTextureIfKnown (g.F.File.bytes v.file) v.header) c.self.view_is
    (texture_known (g.F.File.bytes c.self.inside.file) c.self.inside.header c.self.invariant.raster (c.self.invariant.samples (same ∙ checked)))

use Rattle.std.proofs.Common.{◌∙◌, subst, arith}
use Rattle.vt_ppm.proofs.UnknownContents.{OnErr-all}
use Rattle.vt_ppm.specs.declared.header.Header.{Header}
use Rattle.vt_ppm.specs.Strips.{texture_of}
use Rattle.vt_ppm.proofs.StripPlaces.{no_strips, strips_front}
use Rattle.vt_mip.specs.Halves.{IsHalf}
use Rattle.vt_mip.specs.HalvedStrips.{strip_height}
use Rattle.vt_mip.proofs.halved_strips.halve_texture.Goals as goal

pub returns-in_err-half-clause-tried : goal.returns-in_err-half-clause-tried
returns-in_err-half-clause-tried g c =
    let h = c.args.reader.now.header in
    let before = g.F.File.asked c.args.reader.now.file in
    let after = g.F.File.asked c.reserve.new.self.file in
    OnErr-all _ _ (strips_front h strip_height 0 before after (omega arith) (no_strips h strip_height before after c.reserve.ensures.asked))

pub returns-clause-half : goal.returns-clause-half
returns-clause-half g c = λ b known.
    subst (λ (h : Header). IsHalf (texture_of h b) c.finish.result) c.reserve.ensures.header
    (c.finish.ensures.half (texture_of c.reserve.new.self.header b) (c.in_ok-halve_strips.ensures.halves b (c.reserve.ensures.bytes ∙ known)))

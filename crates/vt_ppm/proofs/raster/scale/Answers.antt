use Rattle.std.proofs.Common.{◌≡◌, ◌*◌, ◌≤◌, inl, inr, length, refl, sym, ◌∙◌, subst}
use Rattle.vt_definitions.specs.Depths.{greatest_sample}
use Rattle.vt_ppm.specs.Format.{depth_of}
use Rattle.vt_ppm.specs.Samples.{AreScaledUpTo}
use Rattle.vt_ppm.proofs.SampleValues.{are_bytes, maximum_few, two_deep}
use Rattle.vt_ppm.proofs.raster.scale.Goals as goal

pub scale_samples-requires-clause-lawful : goal.scale_samples-requires-clause-lawful
scale_samples-requires-clause-lawful c =
    let narrow : depth_of c.args.maximum ≡ 1 = sym c.depth_of.ensures.value ∙ c.if-depth_of-eq1.true in
    subst (λ d. c.args.maximum ≤ greatest_sample d) narrow (maximum_few c.args.maximum c.requires.maximum.few)

pub scale_samples-requires-clause-depth : goal.scale_samples-requires-clause-depth
scale_samples-requires-clause-depth c = inl refl

pub scale_samples-requires-clause-full : goal.scale_samples-requires-clause-full
scale_samples-requires-clause-full c =
    subst (λ d. length c.args.raster.now ≡ d * c.args.count) (sym c.depth_of.ensures.value ∙ c.if-depth_of-eq1.true) c.requires.full

pub scale_samples-requires-clause-some : goal.scale_samples-requires-clause-some
scale_samples-requires-clause-some c = c.requires.maximum.some

pub scale_samples-requires-else-depth_of-eq1-clause-depth : goal.scale_samples-requires-else-depth_of-eq1-clause-depth
scale_samples-requires-else-depth_of-eq1-clause-depth c = inr refl

pub scale_samples-requires-else-depth_of-eq1-clause-full : goal.scale_samples-requires-else-depth_of-eq1-clause-full
scale_samples-requires-else-depth_of-eq1-clause-full c =
    subst (λ d. length c.args.raster.now ≡ d * c.args.count) (sym c.depth_of.ensures.value ∙ two_deep _ c.depth_of.ensures.depth c.if-depth_of-eq1.false)
    c.requires.full

pub scale_samples-requires-else-depth_of-eq1-clause-some : goal.scale_samples-requires-else-depth_of-eq1-clause-some
scale_samples-requires-else-depth_of-eq1-clause-some c = c.requires.maximum.some

pub scale_samples-requires-else-depth_of-eq1-clause-lawful : goal.scale_samples-requires-else-depth_of-eq1-clause-lawful
scale_samples-requires-else-depth_of-eq1-clause-lawful c =
    subst (λ d. c.args.maximum ≤ greatest_sample d)
    (sym c.depth_of.ensures.value ∙ two_deep _ c.depth_of.ensures.depth c.if-depth_of-eq1.false) (maximum_few c.args.maximum c.requires.maximum.few)

pub returns-then-depth_of-eq1-clause-scaled : goal.returns-then-depth_of-eq1-clause-scaled
returns-then-depth_of-eq1-clause-scaled c =
    subst (λ d. AreScaledUpTo d c.args.maximum c.args.count c.args.raster.now c.scale_samples.new.raster)
    (sym (sym c.depth_of.ensures.value ∙ c.if-depth_of-eq1.true)) c.scale_samples.ensures

pub returns-else-depth_of-eq1-clause-scaled : goal.returns-else-depth_of-eq1-clause-scaled
returns-else-depth_of-eq1-clause-scaled c =
    subst (λ d. AreScaledUpTo d c.args.maximum c.args.count c.args.raster.now c.scale_samples-else-depth_of-eq1.new.raster)
    (sym (sym c.depth_of.ensures.value ∙ two_deep _ c.depth_of.ensures.depth c.if-depth_of-eq1.false)) c.scale_samples-else-depth_of-eq1.ensures

pub returns-then-depth_of-eq1-clause-bytes : goal.returns-then-depth_of-eq1-clause-bytes
returns-then-depth_of-eq1-clause-bytes c = are_bytes _ c.type_inv.raster

pub returns-else-depth_of-eq1-clause-bytes : goal.returns-else-depth_of-eq1-clause-bytes
returns-else-depth_of-eq1-clause-bytes c = are_bytes _ c.type_inv.raster

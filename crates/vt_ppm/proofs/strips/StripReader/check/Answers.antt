use Rattle.std.proofs.Common.{◌≡◌, ◌+◌, ◌≤◌, OnOk, IfErr, IfSome, IsErrOf, length, ap, sym, ◌∙◌, subst}
use Rattle.std.proofs.lemmas.List.{with_items_is}
use Rattle.std.proofs.lemmas.Result.{on_ok_weaker}
use Rattle.vt_outside.specs.Counts.{Rose}
use Rattle.vt_ppm.specs.declared.error.PpmError.TheVariants.{Failed}
use Rattle.vt_ppm.specs.Flaws.{IsHeaderFlaw}
use Rattle.vt_ppm.specs.Refusals.{IsSampleRefusal}
use Rattle.vt_ppm.specs.Strips.{ChecksPieces, GainsRows, HasRasterIfKnown, HasSamplesIfKnown, IsTextureIfKnown, MayBeOver, ReadsNothing}
use Rattle.vt_ppm.proofs.Refusing.{made_if_ok, not_made_if_err, value_if_made}
use Rattle.vt_ppm.proofs.StripLaws.{texture_known}
use Rattle.vt_ppm.proofs.strips.StripReader.check.Goals as goal

pub returns-clause-texture : goal.returns-clause-texture
returns-clause-texture g c =
    subst (λ v. OnOk c.look_over-answer.result (IsTextureIfKnown (g.F.File.bytes v.file) v.header)) c.self.view_is (on_ok_weaker c.look_over-answer.result
    (texture_known (g.F.File.bytes c.self.inside.file) c.self.inside.header c.self.invariant.raster) c.look_over-answer.ensures.few)

pub returns-clause-checked : goal.returns-clause-checked
returns-clause-checked g c = made_if_ok c.look_over-answer.result _ c.is_ok-self-inside.ensures.value

pub returns-clause-refused : goal.returns-clause-refused
returns-clause-refused g c = not_made_if_err c.look_over-answer.result _ c.is_ok-self-inside.ensures.value

pub returns-clause-flaw : goal.returns-clause-flaw
returns-clause-flaw g c =
    subst (λ v. IfErr c.look_over-answer.result (λ e. IsSampleRefusal e → IfSome (g.F.File.bytes v.file) (λ b. IsHeaderFlaw b e))) c.self.view_is
    c.look_over-answer.ensures.flaw

pub returns-clause-refusals : goal.returns-clause-refusals
returns-clause-refusals g c = c.look_over-answer.ensures.refusals

pub returns-clause-failed : goal.returns-clause-failed
returns-clause-failed g c =
    subst (λ v. IsErrOf c.look_over-answer.result Failed → Rose (g.F.File.faults v.file) (g.F.File.faults c.look_over-answer.new.file)) c.self.view_is
    c.look_over-answer.ensures.failed

pub returns-clause-asked : goal.returns-clause-asked
returns-clause-asked g c =
    subst (λ v. MayBeOver v.header → ChecksPieces v.header c.look_over-answer.result (g.F.File.asked v.file) (g.F.File.asked c.look_over-answer.new.file))
    c.self.view_is c.look_over-answer.ensures.asked

pub returns-clause-unread : goal.returns-clause-unread
returns-clause-unread g c =
    subst (λ v. (MayBeOver v.header → ⊥) → ReadsNothing c.look_over-answer.result (g.F.File.asked v.file) (g.F.File.asked c.look_over-answer.new.file)
    (g.F.File.faults v.file) (g.F.File.faults c.look_over-answer.new.file)) c.self.view_is c.look_over-answer.ensures.unread

pub returns-clause-rows : goal.returns-clause-rows
returns-clause-rows g c =
    subst (λ v. GainsRows v.header (g.F.File.asked v.file) (g.F.File.asked c.look_over-answer.new.file)) c.self.view_is c.look_over-answer.ensures.rows

pub returns-clause-spare : goal.returns-clause-spare
returns-clause-spare g c =
    subst (λ v. g.F.File.spare v.file ≤ g.F.File.spare c.look_over-answer.new.file + v.header.height) c.self.view_is c.look_over-answer.ensures.spare

pub returns-clause-bytes : goal.returns-clause-bytes
returns-clause-bytes g c = subst (λ v. g.F.File.bytes c.look_over-answer.new.file ≡ g.F.File.bytes v.file) c.self.view_is c.look_over-answer.ensures.bytes

pub returns-clause-name : goal.returns-clause-name
returns-clause-name g c = subst (λ v. g.F.File.name c.look_over-answer.new.file ≡ g.F.File.name v.file) c.self.view_is c.look_over-answer.ensures.name

pub returns-clause-faults : goal.returns-clause-faults
returns-clause-faults g c = subst (λ v. g.F.File.faults v.file ≤ g.F.File.faults c.look_over-answer.new.file) c.self.view_is c.look_over-answer.ensures.faults

pub returns-clause-header : goal.returns-clause-header
returns-clause-header g c = ap (λ v. v.header) c.self.view_is

pub invariant_of-self : goal.invariant_of-self
invariant_of-self g c =
    let v = c.self.inside in
    let a = c.look_over-answer in
    record {
      header = c.self.invariant.header;
      raster = subst (λ t. HasRasterIfKnown t v.header) (sym a.ensures.bytes) c.self.invariant.raster;
      samples = λ checked. subst (λ t. HasSamplesIfKnown t v.header) (sym a.ensures.bytes)
          (value_if_made a.result _ _ c.is_ok-self-inside.ensures.value checked a.ensures.few);
      room = λ may. ap length (with_items_is v.buffer a.new.buffer (a.auto.buffer ∙ c.as_mut_slice.ensures.len)) ∙ a.auto.buffer
          ∙ ap length c.as_mut_slice.ensures.value ∙ c.self.invariant.room may;
    }

use Rattle.vt_ppm.specs.declared.read.Front.{Front}
use Rattle.vt_ppm.proofs.Refusing.{fault_handed_on, flaw_no_fault, outside_header_answer, outside_no_sample, no_raster_no_sample, front_answer}
use Rattle.std.proofs.Common.{refl}
use Rattle.std.proofs.lemmas.Result.{err_from_is_err_and}
use Rattle.vt_outside.proofs.Refusing.{no_value, handed_on}
use Rattle.vt_definitions.specs.Limits.{most_tiled_side}
use Rattle.vt_ppm.proofs.ImageLaws.{texture_header, wider_header}
use Rattle.vt_ppm.proofs.StripLaws.{raster_known}
use Rattle.vt_ppm.proofs.KnownFiles.{flaw_known, truncated_known}
use Rattle.vt_ppm.proofs.read.read_texture_header.Goals as goal

pub returns-in_err-header-clause-flaw : goal.returns-in_err-header-clause-flaw
returns-in_err-header-clause-flaw g c =
    let p = err_from_is_err_and c.from_residual-in_err-header.result c.from_residual-in_err-header.ensures.1 in
    rw (p.1, p.2) (λ _. flaw_known c.args.most _ c.in_ok-bytes.field-0.length c.deref.result.now (rw c.deref.ensures.value c.in_ok-bytes.ensures.front)
    c.in_err-header.field-0.0 c.in_err-header.ensures.no_raster c.in_err-header.ensures.flaw)

pub returns-then-have-want-clause-flaw : goal.returns-then-have-want-clause-flaw
returns-then-have-want-clause-flaw g c =
    let h = c.in_ok-header.header in
    λ _. truncated_known c.args.most _ c.in_ok-bytes.field-0.length h.raster h.width h.height h.maximum c.deref.result.now
    (rw c.deref.ensures.value c.in_ok-bytes.ensures.front) c.in_ok-header.ensures.header
    _ _ (rw c.deref.ensures.value c.in_ok-bytes.ensures.few) c.raster_length-want.ensures refl c.if-have-want.true

pub returns-clause-raster : goal.returns-clause-raster
returns-clause-raster g c =
    raster_known _ c.in_ok-bytes.field-0.length c.deref.result.now c.in_ok-header.header _ _
    (rw c.deref.ensures.value c.in_ok-bytes.ensures.front) (rw c.deref.ensures.value c.in_ok-bytes.ensures.few)
    (let h = c.in_ok-header.header in wider_header c.args.most most_tiled_side _ h.raster h.width h.height h.maximum c.requires c.in_ok-header.ensures.header)
    c.raster_length-want.ensures refl c.if-have-want.false c.in_ok-bytes.ensures.values

pub returns-in_err-bytes-clause-limits : goal.returns-in_err-bytes-clause-limits
returns-in_err-bytes-clause-limits g c = no_value c.from_residual.result _ _ c.from_residual.ensures.1

pub returns-in_err-bytes-clause-raster : goal.returns-in_err-bytes-clause-raster
returns-in_err-bytes-clause-raster g c = no_value c.from_residual.result _ _ c.from_residual.ensures.1

pub returns-in_err-bytes-clause-flaw : goal.returns-in_err-bytes-clause-flaw
returns-in_err-bytes-clause-flaw g c = handed_on c.from_residual.result _ _ c.from_residual.ensures.1 (λ never. absurd (never c.in_err-bytes.ensures.refusals))

pub returns-in_err-bytes-clause-no_sample : goal.returns-in_err-bytes-clause-no_sample
returns-in_err-bytes-clause-no_sample g c = handed_on c.from_residual.result _ _ c.from_residual.ensures.1 (outside_no_sample _ c.in_err-bytes.ensures.refusals)

pub returns-in_err-bytes-clause-failed : goal.returns-in_err-bytes-clause-failed
returns-in_err-bytes-clause-failed g c = fault_handed_on {T = Front} c.from_residual.result _ _ c.from_residual.ensures.1 c.in_err-bytes.ensures.failed

pub returns-in_err-bytes-clause-read : goal.returns-in_err-bytes-clause-read
returns-in_err-bytes-clause-read g c = outside_header_answer c.from_residual.result _ _ _ _ c.from_residual.ensures.1 c.in_err-bytes.ensures.refusals

pub returns-in_err-header-clause-limits : goal.returns-in_err-header-clause-limits
returns-in_err-header-clause-limits g c = no_value c.from_residual-in_err-header.result _ _ c.from_residual-in_err-header.ensures.1

pub returns-in_err-header-clause-raster : goal.returns-in_err-header-clause-raster
returns-in_err-header-clause-raster g c = no_value c.from_residual-in_err-header.result _ _ c.from_residual-in_err-header.ensures.1

pub returns-in_err-header-clause-no_sample : goal.returns-in_err-header-clause-no_sample
returns-in_err-header-clause-no_sample g c =
    handed_on c.from_residual-in_err-header.result _ _ c.from_residual-in_err-header.ensures.1 (no_raster_no_sample _ c.in_err-header.ensures.no_raster)

pub returns-in_err-header-clause-failed : goal.returns-in_err-header-clause-failed
returns-in_err-header-clause-failed g c =
    flaw_no_fault c.from_residual-in_err-header.result _ _ _ _ c.from_residual-in_err-header.ensures.1 c.in_err-header.ensures.flaw

pub returns-in_err-header-clause-read : goal.returns-in_err-header-clause-read
returns-in_err-header-clause-read g c = front_answer c.from_residual-in_err-header.result _ _ _ c.in_ok-bytes.ensures.read

pub returns-then-have-want-clause-limits : goal.returns-then-have-want-clause-limits
returns-then-have-want-clause-limits g c = tt

pub returns-then-have-want-clause-raster : goal.returns-then-have-want-clause-raster
returns-then-have-want-clause-raster g c = tt

pub returns-then-have-want-clause-no_sample : goal.returns-then-have-want-clause-no_sample
returns-then-have-want-clause-no_sample g c = λ sample. sample

pub returns-then-have-want-clause-failed : goal.returns-then-have-want-clause-failed
returns-then-have-want-clause-failed g c = λ failed. let no : ⊥ = cc in absurd no

pub returns-then-have-want-clause-read : goal.returns-then-have-want-clause-read
returns-then-have-want-clause-read g c = c.in_ok-bytes.ensures.read

pub returns-clause-flaw : goal.returns-clause-flaw
returns-clause-flaw g c = tt

pub returns-clause-no_sample : goal.returns-clause-no_sample
returns-clause-no_sample g c = tt

pub returns-clause-failed : goal.returns-clause-failed
returns-clause-failed g c = λ failed. let no : ⊥ = cc in absurd no

pub returns-clause-read : goal.returns-clause-read
returns-clause-read g c = c.in_ok-bytes.ensures.read

pub returns-in_err-bytes-clause-asked : goal.returns-in_err-bytes-clause-asked
returns-in_err-bytes-clause-asked g c = c.front_of.ensures.asked

pub returns-in_err-bytes-clause-bytes : goal.returns-in_err-bytes-clause-bytes
returns-in_err-bytes-clause-bytes g c = c.front_of.ensures.bytes

pub returns-in_err-bytes-clause-name : goal.returns-in_err-bytes-clause-name
returns-in_err-bytes-clause-name g c = c.front_of.ensures.name

pub returns-in_err-bytes-clause-faults : goal.returns-in_err-bytes-clause-faults
returns-in_err-bytes-clause-faults g c = c.front_of.ensures.faults

pub returns-in_err-header-clause-asked : goal.returns-in_err-header-clause-asked
returns-in_err-header-clause-asked g c = c.front_of.ensures.asked

pub returns-in_err-header-clause-bytes : goal.returns-in_err-header-clause-bytes
returns-in_err-header-clause-bytes g c = c.front_of.ensures.bytes

pub returns-in_err-header-clause-name : goal.returns-in_err-header-clause-name
returns-in_err-header-clause-name g c = c.front_of.ensures.name

pub returns-in_err-header-clause-faults : goal.returns-in_err-header-clause-faults
returns-in_err-header-clause-faults g c = c.front_of.ensures.faults

pub returns-then-have-want-clause-asked : goal.returns-then-have-want-clause-asked
returns-then-have-want-clause-asked g c = c.front_of.ensures.asked

pub returns-then-have-want-clause-bytes : goal.returns-then-have-want-clause-bytes
returns-then-have-want-clause-bytes g c = c.front_of.ensures.bytes

pub returns-then-have-want-clause-name : goal.returns-then-have-want-clause-name
returns-then-have-want-clause-name g c = c.front_of.ensures.name

pub returns-then-have-want-clause-faults : goal.returns-then-have-want-clause-faults
returns-then-have-want-clause-faults g c = c.front_of.ensures.faults

pub returns-clause-asked : goal.returns-clause-asked
returns-clause-asked g c = c.front_of.ensures.asked

pub returns-clause-bytes : goal.returns-clause-bytes
returns-clause-bytes g c = c.front_of.ensures.bytes

pub returns-clause-name : goal.returns-clause-name
returns-clause-name g c = c.front_of.ensures.name

pub returns-clause-faults : goal.returns-clause-faults
returns-clause-faults g c = c.front_of.ensures.faults

pub returns-clause-limits : goal.returns-clause-limits
returns-clause-limits g c = texture_header c.args.most _ c.in_ok-header.header c.requires c.in_ok-header.ensures.header

pub returns-clause-sides : goal.returns-clause-sides
returns-clause-sides g c = c.in_ok-header.ensures.header.sized.sides

pub returns-in_err-bytes-clause-sides : goal.returns-in_err-bytes-clause-sides
returns-in_err-bytes-clause-sides g c = no_value c.from_residual.result _ _ c.from_residual.ensures.1

pub returns-in_err-header-clause-sides : goal.returns-in_err-header-clause-sides
returns-in_err-header-clause-sides g c = no_value c.from_residual-in_err-header.result _ _ c.from_residual-in_err-header.ensures.1

pub returns-then-have-want-clause-sides : goal.returns-then-have-want-clause-sides
returns-then-have-want-clause-sides g c = tt

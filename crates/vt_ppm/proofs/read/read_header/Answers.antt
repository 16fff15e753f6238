use Rattle.vt_outside.proofs.Refusing.{no_value, handed_on}
use Rattle.vt_ppm.specs.declared.read.Front.{Front}
use Rattle.vt_ppm.proofs.Refusing.{fault_handed_on, flaw_answer_no_fault, front_answer, outside_header_answer, outside_no_raster}
use Rattle.vt_definitions.specs.Limits.{most_tiled_side}
use Rattle.vt_ppm.proofs.KnownFiles.{answer_known, header_answer_known}
use Rattle.vt_ppm.proofs.read.read_header.Goals as goal

pub returns-clause-header : goal.returns-clause-header
returns-clause-header g c =
    header_answer_known most_tiled_side _ c.in_ok-front.front.length c.deref.result.now
    (rw c.deref.ensures.value c.in_ok-front.ensures.front) c.lawful_header.result c.lawful_header.ensures.header

pub returns-clause-flaw : goal.returns-clause-flaw
returns-clause-flaw g c =
    answer_known most_tiled_side _ c.in_ok-front.front.length c.deref.result.now
    (rw c.deref.ensures.value c.in_ok-front.ensures.front) c.lawful_header.result c.lawful_header.ensures.no_raster c.lawful_header.ensures.flaw

pub returns-in_err-front-clause-header : goal.returns-in_err-front-clause-header
returns-in_err-front-clause-header g c = no_value c.from_residual.result _ _ c.from_residual.ensures.1

pub returns-in_err-front-clause-flaw : goal.returns-in_err-front-clause-flaw
returns-in_err-front-clause-flaw g c = handed_on c.from_residual.result _ _ c.from_residual.ensures.1 (λ never. absurd (never c.in_err-front.ensures.refusals))

pub returns-in_err-front-clause-no_raster : goal.returns-in_err-front-clause-no_raster
returns-in_err-front-clause-no_raster g c = handed_on c.from_residual.result _ _ c.from_residual.ensures.1 (outside_no_raster _ c.in_err-front.ensures.refusals)

pub returns-in_err-front-clause-failed : goal.returns-in_err-front-clause-failed
returns-in_err-front-clause-failed g c = fault_handed_on {T = Front} c.from_residual.result _ _ c.from_residual.ensures.1 c.in_err-front.ensures.failed

pub returns-in_err-front-clause-read : goal.returns-in_err-front-clause-read
returns-in_err-front-clause-read g c = outside_header_answer c.from_residual.result _ _ _ _ c.from_residual.ensures.1 c.in_err-front.ensures.refusals

pub returns-clause-no_raster : goal.returns-clause-no_raster
returns-clause-no_raster g c = c.lawful_header.ensures.no_raster

pub returns-clause-failed : goal.returns-clause-failed
returns-clause-failed g c = flaw_answer_no_fault c.lawful_header.result _ _ _ c.lawful_header.ensures.flaw

pub returns-clause-read : goal.returns-clause-read
returns-clause-read g c = front_answer c.lawful_header.result _ _ _ c.in_ok-front.ensures.read

pub returns-in_err-front-clause-asked : goal.returns-in_err-front-clause-asked
returns-in_err-front-clause-asked g c = c.front_of.ensures.asked

pub returns-in_err-front-clause-bytes : goal.returns-in_err-front-clause-bytes
returns-in_err-front-clause-bytes g c = c.front_of.ensures.bytes

pub returns-in_err-front-clause-name : goal.returns-in_err-front-clause-name
returns-in_err-front-clause-name g c = c.front_of.ensures.name

pub returns-in_err-front-clause-faults : goal.returns-in_err-front-clause-faults
returns-in_err-front-clause-faults g c = c.front_of.ensures.faults

pub returns-clause-asked : goal.returns-clause-asked
returns-clause-asked g c = c.front_of.ensures.asked

pub returns-clause-bytes : goal.returns-clause-bytes
returns-clause-bytes g c = c.front_of.ensures.bytes

pub returns-clause-name : goal.returns-clause-name
returns-clause-name g c = c.front_of.ensures.name

pub returns-clause-faults : goal.returns-clause-faults
returns-clause-faults g c = c.front_of.ensures.faults

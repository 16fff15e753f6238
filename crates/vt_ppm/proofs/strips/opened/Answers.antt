use Rattle.std.proofs.Common.{◌∙◌}
use Rattle.vt_outside.proofs.Refusing.{no_value, handed_on}
use Rattle.vt_ppm.specs.declared.error.PpmError.TheVariants.{NoMemory}
use Rattle.vt_ppm.specs.declared.header.Header.{Header}
use Rattle.vt_ppm.proofs.Refusing.{fault_handed_on, no_fault, answer_handed_on}
use Rattle.vt_ppm.proofs.strips.opened.Goals as goal

pub returns-in_err-header-clause-limits : goal.returns-in_err-header-clause-limits
returns-in_err-header-clause-limits g c = no_value c.from_residual.result _ _ c.from_residual.ensures.1

pub returns-in_err-header-clause-raster : goal.returns-in_err-header-clause-raster
returns-in_err-header-clause-raster g c = no_value c.from_residual.result _ _ c.from_residual.ensures.1

pub returns-in_err-header-clause-room : goal.returns-in_err-header-clause-room
returns-in_err-header-clause-room g c = no_value c.from_residual.result _ _ c.from_residual.ensures.1

pub returns-in_err-header-clause-none : goal.returns-in_err-header-clause-none
returns-in_err-header-clause-none g c = no_value c.from_residual.result _ _ c.from_residual.ensures.1

pub returns-in_err-header-clause-flaw : goal.returns-in_err-header-clause-flaw
returns-in_err-header-clause-flaw g c = handed_on c.from_residual.result _ _ c.from_residual.ensures.1 c.in_err-header.ensures.flaw

pub returns-in_err-header-clause-no_sample : goal.returns-in_err-header-clause-no_sample
returns-in_err-header-clause-no_sample g c = handed_on c.from_residual.result _ _ c.from_residual.ensures.1 c.in_err-header.ensures.no_sample

pub returns-in_err-header-clause-failed : goal.returns-in_err-header-clause-failed
returns-in_err-header-clause-failed g c = fault_handed_on {T = Header} c.from_residual.result _ _ c.from_residual.ensures.1 c.in_err-header.ensures.failed

pub returns-in_err-header-clause-read : goal.returns-in_err-header-clause-read
returns-in_err-header-clause-read g c = answer_handed_on Header c.from_residual.result _ _ _ _ c.from_residual.ensures.1 c.in_err-header.ensures.read

pub returns-in_err-buffer-clause-limits : goal.returns-in_err-buffer-clause-limits
returns-in_err-buffer-clause-limits g c = no_value c.from_residual-in_err-buffer.result _ _ c.from_residual-in_err-buffer.ensures.1

pub returns-in_err-buffer-clause-raster : goal.returns-in_err-buffer-clause-raster
returns-in_err-buffer-clause-raster g c = no_value c.from_residual-in_err-buffer.result _ _ c.from_residual-in_err-buffer.ensures.1

pub returns-in_err-buffer-clause-room : goal.returns-in_err-buffer-clause-room
returns-in_err-buffer-clause-room g c = no_value c.from_residual-in_err-buffer.result _ _ c.from_residual-in_err-buffer.ensures.1

pub returns-in_err-buffer-clause-none : goal.returns-in_err-buffer-clause-none
returns-in_err-buffer-clause-none g c = no_value c.from_residual-in_err-buffer.result _ _ c.from_residual-in_err-buffer.ensures.1

pub returns-in_err-buffer-clause-flaw : goal.returns-in_err-buffer-clause-flaw
returns-in_err-buffer-clause-flaw g c =
    handed_on c.from_residual-in_err-buffer.result NoMemory _ c.from_residual-in_err-buffer.ensures.1 (λ never. absurd (never tt))

pub returns-in_err-buffer-clause-no_sample : goal.returns-in_err-buffer-clause-no_sample
returns-in_err-buffer-clause-no_sample g c =
    handed_on c.from_residual-in_err-buffer.result NoMemory _ c.from_residual-in_err-buffer.ensures.1 (λ sample. sample)

pub returns-in_err-buffer-clause-failed : goal.returns-in_err-buffer-clause-failed
returns-in_err-buffer-clause-failed g c = no_fault c.from_residual-in_err-buffer.result _ c.from_residual-in_err-buffer.ensures.1

pub returns-in_err-buffer-clause-read : goal.returns-in_err-buffer-clause-read
returns-in_err-buffer-clause-read g c = answer_handed_on Header c.from_residual-in_err-buffer.result NoMemory _ _ _ c.from_residual-in_err-buffer.ensures.1 tt

pub returns-clause-limits : goal.returns-clause-limits
returns-clause-limits g c = c.in_ok-header.ensures.limits

pub returns-clause-raster : goal.returns-clause-raster
returns-clause-raster g c = c.in_ok-header.ensures.raster

pub returns-clause-room : goal.returns-clause-room
returns-clause-room g c = λ may. c.in_ok-buffer.ensures ∙ c.room_length.ensures.some may

pub returns-clause-none : goal.returns-clause-none
returns-clause-none g c = λ never. c.in_ok-buffer.ensures ∙ c.room_length.ensures.none never

pub returns-clause-flaw : goal.returns-clause-flaw
returns-clause-flaw g c = tt

pub returns-clause-no_sample : goal.returns-clause-no_sample
returns-clause-no_sample g c = tt

pub returns-clause-failed : goal.returns-clause-failed
returns-clause-failed g c = λ failed. let no : ⊥ = cc in absurd no

pub returns-clause-read : goal.returns-clause-read
returns-clause-read g c = c.in_ok-header.ensures.read

pub returns-in_err-header-clause-asked : goal.returns-in_err-header-clause-asked
returns-in_err-header-clause-asked g c = c.read_texture_header.ensures.asked

pub returns-in_err-header-clause-bytes : goal.returns-in_err-header-clause-bytes
returns-in_err-header-clause-bytes g c = c.read_texture_header.ensures.bytes

pub returns-in_err-header-clause-name : goal.returns-in_err-header-clause-name
returns-in_err-header-clause-name g c = c.read_texture_header.ensures.name

pub returns-in_err-header-clause-faults : goal.returns-in_err-header-clause-faults
returns-in_err-header-clause-faults g c = c.read_texture_header.ensures.faults

pub returns-in_err-buffer-clause-asked : goal.returns-in_err-buffer-clause-asked
returns-in_err-buffer-clause-asked g c = c.read_texture_header.ensures.asked

pub returns-in_err-buffer-clause-bytes : goal.returns-in_err-buffer-clause-bytes
returns-in_err-buffer-clause-bytes g c = c.read_texture_header.ensures.bytes

pub returns-in_err-buffer-clause-name : goal.returns-in_err-buffer-clause-name
returns-in_err-buffer-clause-name g c = c.read_texture_header.ensures.name

pub returns-in_err-buffer-clause-faults : goal.returns-in_err-buffer-clause-faults
returns-in_err-buffer-clause-faults g c = c.read_texture_header.ensures.faults

pub returns-clause-asked : goal.returns-clause-asked
returns-clause-asked g c = c.read_texture_header.ensures.asked

pub returns-clause-bytes : goal.returns-clause-bytes
returns-clause-bytes g c = c.read_texture_header.ensures.bytes

pub returns-clause-name : goal.returns-clause-name
returns-clause-name g c = c.read_texture_header.ensures.name

pub returns-clause-faults : goal.returns-clause-faults
returns-clause-faults g c = c.read_texture_header.ensures.faults

pub returns-in_err-header-clause-sides : goal.returns-in_err-header-clause-sides
returns-in_err-header-clause-sides g c = no_value c.from_residual.result _ _ c.from_residual.ensures.1

pub returns-in_err-buffer-clause-sides : goal.returns-in_err-buffer-clause-sides
returns-in_err-buffer-clause-sides g c = no_value c.from_residual-in_err-buffer.result _ _ c.from_residual-in_err-buffer.ensures.1

pub returns-clause-sides : goal.returns-clause-sides
returns-clause-sides g c = c.in_ok-header.ensures.sides

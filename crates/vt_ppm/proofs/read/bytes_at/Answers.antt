use Rattle.vt_outside.proofs.Refusing.{no_value, handed_on}
use Rattle.vt_ppm.specs.declared.error.PpmError.TheVariants.{Failed, NoMemory}
use Rattle.vt_ppm.proofs.Refusing.{no_fault, notes_none}
use Rattle.vt_ppm.proofs.read.bytes_at.Goals as goal

pub returns-in_err-bytes-clause-piece : goal.returns-in_err-bytes-clause-piece
returns-in_err-bytes-clause-piece g c = no_value c.from_residual.result _ _ c.from_residual.ensures.1

pub returns-in_err-bytes-clause-count : goal.returns-in_err-bytes-clause-count
returns-in_err-bytes-clause-count g c = no_value c.from_residual.result _ _ c.from_residual.ensures.1

pub returns-in_err-bytes-clause-refusals : goal.returns-in_err-bytes-clause-refusals
returns-in_err-bytes-clause-refusals g c = handed_on c.from_residual.result NoMemory _ c.from_residual.ensures.1 tt

pub returns-in_err-bytes-clause-failed : goal.returns-in_err-bytes-clause-failed
returns-in_err-bytes-clause-failed g c = no_fault c.from_residual.result _ c.from_residual.ensures.1

pub returns-in_err-bytes-clause-asked : goal.returns-in_err-bytes-clause-asked
returns-in_err-bytes-clause-asked g c = notes_none c.from_residual.result _ _ _ c.from_residual.ensures.1

pub returns-in_err-read_at-clause-piece : goal.returns-in_err-read_at-clause-piece
returns-in_err-read_at-clause-piece g c = no_value c.from_residual-in_err-read_at.result _ _ c.from_residual-in_err-read_at.ensures.1

pub returns-in_err-read_at-clause-count : goal.returns-in_err-read_at-clause-count
returns-in_err-read_at-clause-count g c = no_value c.from_residual-in_err-read_at.result _ _ c.from_residual-in_err-read_at.ensures.1

pub returns-in_err-read_at-clause-refusals : goal.returns-in_err-read_at-clause-refusals
returns-in_err-read_at-clause-refusals g c = handed_on c.from_residual-in_err-read_at.result Failed _ c.from_residual-in_err-read_at.ensures.1 tt

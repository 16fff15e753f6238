use Rattle.std.proofs.Common.{ℕ, Vec, Global, Err, refl, ap}
use Rattle.vt_ppm.specs.declared.header.Header.{Header}
use Rattle.vt_ppm.proofs.Refusing.{answered}
use Rattle.vt_ppm.proofs.strips.StripReader.open_within.Goals as goal

pub returns-in-Ok-clause-limits : goal.returns-in-Ok-clause-limits
returns-in-Ok-clause-limits g c = c.in-Ok.ensures.limits

pub returns-in-Ok-clause-raster : goal.returns-in-Ok-clause-raster
returns-in-Ok-clause-raster g c = c.in-Ok.ensures.raster

pub returns-in-Ok-clause-unchecked : goal.returns-in-Ok-clause-unchecked
returns-in-Ok-clause-unchecked g c = refl

pub returns-in-Ok-clause-flaw : goal.returns-in-Ok-clause-flaw
returns-in-Ok-clause-flaw g c = tt

pub returns-in-Ok-clause-no_sample : goal.returns-in-Ok-clause-no_sample
returns-in-Ok-clause-no_sample g c = tt

pub returns-in-Ok-clause-failed : goal.returns-in-Ok-clause-failed
returns-in-Ok-clause-failed g c = tt

pub returns-in-Ok-clause-asked : goal.returns-in-Ok-clause-asked
returns-in-Ok-clause-asked g c = c.opened.ensures.asked

pub returns-in-Ok-clause-read : goal.returns-in-Ok-clause-read
returns-in-Ok-clause-read g c = c.in-Ok.ensures.read

pub returns-in-Ok-clause-bytes : goal.returns-in-Ok-clause-bytes
returns-in-Ok-clause-bytes g c = c.opened.ensures.bytes

pub returns-in-Ok-clause-name : goal.returns-in-Ok-clause-name
returns-in-Ok-clause-name g c = c.opened.ensures.name

pub returns-in-Ok-clause-faults : goal.returns-in-Ok-clause-faults
returns-in-Ok-clause-faults g c = c.opened.ensures.faults

pub returns-in-Err-clause-limits : goal.returns-in-Err-clause-limits
returns-in-Err-clause-limits g c = tt

pub returns-in-Err-clause-raster : goal.returns-in-Err-clause-raster
returns-in-Err-clause-raster g c = tt

pub returns-in-Err-clause-unchecked : goal.returns-in-Err-clause-unchecked
returns-in-Err-clause-unchecked g c = tt

pub returns-in-Err-clause-flaw : goal.returns-in-Err-clause-flaw
returns-in-Err-clause-flaw g c = c.in-Err.ensures.flaw

pub returns-in-Err-clause-no_sample : goal.returns-in-Err-clause-no_sample
returns-in-Err-clause-no_sample g c = c.in-Err.ensures.no_sample

pub returns-in-Err-clause-failed : goal.returns-in-Err-clause-failed
returns-in-Err-clause-failed g c = λ failed. c.in-Err.ensures.failed (ap Err failed)

pub returns-in-Err-clause-asked : goal.returns-in-Err-clause-asked
returns-in-Err-clause-asked g c = c.opened.ensures.asked

pub returns-in-Err-clause-read : goal.returns-in-Err-clause-read
returns-in-Err-clause-read g c = answered (Header × Vec ℕ Global) Header c.in-Err.refusal _ _ _ c.in-Err.ensures.read

pub returns-in-Err-clause-bytes : goal.returns-in-Err-clause-bytes
returns-in-Err-clause-bytes g c = c.opened.ensures.bytes

pub returns-in-Err-clause-name : goal.returns-in-Err-clause-name
returns-in-Err-clause-name g c = c.opened.ensures.name

pub returns-in-Err-clause-faults : goal.returns-in-Err-clause-faults
returns-in-Err-clause-faults g c = c.opened.ensures.faults

pub returns-in-Ok-clause-sides : goal.returns-in-Ok-clause-sides
returns-in-Ok-clause-sides g c = c.in-Ok.ensures.sides

pub returns-in-Err-clause-sides : goal.returns-in-Err-clause-sides
returns-in-Err-clause-sides g c = tt

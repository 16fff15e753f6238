use Rattle.std.proofs.Common.{refl, inl, arith}
use Rattle.vt_outside.proofs.UnknownContents.{OnErr-all}
use Rattle.vt_walk.proofs.pictures.write_picture.Goals as goal

pub returns-in_err-name-clause-asked : goal.returns-in_err-name-clause-asked
returns-in_err-name-clause-asked g c = refl

pub returns-in_err-name-clause-faults : goal.returns-in_err-name-clause-faults
returns-in_err-name-clause-faults g c = omega arith

pub returns-in_err-name-clause-part : goal.returns-in_err-name-clause-part
returns-in_err-name-clause-part g c = OnErr-all c.from_residual.result _ (inl refl)

pub returns-clause-asked : goal.returns-clause-asked
returns-clause-asked g c = c.write_file.ensures.written.asked

pub returns-clause-faults : goal.returns-clause-faults
returns-clause-faults g c = c.write_file.ensures.written.faults

pub returns-clause-failed : goal.returns-clause-failed
returns-clause-failed g c = c.write_file.ensures.written.failed

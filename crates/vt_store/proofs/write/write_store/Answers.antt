use Rattle.vt_outside.proofs.UnknownContents.{OnErr-all}
use Rattle.vt_outside.proofs.Refusing.{none_made}
use Rattle.vt_store.proofs.LevelChain.{refused_by}
use Rattle.vt_tiles.proofs.Refusing.{by_outside}
use Rattle.vt_store.proofs.write.write_store.Goals as goal

pub returns-in_err-write_rows-clause-whole : goal.returns-in_err-write_rows-clause-whole
returns-in_err-write_rows-clause-whole g c = none_made c.from_residual.result _ _ c.from_residual.ensures.1

pub returns-in_err-write_rows-clause-part : goal.returns-in_err-write_rows-clause-part
returns-in_err-write_rows-clause-part g c = OnErr-all _ _ c.in_err-write_rows.ensures.part

pub returns-in_err-write_rows-clause-refusals : goal.returns-in_err-write_rows-clause-refusals
returns-in_err-write_rows-clause-refusals g c = by_outside c.from_residual.result _ c.from_residual.ensures.1

pub returns-in_err-write_rows-clause-failed : goal.returns-in_err-write_rows-clause-failed
returns-in_err-write_rows-clause-failed g c =
    λ failed. c.write_rows.ensures.failed
    (refused_by c.write_rows.result c.from_residual.result _ c.in_err-write_rows.was c.from_residual.ensures.1 failed)

pub returns-in_err-write_rows-clause-asked : goal.returns-in_err-write_rows-clause-asked
returns-in_err-write_rows-clause-asked g c = c.write_rows.ensures.asked

pub returns-in_err-write_rows-clause-faults : goal.returns-in_err-write_rows-clause-faults
returns-in_err-write_rows-clause-faults g c = c.write_rows.ensures.faults

pub returns-clause-whole : goal.returns-clause-whole
returns-clause-whole g c = c.in_ok-write_rows.ensures.whole

pub returns-clause-part : goal.returns-clause-part
returns-clause-part g c = tt

pub returns-clause-refusals : goal.returns-clause-refusals
returns-clause-refusals g c = tt

pub returns-clause-failed : goal.returns-clause-failed
returns-clause-failed g c = λ failed. let no : ⊥ = cc in absurd no

pub returns-clause-asked : goal.returns-clause-asked
returns-clause-asked g c = c.write_rows.ensures.asked

pub returns-clause-faults : goal.returns-clause-faults
returns-clause-faults g c = c.write_rows.ensures.faults

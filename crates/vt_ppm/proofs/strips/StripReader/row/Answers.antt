use Rattle.vt_ppm.proofs.strips.StripReader.row.Goals as goal

pub returns-clause-row : goal.returns-clause-row
returns-clause-row g c = c.rows.ensures.rows

pub returns-clause-values : goal.returns-clause-values
returns-clause-values g c = c.rows.ensures.values

pub returns-clause-failed : goal.returns-clause-failed
returns-clause-failed g c = c.rows.ensures.failed

pub returns-clause-asked : goal.returns-clause-asked
returns-clause-asked g c = c.rows.ensures.asked

pub returns-clause-spare : goal.returns-clause-spare
returns-clause-spare g c = c.rows.ensures.spare

pub returns-clause-bytes : goal.returns-clause-bytes
returns-clause-bytes g c = c.rows.ensures.bytes

pub returns-clause-name : goal.returns-clause-name
returns-clause-name g c = c.rows.ensures.name

pub returns-clause-faults : goal.returns-clause-faults
returns-clause-faults g c = c.rows.ensures.faults

pub returns-clause-header : goal.returns-clause-header
returns-clause-header g c = c.rows.ensures.header

pub returns-clause-kept : goal.returns-clause-kept
returns-clause-kept g c = c.rows.ensures.kept

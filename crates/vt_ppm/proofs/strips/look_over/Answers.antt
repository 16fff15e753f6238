use Rattle.std.proofs.Common.{refl, arith}
use Rattle.vt_ppm.proofs.CheckedPieces.{gains_no_rows}
use Rattle.vt_ppm.proofs.StripLaws.{none_over}
use Rattle.vt_ppm.proofs.strips.look_over.Goals as goal

pub returns-then-not-may_be_over-clause-few : goal.returns-then-not-may_be_over-clause-few
returns-then-not-may_be_over-clause-few g c =
    none_over (g.F.File.bytes c.args.file.now) c.args.header.now c.requires.raster c.if-not-may_be_over.ensures

pub returns-then-not-may_be_over-clause-flaw : goal.returns-then-not-may_be_over-clause-flaw
returns-then-not-may_be_over-clause-flaw g c = tt

pub returns-then-not-may_be_over-clause-refusals : goal.returns-then-not-may_be_over-clause-refusals
returns-then-not-may_be_over-clause-refusals g c = tt

pub returns-then-not-may_be_over-clause-failed : goal.returns-then-not-may_be_over-clause-failed
returns-then-not-may_be_over-clause-failed g c = λ failed. let no : ⊥ = cc in absurd no

pub returns-then-not-may_be_over-clause-asked : goal.returns-then-not-may_be_over-clause-asked
returns-then-not-may_be_over-clause-asked g c = λ may. absurd (c.if-not-may_be_over.ensures may)

pub returns-then-not-may_be_over-clause-rows : goal.returns-then-not-may_be_over-clause-rows
returns-then-not-may_be_over-clause-rows g c = gains_no_rows _ _

pub returns-then-not-may_be_over-clause-unread : goal.returns-then-not-may_be_over-clause-unread
returns-then-not-may_be_over-clause-unread g c = λ _. record { done = refl; places = refl; count = refl }

pub returns-then-not-may_be_over-clause-spare : goal.returns-then-not-may_be_over-clause-spare
returns-then-not-may_be_over-clause-spare g c = omega arith

pub returns-then-not-may_be_over-clause-bytes : goal.returns-then-not-may_be_over-clause-bytes
returns-then-not-may_be_over-clause-bytes g c = refl

pub returns-then-not-may_be_over-clause-name : goal.returns-then-not-may_be_over-clause-name
returns-then-not-may_be_over-clause-name g c = refl

pub returns-then-not-may_be_over-clause-faults : goal.returns-then-not-may_be_over-clause-faults
returns-then-not-may_be_over-clause-faults g c = omega arith

pub returns-clause-few : goal.returns-clause-few
returns-clause-few g c = c.look_over_pieces.ensures.few

pub returns-clause-flaw : goal.returns-clause-flaw
returns-clause-flaw g c = c.look_over_pieces.ensures.flaw

pub returns-clause-refusals : goal.returns-clause-refusals
returns-clause-refusals g c = c.look_over_pieces.ensures.refusals

pub returns-clause-failed : goal.returns-clause-failed
returns-clause-failed g c = c.look_over_pieces.ensures.failed

pub returns-clause-rows : goal.returns-clause-rows
returns-clause-rows g c = c.look_over_pieces.ensures.rows

pub returns-clause-spare : goal.returns-clause-spare
returns-clause-spare g c = c.look_over_pieces.ensures.spare

pub returns-clause-bytes : goal.returns-clause-bytes
returns-clause-bytes g c = c.look_over_pieces.ensures.bytes

pub returns-clause-name : goal.returns-clause-name
returns-clause-name g c = c.look_over_pieces.ensures.name

pub returns-clause-faults : goal.returns-clause-faults
returns-clause-faults g c = c.look_over_pieces.ensures.faults

pub returns-clause-asked : goal.returns-clause-asked
returns-clause-asked g c = λ _. c.look_over_pieces.ensures.asked

pub returns-clause-unread : goal.returns-clause-unread
returns-clause-unread g c = λ never. absurd (never c.if-not-may_be_over.ensures)

use Rattle.std.proofs.Common.{◌≡◌, ◌*◌, ◌∙◌, length, true, false, refl}
use Rattle.vt_outside.proofs.Refusing.{none_made, handed_on}
use Rattle.vt_ppm.specs.Strips.{row_length}
use Rattle.vt_ppm.proofs.StripLaws.{rows_inside, rows_full, more_known, over_known, rows_noted, over_before, failed_rows}
use Rattle.vt_ppm.specs.declared.error.PpmError.TheVariants.{Failed}
use Rattle.vt_ppm.proofs.strips.look_over_rows.Goals as goal

pub returns-in_err-read_at-clause-failed : goal.returns-in_err-read_at-clause-failed
returns-in_err-read_at-clause-failed g c = λ failed.
    let full : length c.read_at.new.buf ≡ c.args.count * row_length c.args.header.now = c.read_at.auto.buf ∙ c.requires.size in
    c.in_err-read_at.ensures.failed refl
    (rw c.row_start-start.ensures.value (rows_inside (g.F.File.bytes c.args.file.now) c.args.header.now c.args.y c.args.count
    (length c.read_at.new.buf) c.requires.raster c.requires.inside full))

pub first_over-requires : goal.first_over-requires
first_over-requires g c = record {
  full = rows_full c.args.header.now (length c.read_at.new.buf) c.args.count c.sample_count.result
      (c.read_at.auto.buf ∙ c.requires.size) c.sample_count.ensures;
}

pub returns-in-Some-clause-flaw : goal.returns-in-Some-clause-flaw
returns-in-Some-clause-flaw g c = λ _.
    over_known (g.F.File.bytes c.args.file.now) c.args.header.now c.read_at.new.buf c.args.y c.args.count c.row_start-start.result
    c.sample_count.result c.row_start-start.ensures.value c.in_ok-read_at.ensures.piece (c.read_at.auto.buf ∙ c.requires.size)
    c.sample_count.ensures c.in-Some.number c.depth_of.result _ c.requires.raster c.requires.inside c.depth_of.ensures.value c.in-Some.ensures refl

pub returns-in-None-clause-few : goal.returns-in-None-clause-few
returns-in-None-clause-few g c =
    more_known (g.F.File.bytes c.args.file.now) c.args.header.now c.read_at.new.buf c.args.y c.args.count c.row_start-start.result
    c.sample_count.result c.row_start-start.ensures.value c.in_ok-read_at.ensures.piece (c.read_at.auto.buf ∙ c.requires.size)
    c.sample_count.ensures c.in-None.ensures

pub returns-in_err-read_at-clause-few : goal.returns-in_err-read_at-clause-few
returns-in_err-read_at-clause-few g c = none_made c.from_residual.result _ _ c.from_residual.ensures.1

pub returns-in_err-read_at-clause-flaw : goal.returns-in_err-read_at-clause-flaw
returns-in_err-read_at-clause-flaw g c = handed_on c.from_residual.result Failed _ c.from_residual.ensures.1 (λ sample. absurd sample)

pub returns-in_err-read_at-clause-refusals : goal.returns-in_err-read_at-clause-refusals
returns-in_err-read_at-clause-refusals g c = handed_on c.from_residual.result Failed _ c.from_residual.ensures.1 tt

pub returns-in_err-read_at-clause-asked : goal.returns-in_err-read_at-clause-asked
returns-in_err-read_at-clause-asked g c =
    failed_rows c.args.header.now c.args.y c.args.count _ _ c.from_residual.result c.from_residual.ensures.1
    (rows_noted c.args.header.now c.args.y c.args.count _ _ true _ _ c.row_start-start.ensures.value (c.read_at.auto.buf ∙ c.requires.size)
    c.in_err-read_at.ensures.asked)

pub returns-in_err-read_at-clause-spare : goal.returns-in_err-read_at-clause-spare
returns-in_err-read_at-clause-spare g c = c.read_at.ensures.spare

pub returns-in_err-read_at-clause-bytes : goal.returns-in_err-read_at-clause-bytes
returns-in_err-read_at-clause-bytes g c = c.read_at.ensures.bytes

pub returns-in_err-read_at-clause-name : goal.returns-in_err-read_at-clause-name
returns-in_err-read_at-clause-name g c = c.read_at.ensures.name

pub returns-in_err-read_at-clause-faults : goal.returns-in_err-read_at-clause-faults
returns-in_err-read_at-clause-faults g c = c.read_at.ensures.faults

pub returns-in-Some-clause-few : goal.returns-in-Some-clause-few
returns-in-Some-clause-few g c = tt

pub returns-in-Some-clause-refusals : goal.returns-in-Some-clause-refusals
returns-in-Some-clause-refusals g c = tt

pub returns-in-Some-clause-failed : goal.returns-in-Some-clause-failed
returns-in-Some-clause-failed g c = λ failed. let no : ⊥ = cc in absurd no

pub returns-in-Some-clause-asked : goal.returns-in-Some-clause-asked
returns-in-Some-clause-asked g c = (
  over_before c.args.header.now c.args.y c.args.count _ _ c.in-Some.number _ c.row_start-start.ensures.value c.depth_of.ensures.value c.sample_count.ensures
      c.in-Some.ensures.within,
  rows_noted c.args.header.now c.args.y c.args.count _ _ false _ _ c.row_start-start.ensures.value (c.read_at.auto.buf ∙ c.requires.size)
      c.in_ok-read_at.ensures.asked,
)

pub returns-in-Some-clause-spare : goal.returns-in-Some-clause-spare
returns-in-Some-clause-spare g c = c.read_at.ensures.spare

pub returns-in-Some-clause-bytes : goal.returns-in-Some-clause-bytes
returns-in-Some-clause-bytes g c = c.read_at.ensures.bytes

pub returns-in-Some-clause-name : goal.returns-in-Some-clause-name
returns-in-Some-clause-name g c = c.read_at.ensures.name

pub returns-in-Some-clause-faults : goal.returns-in-Some-clause-faults
returns-in-Some-clause-faults g c = c.read_at.ensures.faults

pub returns-in-None-clause-flaw : goal.returns-in-None-clause-flaw
returns-in-None-clause-flaw g c = tt

pub returns-in-None-clause-refusals : goal.returns-in-None-clause-refusals
returns-in-None-clause-refusals g c = tt

pub returns-in-None-clause-failed : goal.returns-in-None-clause-failed
returns-in-None-clause-failed g c = λ failed. let no : ⊥ = cc in absurd no

pub returns-in-None-clause-asked : goal.returns-in-None-clause-asked
returns-in-None-clause-asked g c =
    rows_noted c.args.header.now c.args.y c.args.count _ _ false _ _ c.row_start-start.ensures.value (c.read_at.auto.buf ∙ c.requires.size)
    c.in_ok-read_at.ensures.asked

pub returns-in-None-clause-spare : goal.returns-in-None-clause-spare
returns-in-None-clause-spare g c = c.read_at.ensures.spare

pub returns-in-None-clause-bytes : goal.returns-in-None-clause-bytes
returns-in-None-clause-bytes g c = c.read_at.ensures.bytes

pub returns-in-None-clause-name : goal.returns-in-None-clause-name
returns-in-None-clause-name g c = c.read_at.ensures.name

pub returns-in-None-clause-faults : goal.returns-in-None-clause-faults
returns-in-None-clause-faults g c = c.read_at.ensures.faults

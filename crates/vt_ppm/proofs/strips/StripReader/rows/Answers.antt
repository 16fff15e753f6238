use Rattle.std.proofs.Common.{◌≡◌, ◌+◌, ◌*◌, ◌≤◌, ◌∙◌, length, true, false, is_err, IfSome, refl, ap, sym, subst}
use Rattle.vt_ppm.specs.Strips.{RowsAsked, row_length, sample_rows}
use Rattle.vt_ppm.proofs.StripLaws.{rows_inside, rows_full, rows_noted, scaled_known}
use Rattle.vt_ppm.proofs.Refusing.{known_refused}
use Rattle.std.proofs.lemmas.Bool.{false≢true}
use Rattle.vt_outside.proofs.Refusing.{none_made}
use Rattle.vt_ppm.proofs.strips.StripReader.rows.Goals as goal

pub returns-in_err-read_at-clause-failed : goal.returns-in_err-read_at-clause-failed
returns-in_err-read_at-clause-failed g c = λ failed.
    let file : c.self.inside.file ≡ c.args.self.now.file = ap (λ v. v.file) c.self.view_is in
    let header : c.self.inside.header ≡ c.args.self.now.header = ap (λ v. v.header) c.self.view_is in
    let inside : c.args.y + c.args.count ≤ c.self.inside.header.height = rw header c.requires.inside in
    let full : length c.read_at.new.buf ≡ c.args.count * row_length c.self.inside.header =
    c.read_at.auto.buf ∙ c.requires.size ∙ ap (λ h. c.args.count * row_length h) (sym header) in
    rw (← file) (c.in_err-read_at.ensures.failed refl
    (rw c.row_start.ensures.value (rows_inside (g.F.File.bytes c.self.inside.file) c.self.inside.header c.args.y c.args.count
    (length c.read_at.new.buf) c.self.invariant.raster inside full)))

pub scale-requires-clause-full : goal.scale-requires-clause-full
scale-requires-clause-full g c =
    let header : c.self.inside.header ≡ c.args.self.now.header = ap (λ v. v.header) c.self.view_is in
    rows_full c.self.inside.header (length c.read_at.new.buf) c.args.count c.sample_count-count.result
    (c.read_at.auto.buf ∙ c.requires.size ∙ ap (λ h. c.args.count * row_length h) (sym header)) c.sample_count-count.ensures

pub returns-clause-rows : goal.returns-clause-rows
returns-clause-rows g c =
    let header : c.self.inside.header ≡ c.args.self.now.header = ap (λ v. v.header) c.self.view_is in
    let checked = ap (λ v. v.checked) c.self.view_is ∙ c.requires.checked in
    let inside : c.args.y + c.args.count ≤ c.self.inside.header.height = rw header c.requires.inside in
    subst (λ v. IfSome (g.F.File.bytes v.file) (λ b. c.scale.new.raster ≡ sample_rows v.header b c.args.y c.args.count)) c.self.view_is
    (scaled_known (g.F.File.bytes c.self.inside.file) c.self.inside.header c.read_at.new.buf c.args.y c.args.count c.row_start.result
    c.sample_count-count.result c.row_start.ensures.value c.in_ok-read_at.ensures.piece
    (c.read_at.auto.buf ∙ c.requires.size ∙ ap (λ h. c.args.count * row_length h) (sym header)) c.sample_count-count.ensures
    c.scale.new.raster c.self.invariant.raster (c.self.invariant.samples checked) inside c.scale.auto.raster c.scale.ensures.scaled c.scale.ensures.bytes)

pub returns-in_err-read_at-clause-rows : goal.returns-in_err-read_at-clause-rows
returns-in_err-read_at-clause-rows g c = none_made c.from_residual.result _ _ c.from_residual.ensures.1

pub returns-in_err-read_at-clause-values : goal.returns-in_err-read_at-clause-values
returns-in_err-read_at-clause-values g c = none_made c.from_residual.result _ _ c.from_residual.ensures.1

pub returns-in_err-read_at-clause-asked : goal.returns-in_err-read_at-clause-asked
returns-in_err-read_at-clause-asked g c =
    subst (λ v. RowsAsked v.header c.args.y c.args.count (is_err c.from_residual.result) (g.F.File.asked v.file) (g.F.File.asked c.read_at.new.self))
    c.self.view_is
    (known_refused c.from_residual.result _ (λ b. RowsAsked c.self.inside.header c.args.y c.args.count b (g.F.File.asked c.self.inside.file)
    (g.F.File.asked c.read_at.new.self)) c.from_residual.ensures.1 (rows_noted c.self.inside.header c.args.y c.args.count _ _ true _ _ c.row_start.ensures.value
    (c.read_at.auto.buf ∙ c.requires.size ∙ ap (λ v. c.args.count * row_length v.header) (sym c.self.view_is))
    c.in_err-read_at.ensures.asked))

pub returns-clause-values : goal.returns-clause-values
returns-clause-values g c = c.scale.ensures.bytes

pub returns-clause-failed : goal.returns-clause-failed
returns-clause-failed g c = λ failed. absurd (false≢true failed)

pub returns-clause-asked : goal.returns-clause-asked
returns-clause-asked g c =
    subst (λ v. RowsAsked v.header c.args.y c.args.count false (g.F.File.asked v.file) (g.F.File.asked c.read_at.new.self)) c.self.view_is
    (rows_noted c.self.inside.header c.args.y c.args.count _ _ false _ _ c.row_start.ensures.value
    (c.read_at.auto.buf ∙ c.requires.size ∙ ap (λ v. c.args.count * row_length v.header) (sym c.self.view_is))
    c.in_ok-read_at.ensures.asked)

pub returns-in_err-read_at-clause-spare : goal.returns-in_err-read_at-clause-spare
returns-in_err-read_at-clause-spare g c = subst (λ v. g.F.File.spare v.file ≤ g.F.File.spare c.read_at.new.self + 1) c.self.view_is c.read_at.ensures.spare

pub returns-in_err-read_at-clause-bytes : goal.returns-in_err-read_at-clause-bytes
returns-in_err-read_at-clause-bytes g c = c.read_at.ensures.bytes ∙ ap (λ v. g.F.File.bytes v.file) c.self.view_is

pub returns-in_err-read_at-clause-name : goal.returns-in_err-read_at-clause-name
returns-in_err-read_at-clause-name g c = c.read_at.ensures.name ∙ ap (λ v. g.F.File.name v.file) c.self.view_is

pub returns-in_err-read_at-clause-faults : goal.returns-in_err-read_at-clause-faults
returns-in_err-read_at-clause-faults g c = subst (λ v. g.F.File.faults v.file ≤ g.F.File.faults c.read_at.new.self) c.self.view_is c.read_at.ensures.faults

pub returns-in_err-read_at-clause-header : goal.returns-in_err-read_at-clause-header
returns-in_err-read_at-clause-header g c = ap (λ v. v.header) c.self.view_is

pub returns-in_err-read_at-clause-kept : goal.returns-in_err-read_at-clause-kept
returns-in_err-read_at-clause-kept g c = ap (λ v. v.checked) c.self.view_is ∙ c.requires.checked

pub returns-clause-spare : goal.returns-clause-spare
returns-clause-spare g c = subst (λ v. g.F.File.spare v.file ≤ g.F.File.spare c.read_at.new.self + 1) c.self.view_is c.read_at.ensures.spare

pub returns-clause-bytes : goal.returns-clause-bytes
returns-clause-bytes g c = c.read_at.ensures.bytes ∙ ap (λ v. g.F.File.bytes v.file) c.self.view_is

pub returns-clause-name : goal.returns-clause-name
returns-clause-name g c = c.read_at.ensures.name ∙ ap (λ v. g.F.File.name v.file) c.self.view_is

pub returns-clause-faults : goal.returns-clause-faults
returns-clause-faults g c = subst (λ v. g.F.File.faults v.file ≤ g.F.File.faults c.read_at.new.self) c.self.view_is c.read_at.ensures.faults

pub returns-clause-header : goal.returns-clause-header
returns-clause-header g c = ap (λ v. v.header) c.self.view_is

pub returns-clause-kept : goal.returns-clause-kept
returns-clause-kept g c = ap (λ v. v.checked) c.self.view_is ∙ c.requires.checked

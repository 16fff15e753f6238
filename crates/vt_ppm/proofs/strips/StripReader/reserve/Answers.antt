use Rattle.std.proofs.Common.{◌≡◌, OnErr, ap, ◌∙◌, subst}
use Rattle.vt_ppm.proofs.strips.StripReader.reserve.Goals as goal

pub returns-clause-room : goal.returns-clause-room
returns-clause-room g c = c.reserve.ensures.room

pub returns-clause-refused : goal.returns-clause-refused
returns-clause-refused g c =
    subst (λ v. OnErr c.reserve.result (g.F.File.spare c.reserve.new.self ≡ g.F.File.spare v.file)) c.self.view_is c.reserve.ensures.refused

pub returns-clause-bytes : goal.returns-clause-bytes
returns-clause-bytes g c = c.reserve.ensures.bytes ∙ ap (λ v. g.F.File.bytes v.file) c.self.view_is

pub returns-clause-asked : goal.returns-clause-asked
returns-clause-asked g c = c.reserve.ensures.asked ∙ ap (λ v. g.F.File.asked v.file) c.self.view_is

pub returns-clause-name : goal.returns-clause-name
returns-clause-name g c = c.reserve.ensures.name ∙ ap (λ v. g.F.File.name v.file) c.self.view_is

pub returns-clause-faults : goal.returns-clause-faults
returns-clause-faults g c = c.reserve.ensures.faults ∙ ap (λ v. g.F.File.faults v.file) c.self.view_is

pub returns-clause-header : goal.returns-clause-header
returns-clause-header g c = ap (λ v. v.header) c.self.view_is

pub returns-clause-checked : goal.returns-clause-checked
returns-clause-checked g c = ap (λ v. v.checked) c.self.view_is

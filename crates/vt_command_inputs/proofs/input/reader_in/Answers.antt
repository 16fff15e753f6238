use Rattle.std.proofs.Common.{◌≤◌, Ok, sym, subst, ◌∙◌, arith}
use Rattle.vt_ppm.specs.declared.header.Header.{Header}
use Rattle.vt_ppm.specs.Flaws.{AreImageSides}
use Rattle.vt_command_inputs.specs.Inputs.{AsksStrips}
use Rattle.vt_command_inputs.specs.Reads.{Visits, IsCausedIn, SeesTexture, file_state}
use Rattle.vt_command_inputs.proofs.Seeing.{seen, caused_later, tried_visited}
use Rattle.vt_command_inputs.proofs.input.reader_in.Goals as goal

pub returns-in-Ok-look_over-clause-seen : goal.returns-in-Ok-look_over-clause-seen
returns-in-Ok-look_over-clause-seen g c =
    let e = c.in-Ok.ensures in
    let known = g.F.File.bytes c.args.file in
    let before = g.F.File.asked c.args.file in
    let after = g.F.File.asked c.look_over.new.reader.file in
    subst (λ (h : Header). SeesTexture known h (Ok tt) before after) (sym c.in-Ok-look_over.ensures.header)
    (seen known c.in-Ok.reader.header (Ok tt) before (g.F.File.asked c.in-Ok.reader.file) after e.read e.raster c.in-Ok-look_over.ensures.seen)

pub returns-in-Ok-look_over-clause-sides : goal.returns-in-Ok-look_over-clause-sides
returns-in-Ok-look_over-clause-sides g c =
    subst (λ (h : Header). AreImageSides c.args.most h.width h.height) (sym c.in-Ok-look_over.ensures.header) c.in-Ok.ensures.sides

pub returns-in-Err-look_over-clause-caused : goal.returns-in-Err-look_over-clause-caused
returns-in-Err-look_over-clause-caused g c = λ input up.
    let e = c.in-Ok.ensures in
    let old = file_state g.F.File c.args.file in
    let new = file_state g.F.File c.look_over.new.reader.file in
    let caused : IsCausedIn input (record { before = old; after = new }) c.in-Err-look_over.refusal =
    caused_later input old (file_state g.F.File c.in-Ok.reader.file) new c.in-Err-look_over.refusal
    e.bytes e.faults (c.in-Err-look_over.ensures.caused input c.args.most e.sides up) in
    rw c.into_file.ensures caused

pub returns-in-Err-look_over-clause-tried : goal.returns-in-Err-look_over-clause-tried
returns-in-Err-look_over-clause-tried g c = λ tile.
    let e = c.in-Ok.ensures in
    let l = c.in-Err-look_over.ensures in
    let old = file_state g.F.File c.args.file in
    let mid = file_state g.F.File c.in-Ok.reader.file in
    let new = file_state g.F.File c.look_over.new.reader.file in
    let visits : Visits (AsksStrips tile) (record { before = old; after = new }) =
    tried_visited tile old new mid.asked c.in-Ok.reader.header e.asked e.read e.raster l.tried (l.bytes ∙ e.bytes) (l.name ∙ e.name)
    (let first : old.faults ≤ mid.faults = e.faults in let more : mid.faults ≤ new.faults = l.faults in omega (arith, first, more)) in
    rw c.into_file.ensures visits

use Rattle.std.proofs.Common.{ℕ, List, Option, Err, ap, subst}
use Rattle.std.specs.Prelude.{IfSome}
use Rattle.vt_outside.specs.Counts.{Rose}
use Rattle.vt_ppm.specs.Flaws.{IsHeaderFlaw}
use Rattle.vt_command_inputs.specs.Reads.{visit}
use Rattle.vt_command_inputs.specs.Refusals.{IsRefusalOf}
use Rattle.vt_command_inputs.proofs.Textures.{texture_caused, check_flaw}
use Rattle.vt_command_inputs.proofs.input.look_over.Goals as goal

pub returns-in-Err-clause-caused : goal.returns-in-Err-clause-caused
returns-in-Err-clause-caused g c = λ input most sides up.
    let e = c.in-Err.error in
    let known = g.F.File.bytes c.args.reader.now.file in
    texture_caused input most c.args.name.now (visit g.F.File c.args.reader.now.file c.check.new.self.file) e c.refusal_of.result up
    (subst (λ why. IsRefusalOf c.args.name.now why c.refusal_of.result) c.flaw_of_texture.ensures c.refusal_of.ensures)
    (check_flaw most known c.args.reader.now.header e c.header.ensures.raster sides c.in-Err.ensures.refusals
    (λ sample. subst (λ (t : Option (List ℕ)). IfSome t (λ b. IsHeaderFlaw b e)) c.reserve.ensures.bytes (c.in-Err.ensures.flaw sample)))
    (λ is. subst (λ (n : ℕ). Rose n (g.F.File.faults c.check.new.self.file)) c.reserve.ensures.faults (c.in-Err.ensures.failed (ap Err is)))

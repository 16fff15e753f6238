use Rattle.std.proofs.Common.{true, false, length, ap, ◌∙◌, arith}
use Rattle.std.specs.Option.{option_map}
use Rattle.vt_outside.specs.Files.{noted}
use Rattle.vt_command_inputs.specs.Reads.{file_state}
use Rattle.vt_command_inputs.proofs.Reading.{asked_whole}
use Rattle.vt_command_inputs.proofs.input.read_whole.Goals as goal

pub returns-in_err-read_at-clause-visits : goal.returns-in_err-read_at-clause-visits
returns-in_err-read_at-clause-visits g c =
    asked_whole (file_state g.F.File c.args.file.now) (file_state g.F.File c.read_at.new.self) c.in_ok-length.length (length c.read_at.new.buf) true
    c.in_ok-length.ensures.known
    (c.read_at.auto.buf ∙ c.deref_mut.ensures.len ∙ c.in_ok-text.ensures.len)
    (c.in_err-read_at.ensures.asked ∙ ap (option_map (noted 0 (length c.read_at.new.buf) true)) (c.in_ok-reserve.ensures.asked ∙ c.in_ok-length.ensures.asked))
    (c.in_err-read_at.ensures.bytes ∙ c.in_ok-reserve.ensures.bytes ∙ c.in_ok-length.ensures.bytes)
    (c.in_err-read_at.ensures.name ∙ c.in_ok-reserve.ensures.name ∙ c.in_ok-length.ensures.name)
    (omega (arith, c.in_ok-length.ensures.faults, c.in_ok-reserve.ensures.faults, c.in_err-read_at.ensures.faults))

pub returns-clause-visits : goal.returns-clause-visits
returns-clause-visits g c =
    asked_whole (file_state g.F.File c.args.file.now) (file_state g.F.File c.read_at.new.self) c.in_ok-length.length (length c.read_at.new.buf) false
    c.in_ok-length.ensures.known
    (c.read_at.auto.buf ∙ c.deref_mut.ensures.len ∙ c.in_ok-text.ensures.len)
    (c.in_ok-read_at.ensures.asked ∙ ap (option_map (noted 0 (length c.read_at.new.buf) false)) (c.in_ok-reserve.ensures.asked ∙ c.in_ok-length.ensures.asked))
    (c.in_ok-read_at.ensures.bytes ∙ c.in_ok-reserve.ensures.bytes ∙ c.in_ok-length.ensures.bytes)
    (c.in_ok-read_at.ensures.name ∙ c.in_ok-reserve.ensures.name ∙ c.in_ok-length.ensures.name)
    (omega (arith, c.in_ok-length.ensures.faults, c.in_ok-reserve.ensures.faults, c.in_ok-read_at.ensures.faults))

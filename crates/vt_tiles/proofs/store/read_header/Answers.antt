use Rattle.std.proofs.Common.{◌≡◌, Some, ◌∙◌, refl, rules, arith}
use Rattle.std.specs.Prelude.{IfSome}
use Rattle.vt_outside.proofs.Refusing.{no_value}
use Rattle.vt_tiles.specs.Format.{store_flaw}
use Rattle.vt_tiles.proofs.Refusing.{by_file, by_memory, no_fault, not_outside}
use Rattle.vt_tiles.proofs.Opening.{asks_failed, asks_nothing, opened_store, refused_store, no_failure}
use Rattle.vt_tiles.proofs.store.read_header.Goals as goal

pub returns-clause-store : goal.returns-clause-store
returns-clause-store g c = opened_store c.parse_header.result (g.F.File.bytes c.args.file.now)
    (g.F.File.bytes c.reserve.new.self) c.read_at.new.buf c.in_ok-have.have (c.reserve.ensures.bytes ∙ c.length.ensures.bytes)
    c.in_ok-have.ensures.known c.in_ok-read_at.ensures.piece (search rules) c.parse_header.ensures.shape c.parse_header.ensures.depth
    c.parse_header.ensures.no_flaw

pub returns-clause-flaw : goal.returns-clause-flaw
returns-clause-flaw g c = refused_store c.parse_header.result (g.F.File.bytes c.args.file.now)
    (g.F.File.bytes c.reserve.new.self) c.read_at.new.buf c.in_ok-have.have (c.reserve.ensures.bytes ∙ c.length.ensures.bytes)
    c.in_ok-have.ensures.known c.in_ok-read_at.ensures.piece (search rules) c.parse_header.ensures.flaw

pub returns-clause-failed : goal.returns-clause-failed
returns-clause-failed g c = no_failure c.parse_header.result _ _ c.parse_header.ensures.no_failure

pub returns-in_err-have-clause-store : goal.returns-in_err-have-clause-store
returns-in_err-have-clause-store g c = no_value c.from_residual.result _ _ c.from_residual.ensures.1

pub returns-in_err-have-clause-lawful : goal.returns-in_err-have-clause-lawful
returns-in_err-have-clause-lawful g c = no_value c.from_residual.result _ _ c.from_residual.ensures.1

pub returns-in_err-have-clause-flaw : goal.returns-in_err-have-clause-flaw
returns-in_err-have-clause-flaw g c =
    not_outside c.from_residual.result (λ e. IfSome (g.F.File.bytes c.args.file.now) (λ b. store_flaw b ≡ Some e))
    (by_file c.from_residual.result c.from_residual.ensures.1)

pub returns-in_err-reserve-clause-store : goal.returns-in_err-reserve-clause-store
returns-in_err-reserve-clause-store g c =
    no_value c.from_residual-in_err-reserve.result _ _ c.from_residual-in_err-reserve.ensures.1

pub returns-in_err-reserve-clause-lawful : goal.returns-in_err-reserve-clause-lawful
returns-in_err-reserve-clause-lawful g c =
    no_value c.from_residual-in_err-reserve.result _ _ c.from_residual-in_err-reserve.ensures.1

pub returns-in_err-reserve-clause-flaw : goal.returns-in_err-reserve-clause-flaw
returns-in_err-reserve-clause-flaw g c =
    not_outside c.from_residual-in_err-reserve.result (λ e. IfSome (g.F.File.bytes c.args.file.now) (λ b. store_flaw b ≡ Some e))
    (by_memory c.from_residual-in_err-reserve.result c.from_residual-in_err-reserve.ensures.1)

pub returns-in_err-read_at-clause-store : goal.returns-in_err-read_at-clause-store
returns-in_err-read_at-clause-store g c =
    no_value c.from_residual-in_err-read_at.result _ _ c.from_residual-in_err-read_at.ensures.1

pub returns-in_err-read_at-clause-lawful : goal.returns-in_err-read_at-clause-lawful
returns-in_err-read_at-clause-lawful g c =
    no_value c.from_residual-in_err-read_at.result _ _ c.from_residual-in_err-read_at.ensures.1

pub returns-in_err-read_at-clause-flaw : goal.returns-in_err-read_at-clause-flaw
returns-in_err-read_at-clause-flaw g c =
    not_outside c.from_residual-in_err-read_at.result (λ e. IfSome (g.F.File.bytes c.args.file.now) (λ b. store_flaw b ≡ Some e))
    (by_file c.from_residual-in_err-read_at.result c.from_residual-in_err-read_at.ensures.1)

pub returns-in_err-reserve-clause-failed : goal.returns-in_err-reserve-clause-failed
returns-in_err-reserve-clause-failed g c =
    λ failed. no_fault c.from_residual-in_err-reserve.result _ c.from_residual-in_err-reserve.ensures.1 failed

pub returns-in_err-have-clause-bytes : goal.returns-in_err-have-clause-bytes
returns-in_err-have-clause-bytes g c = c.length.ensures.bytes

pub returns-in_err-reserve-clause-bytes : goal.returns-in_err-reserve-clause-bytes
returns-in_err-reserve-clause-bytes g c = c.reserve.ensures.bytes ∙ c.length.ensures.bytes

pub returns-in_err-read_at-clause-bytes : goal.returns-in_err-read_at-clause-bytes
returns-in_err-read_at-clause-bytes g c = c.read_at.ensures.bytes ∙ c.reserve.ensures.bytes ∙ c.length.ensures.bytes

pub returns-clause-bytes : goal.returns-clause-bytes
returns-clause-bytes g c = c.read_at.ensures.bytes ∙ c.reserve.ensures.bytes ∙ c.length.ensures.bytes

pub returns-in_err-have-clause-name : goal.returns-in_err-have-clause-name
returns-in_err-have-clause-name g c = c.length.ensures.name

pub returns-in_err-reserve-clause-name : goal.returns-in_err-reserve-clause-name
returns-in_err-reserve-clause-name g c = c.reserve.ensures.name ∙ c.length.ensures.name

pub returns-in_err-read_at-clause-name : goal.returns-in_err-read_at-clause-name
returns-in_err-read_at-clause-name g c = c.read_at.ensures.name ∙ c.reserve.ensures.name ∙ c.length.ensures.name

pub returns-clause-name : goal.returns-clause-name
returns-clause-name g c = c.read_at.ensures.name ∙ c.reserve.ensures.name ∙ c.length.ensures.name

pub returns-in_err-have-clause-faults : goal.returns-in_err-have-clause-faults
returns-in_err-have-clause-faults g c = c.length.ensures.faults

pub returns-in_err-reserve-clause-faults : goal.returns-in_err-reserve-clause-faults
returns-in_err-reserve-clause-faults g c = omega (arith, c.length.ensures.faults, c.reserve.ensures.faults)

pub returns-in_err-read_at-clause-faults : goal.returns-in_err-read_at-clause-faults
returns-in_err-read_at-clause-faults g c =
    omega (arith, c.length.ensures.faults, c.reserve.ensures.faults, c.read_at.ensures.faults)

pub returns-clause-faults : goal.returns-clause-faults
returns-clause-faults g c =
    omega (arith, c.length.ensures.faults, c.reserve.ensures.faults, c.read_at.ensures.faults)

pub returns-clause-lawful : goal.returns-clause-lawful
returns-clause-lawful g c = c.parse_header.ensures.lawful

pub returns-in_err-have-clause-failed : goal.returns-in_err-have-clause-failed
returns-in_err-have-clause-failed g c = λ failed. c.in_err-have.ensures.failed refl

pub returns-in_err-have-clause-asked : goal.returns-in_err-have-clause-asked
returns-in_err-have-clause-asked g c =
    asks_failed (g.F.File.bytes c.args.file.now) c.from_residual.result _ _ c.from_residual.ensures.1 c.length.ensures.asked

pub returns-in_err-reserve-clause-asked : goal.returns-in_err-reserve-clause-asked
returns-in_err-reserve-clause-asked g c =
    asks_nothing (g.F.File.bytes c.args.file.now) c.from_residual-in_err-reserve.result _ _ c.from_residual-in_err-reserve.ensures.1
    (c.reserve.ensures.asked ∙ c.length.ensures.asked)

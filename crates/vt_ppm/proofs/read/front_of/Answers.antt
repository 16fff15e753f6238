use Rattle.std.proofs.Common.{ℕ, ◌≤◌, Vec, Global, refl, ◌∙◌, arith}
use Rattle.vt_outside.proofs.Refusing.{none_made, no_value, handed_on, rose_later}
use Rattle.vt_ppm.specs.declared.error.PpmError.TheVariants.{Failed, NoMemory}
use Rattle.vt_ppm.proofs.AskedPlaces.{asks_front, asks_nothing, front_inside, reads_front}
use Rattle.vt_ppm.proofs.Refusing.{fault_handed_on, no_fault}
use Rattle.vt_ppm.proofs.KnownFiles.{front_known}
use Rattle.vt_ppm.proofs.read.front_of.Goals as goal

pub returns-in_err-bytes-clause-asked : goal.returns-in_err-bytes-clause-asked
returns-in_err-bytes-clause-asked g c =
    asks_front _ _ _ _ c.in_ok-length.length _ (c.reserve.ensures.asked ∙ c.length.ensures.asked) c.in_ok-length.ensures.known c.min.ensures
    c.bytes_at.result c.bytes_at.ensures.asked

pub returns-clause-front : goal.returns-clause-front
returns-clause-front g c =
    front_known _ _ _ c.in_ok-length.length (c.reserve.ensures.bytes ∙ c.length.ensures.bytes) c.in_ok-length.ensures.known c.in_ok-bytes.ensures.piece
    (c.in_ok-bytes.ensures.count ∙ c.min.ensures)

pub returns-clause-asked : goal.returns-clause-asked
returns-clause-asked g c =
    asks_front _ _ _ _ c.in_ok-length.length _ (c.reserve.ensures.asked ∙ c.length.ensures.asked) c.in_ok-length.ensures.known c.min.ensures
    c.bytes_at.result c.bytes_at.ensures.asked

pub returns-clause-read : goal.returns-clause-read
returns-clause-read g c =
    reads_front _ _ _ _ c.in_ok-length.length _ (c.reserve.ensures.asked ∙ c.length.ensures.asked) c.in_ok-length.ensures.known c.min.ensures
    c.in_ok-bytes.ensures.asked

pub returns-in_err-length-clause-front : goal.returns-in_err-length-clause-front
returns-in_err-length-clause-front g c = no_value c.from_residual.result _ _ c.from_residual.ensures.1

pub returns-in_err-length-clause-few : goal.returns-in_err-length-clause-few
returns-in_err-length-clause-few g c = no_value c.from_residual.result _ _ c.from_residual.ensures.1

pub returns-in_err-length-clause-values : goal.returns-in_err-length-clause-values
returns-in_err-length-clause-values g c = none_made c.from_residual.result _ _ c.from_residual.ensures.1

pub returns-in_err-length-clause-read : goal.returns-in_err-length-clause-read
returns-in_err-length-clause-read g c = none_made c.from_residual.result _ _ c.from_residual.ensures.1

pub returns-in_err-length-clause-spare : goal.returns-in_err-length-clause-spare
returns-in_err-length-clause-spare g c = none_made c.from_residual.result _ _ c.from_residual.ensures.1

pub returns-in_err-length-clause-refusals : goal.returns-in_err-length-clause-refusals
returns-in_err-length-clause-refusals g c = handed_on c.from_residual.result Failed _ c.from_residual.ensures.1 tt

pub returns-in_err-length-clause-failed : goal.returns-in_err-length-clause-failed
returns-in_err-length-clause-failed g c = λ _. c.in_err-length.ensures.failed refl

pub returns-in_err-length-clause-asked : goal.returns-in_err-length-clause-asked
returns-in_err-length-clause-asked g c = asks_nothing _ _ _ c.length.ensures.asked

pub returns-in_err-length-clause-bytes : goal.returns-in_err-length-clause-bytes
returns-in_err-length-clause-bytes g c = c.length.ensures.bytes

pub returns-in_err-length-clause-name : goal.returns-in_err-length-clause-name
returns-in_err-length-clause-name g c = c.length.ensures.name

pub returns-in_err-length-clause-faults : goal.returns-in_err-length-clause-faults
returns-in_err-length-clause-faults g c = c.length.ensures.faults

pub returns-in_err-reserve-clause-front : goal.returns-in_err-reserve-clause-front
returns-in_err-reserve-clause-front g c = no_value c.from_residual-in_err-reserve.result _ _ c.from_residual-in_err-reserve.ensures.1

pub returns-in_err-reserve-clause-few : goal.returns-in_err-reserve-clause-few
returns-in_err-reserve-clause-few g c = no_value c.from_residual-in_err-reserve.result _ _ c.from_residual-in_err-reserve.ensures.1

pub returns-in_err-reserve-clause-values : goal.returns-in_err-reserve-clause-values
returns-in_err-reserve-clause-values g c = none_made c.from_residual-in_err-reserve.result _ _ c.from_residual-in_err-reserve.ensures.1

pub returns-in_err-reserve-clause-read : goal.returns-in_err-reserve-clause-read
returns-in_err-reserve-clause-read g c = none_made c.from_residual-in_err-reserve.result _ _ c.from_residual-in_err-reserve.ensures.1

pub returns-in_err-reserve-clause-spare : goal.returns-in_err-reserve-clause-spare
returns-in_err-reserve-clause-spare g c = none_made c.from_residual-in_err-reserve.result _ _ c.from_residual-in_err-reserve.ensures.1

pub returns-in_err-reserve-clause-refusals : goal.returns-in_err-reserve-clause-refusals
returns-in_err-reserve-clause-refusals g c = handed_on c.from_residual-in_err-reserve.result NoMemory _ c.from_residual-in_err-reserve.ensures.1 tt

pub returns-in_err-reserve-clause-failed : goal.returns-in_err-reserve-clause-failed
returns-in_err-reserve-clause-failed g c = no_fault c.from_residual-in_err-reserve.result _ c.from_residual-in_err-reserve.ensures.1

pub returns-in_err-reserve-clause-asked : goal.returns-in_err-reserve-clause-asked
returns-in_err-reserve-clause-asked g c = asks_nothing _ _ _ (c.reserve.ensures.asked ∙ c.length.ensures.asked)

pub returns-in_err-reserve-clause-bytes : goal.returns-in_err-reserve-clause-bytes
returns-in_err-reserve-clause-bytes g c = c.reserve.ensures.bytes ∙ c.length.ensures.bytes

pub returns-in_err-reserve-clause-name : goal.returns-in_err-reserve-clause-name
returns-in_err-reserve-clause-name g c = c.reserve.ensures.name ∙ c.length.ensures.name

pub returns-in_err-reserve-clause-faults : goal.returns-in_err-reserve-clause-faults
returns-in_err-reserve-clause-faults g c = omega (arith, c.reserve.ensures.faults, c.length.ensures.faults)

pub returns-in_err-bytes-clause-front : goal.returns-in_err-bytes-clause-front
returns-in_err-bytes-clause-front g c = no_value c.from_residual-in_err-bytes.result _ _ c.from_residual-in_err-bytes.ensures.1

pub returns-in_err-bytes-clause-few : goal.returns-in_err-bytes-clause-few
returns-in_err-bytes-clause-few g c = no_value c.from_residual-in_err-bytes.result _ _ c.from_residual-in_err-bytes.ensures.1

pub returns-in_err-bytes-clause-values : goal.returns-in_err-bytes-clause-values
returns-in_err-bytes-clause-values g c = none_made c.from_residual-in_err-bytes.result _ _ c.from_residual-in_err-bytes.ensures.1

pub returns-in_err-bytes-clause-read : goal.returns-in_err-bytes-clause-read
returns-in_err-bytes-clause-read g c = none_made c.from_residual-in_err-bytes.result _ _ c.from_residual-in_err-bytes.ensures.1

pub returns-in_err-bytes-clause-spare : goal.returns-in_err-bytes-clause-spare
returns-in_err-bytes-clause-spare g c = none_made c.from_residual-in_err-bytes.result _ _ c.from_residual-in_err-bytes.ensures.1

pub returns-in_err-bytes-clause-refusals : goal.returns-in_err-bytes-clause-refusals
returns-in_err-bytes-clause-refusals g c =
    handed_on c.from_residual-in_err-bytes.result _ _ c.from_residual-in_err-bytes.ensures.1 c.in_err-bytes.ensures.refusals

pub returns-in_err-bytes-clause-failed : goal.returns-in_err-bytes-clause-failed
returns-in_err-bytes-clause-failed g c =
    let inside = front_inside _ _ c.in_ok-length.length _ (c.reserve.ensures.bytes ∙ c.length.ensures.bytes) c.in_ok-length.ensures.known c.min.ensures in
    let first : g.F.File.faults c.args.file.now ≤ g.F.File.faults c.reserve.new.self = omega (arith, c.reserve.ensures.faults, c.length.ensures.faults) in
    fault_handed_on {T = Vec ℕ Global} c.from_residual-in_err-bytes.result _ _ c.from_residual-in_err-bytes.ensures.1
    (λ failed. rose_later _ (g.F.File.faults c.reserve.new.self) _ first (c.in_err-bytes.ensures.failed failed inside))

pub returns-in_err-bytes-clause-bytes : goal.returns-in_err-bytes-clause-bytes
returns-in_err-bytes-clause-bytes g c = c.bytes_at.ensures.bytes ∙ c.reserve.ensures.bytes ∙ c.length.ensures.bytes

pub returns-in_err-bytes-clause-name : goal.returns-in_err-bytes-clause-name
returns-in_err-bytes-clause-name g c = c.bytes_at.ensures.name ∙ c.reserve.ensures.name ∙ c.length.ensures.name

pub returns-in_err-bytes-clause-faults : goal.returns-in_err-bytes-clause-faults
returns-in_err-bytes-clause-faults g c = omega (arith, c.bytes_at.ensures.faults, c.reserve.ensures.faults, c.length.ensures.faults)

pub returns-clause-bytes : goal.returns-clause-bytes
returns-clause-bytes g c = c.bytes_at.ensures.bytes ∙ c.reserve.ensures.bytes ∙ c.length.ensures.bytes

pub returns-clause-name : goal.returns-clause-name
returns-clause-name g c = c.bytes_at.ensures.name ∙ c.reserve.ensures.name ∙ c.length.ensures.name

pub returns-clause-faults : goal.returns-clause-faults
returns-clause-faults g c = omega (arith, c.bytes_at.ensures.faults, c.reserve.ensures.faults, c.length.ensures.faults)

pub returns-clause-values : goal.returns-clause-values
returns-clause-values g c = c.in_ok-length.ensures.values

pub returns-clause-few : goal.returns-clause-few
returns-clause-few g c = c.in_ok-bytes.ensures.count ∙ c.min.ensures

pub returns-clause-refusals : goal.returns-clause-refusals
returns-clause-refusals g c = tt

pub returns-clause-failed : goal.returns-clause-failed
returns-clause-failed g c = λ failed. let no : ⊥ = cc in absurd no

pub returns-clause-spare : goal.returns-clause-spare
returns-clause-spare g c = omega (arith, c.bytes_at.ensures.spare, c.in_ok-reserve.ensures.room)

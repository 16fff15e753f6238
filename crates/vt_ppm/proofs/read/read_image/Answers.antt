use Rattle.std.proofs.Common.{ℕ, Vec, Global, refl, ◌∙◌, arith}
use Rattle.std.proofs.lemmas.Result.{err_from_is_err_and}
use Rattle.vt_outside.proofs.Refusing.{no_value, handed_on, rose_later}
use Rattle.vt_definitions.specs.Limits.{most_read_side}
use Rattle.vt_ppm.specs.declared.read.Front.{Front}
use Rattle.vt_ppm.proofs.AskedPlaces.{asks_header_only, asks_raster, raster_inside, reads_raster}
use Rattle.vt_ppm.proofs.Refusing.{fault_handed_on, flaw_no_fault, outside_answer, header_answer}
use Rattle.vt_ppm.proofs.KnownFiles.{flaw_known, truncated_known, over_known, image_known}
use Rattle.vt_ppm.proofs.read.read_image.Goals as goal

pub returns-in_err-header-clause-flaw : goal.returns-in_err-header-clause-flaw
returns-in_err-header-clause-flaw g c =
    let p = err_from_is_err_and c.from_residual-in_err-header.result c.from_residual-in_err-header.ensures.1 in
    rw (p.1, p.2) (λ _. flaw_known most_read_side _ c.in_ok-front.front.length c.deref.result.now (rw c.deref.ensures.value c.in_ok-front.ensures.front)
    c.in_err-header.field-0.0 c.in_err-header.ensures.no_raster c.in_err-header.ensures.flaw)

pub returns-then-have-want-clause-flaw : goal.returns-then-have-want-clause-flaw
returns-then-have-want-clause-flaw g c =
    let h = c.in_ok-header.header in
    λ _. truncated_known most_read_side _ c.in_ok-front.front.length h.raster h.width h.height h.maximum c.deref.result.now
    (rw c.deref.ensures.value c.in_ok-front.ensures.front) c.in_ok-header.ensures.header
    _ _ (rw c.deref.ensures.value c.in_ok-front.ensures.few) c.raster_length-want.ensures refl c.if-have-want.true

pub returns-in_err-raster-clause-asked : goal.returns-in_err-raster-clause-asked
returns-in_err-raster-clause-asked g c =
    let h = c.in_ok-header.header in
    asks_raster _ _ _ _ c.in_ok-front.front.length h.raster h.width h.height h.maximum _ c.deref.result.now c.in_ok-front.ensures.read
    (rw c.deref.ensures.value c.in_ok-front.ensures.front) (rw c.deref.ensures.value c.in_ok-front.ensures.few) c.in_ok-header.ensures.header
    c.raster_length-want.ensures c.if-have-want.false c.bytes_at.result c.bytes_at.ensures.asked

pub returns-in-Some-clause-asked : goal.returns-in-Some-clause-asked
returns-in-Some-clause-asked g c =
    let h = c.in_ok-header.header in
    asks_raster _ _ _ _ c.in_ok-front.front.length h.raster h.width h.height h.maximum _ c.deref.result.now c.in_ok-front.ensures.read
    (rw c.deref.ensures.value c.in_ok-front.ensures.front) (rw c.deref.ensures.value c.in_ok-front.ensures.few) c.in_ok-header.ensures.header
    c.raster_length-want.ensures c.if-have-want.false c.bytes_at.result c.bytes_at.ensures.asked

pub returns-clause-asked : goal.returns-clause-asked
returns-clause-asked g c =
    let h = c.in_ok-header.header in
    asks_raster _ _ _ _ c.in_ok-front.front.length h.raster h.width h.height h.maximum _ c.deref.result.now c.in_ok-front.ensures.read
    (rw c.deref.ensures.value c.in_ok-front.ensures.front) (rw c.deref.ensures.value c.in_ok-front.ensures.few) c.in_ok-header.ensures.header
    c.raster_length-want.ensures c.if-have-want.false c.bytes_at.result c.bytes_at.ensures.asked

pub returns-in-Some-clause-read : goal.returns-in-Some-clause-read
returns-in-Some-clause-read g c =
    let h = c.in_ok-header.header in
    reads_raster _ _ _ _ c.in_ok-front.front.length h.raster h.width h.height h.maximum _ c.deref.result.now c.in_ok-front.ensures.read
    (rw c.deref.ensures.value c.in_ok-front.ensures.front) (rw c.deref.ensures.value c.in_ok-front.ensures.few) c.in_ok-header.ensures.header
    c.raster_length-want.ensures c.if-have-want.false c.in_ok-raster.ensures.asked

pub returns-clause-read : goal.returns-clause-read
returns-clause-read g c =
    let h = c.in_ok-header.header in
    reads_raster _ _ _ _ c.in_ok-front.front.length h.raster h.width h.height h.maximum _ c.deref.result.now c.in_ok-front.ensures.read
    (rw c.deref.ensures.value c.in_ok-front.ensures.front) (rw c.deref.ensures.value c.in_ok-front.ensures.few) c.in_ok-header.ensures.header
    c.raster_length-want.ensures c.if-have-want.false c.in_ok-raster.ensures.asked

pub returns-in-Some-clause-flaw : goal.returns-in-Some-clause-flaw
returns-in-Some-clause-flaw g c =
    let h = c.in_ok-header.header in
    λ _. over_known most_read_side _ c.in_ok-front.front.length h.raster h.width h.height h.maximum c.deref.result.now
    (rw c.deref.ensures.value c.in_ok-front.ensures.front) c.in_ok-header.ensures.header
    _ c.deref-2.result.now c.in-Some.at c.front_of.ensures.bytes
    (rw c.deref-2.ensures.value c.in_ok-raster.ensures.piece) (rw c.deref-2.ensures.value (c.in_ok-raster.ensures.count
    ∙ c.raster_length-want.ensures)) c.in-Some.ensures.some

pub returns-clause-image : goal.returns-clause-image
returns-clause-image g c =
    let h = c.in_ok-header.header in
    image_known most_read_side _ c.in_ok-front.front.length h.raster h.width h.height h.maximum c.deref.result.now
    (rw c.deref.ensures.value c.in_ok-front.ensures.front) c.in_ok-header.ensures.header
    _ c.in_ok-raster.raster.items c.image_of.result c.front_of.ensures.bytes
    c.in_ok-raster.ensures.piece (c.in_ok-raster.ensures.count ∙ c.raster_length-want.ensures) (rw c.deref-2.ensures.value at c.in_default.ensures.none)
    c.image_of.ensures

pub returns-in_err-front-clause-image : goal.returns-in_err-front-clause-image
returns-in_err-front-clause-image g c = no_value c.from_residual.result _ _ c.from_residual.ensures.1

pub returns-in_err-front-clause-flaw : goal.returns-in_err-front-clause-flaw
returns-in_err-front-clause-flaw g c = handed_on c.from_residual.result _ _ c.from_residual.ensures.1 (λ never. absurd (never c.in_err-front.ensures.refusals))

pub returns-in_err-front-clause-failed : goal.returns-in_err-front-clause-failed
returns-in_err-front-clause-failed g c = fault_handed_on {T = Front} c.from_residual.result _ _ c.from_residual.ensures.1 c.in_err-front.ensures.failed

pub returns-in_err-front-clause-asked : goal.returns-in_err-front-clause-asked
returns-in_err-front-clause-asked g c = asks_header_only _ _ _ c.front_of.ensures.asked

pub returns-in_err-front-clause-read : goal.returns-in_err-front-clause-read
returns-in_err-front-clause-read g c = outside_answer c.from_residual.result _ _ _ _ c.from_residual.ensures.1 c.in_err-front.ensures.refusals

pub returns-in_err-header-clause-image : goal.returns-in_err-header-clause-image
returns-in_err-header-clause-image g c = no_value c.from_residual-in_err-header.result _ _ c.from_residual-in_err-header.ensures.1

pub returns-in_err-header-clause-failed : goal.returns-in_err-header-clause-failed
returns-in_err-header-clause-failed g c =
    flaw_no_fault c.from_residual-in_err-header.result _ _ _ _ c.from_residual-in_err-header.ensures.1 c.in_err-header.ensures.flaw

pub returns-in_err-header-clause-asked : goal.returns-in_err-header-clause-asked
returns-in_err-header-clause-asked g c = asks_header_only _ _ _ c.front_of.ensures.asked

pub returns-in_err-header-clause-read : goal.returns-in_err-header-clause-read
returns-in_err-header-clause-read g c =
    header_answer c.from_residual-in_err-header.result _ _ _ _ c.from_residual-in_err-header.ensures.1 c.in_err-header.ensures.no_raster
    c.in_ok-front.ensures.read

pub returns-then-have-want-clause-image : goal.returns-then-have-want-clause-image
returns-then-have-want-clause-image g c = tt

pub returns-then-have-want-clause-failed : goal.returns-then-have-want-clause-failed
returns-then-have-want-clause-failed g c = λ failed. let no : ⊥ = cc in absurd no

pub returns-then-have-want-clause-asked : goal.returns-then-have-want-clause-asked
returns-then-have-want-clause-asked g c = asks_header_only _ _ _ c.front_of.ensures.asked

pub returns-then-have-want-clause-read : goal.returns-then-have-want-clause-read
returns-then-have-want-clause-read g c = c.in_ok-front.ensures.read

pub returns-in_err-front-clause-bytes : goal.returns-in_err-front-clause-bytes
returns-in_err-front-clause-bytes g c = c.front_of.ensures.bytes

pub returns-in_err-front-clause-name : goal.returns-in_err-front-clause-name
returns-in_err-front-clause-name g c = c.front_of.ensures.name

pub returns-in_err-front-clause-faults : goal.returns-in_err-front-clause-faults
returns-in_err-front-clause-faults g c = c.front_of.ensures.faults

pub returns-in_err-header-clause-bytes : goal.returns-in_err-header-clause-bytes
returns-in_err-header-clause-bytes g c = c.front_of.ensures.bytes

pub returns-in_err-header-clause-name : goal.returns-in_err-header-clause-name
returns-in_err-header-clause-name g c = c.front_of.ensures.name

pub returns-in_err-header-clause-faults : goal.returns-in_err-header-clause-faults
returns-in_err-header-clause-faults g c = c.front_of.ensures.faults

pub returns-then-have-want-clause-bytes : goal.returns-then-have-want-clause-bytes
returns-then-have-want-clause-bytes g c = c.front_of.ensures.bytes

pub returns-then-have-want-clause-name : goal.returns-then-have-want-clause-name
returns-then-have-want-clause-name g c = c.front_of.ensures.name

pub returns-then-have-want-clause-faults : goal.returns-then-have-want-clause-faults
returns-then-have-want-clause-faults g c = c.front_of.ensures.faults

pub returns-in_err-raster-clause-image : goal.returns-in_err-raster-clause-image
returns-in_err-raster-clause-image g c = no_value c.from_residual-in_err-raster.result _ _ c.from_residual-in_err-raster.ensures.1

pub returns-in_err-raster-clause-flaw : goal.returns-in_err-raster-clause-flaw
returns-in_err-raster-clause-flaw g c =
    handed_on c.from_residual-in_err-raster.result _ _ c.from_residual-in_err-raster.ensures.1 (λ never. absurd (never c.in_err-raster.ensures.refusals))

pub returns-in_err-raster-clause-failed : goal.returns-in_err-raster-clause-failed
returns-in_err-raster-clause-failed g c =
    let h = c.in_ok-header.header in
    let inside = raster_inside _ _ _ (g.F.File.asked c.args.file.now) c.in_ok-front.front.length h.raster h.width h.height h.maximum _ c.deref.result.now
    c.in_ok-front.ensures.read
    (rw c.deref.ensures.value c.in_ok-front.ensures.front) (rw c.deref.ensures.value c.in_ok-front.ensures.few) c.in_ok-header.ensures.header
    c.raster_length-want.ensures c.if-have-want.false in
    fault_handed_on {T = Vec ℕ Global} c.from_residual-in_err-raster.result _ _ c.from_residual-in_err-raster.ensures.1
    (λ failed. rose_later _ _ _ c.front_of.ensures.faults (c.in_err-raster.ensures.failed failed (rw c.front_of.ensures.bytes inside)))

pub returns-in_err-raster-clause-read : goal.returns-in_err-raster-clause-read
returns-in_err-raster-clause-read g c =
    outside_answer c.from_residual-in_err-raster.result _ _ _ _ c.from_residual-in_err-raster.ensures.1 c.in_err-raster.ensures.refusals

pub returns-in_err-raster-clause-bytes : goal.returns-in_err-raster-clause-bytes
returns-in_err-raster-clause-bytes g c = c.bytes_at.ensures.bytes ∙ c.front_of.ensures.bytes

pub returns-in_err-raster-clause-name : goal.returns-in_err-raster-clause-name
returns-in_err-raster-clause-name g c = c.bytes_at.ensures.name ∙ c.front_of.ensures.name

pub returns-in_err-raster-clause-faults : goal.returns-in_err-raster-clause-faults
returns-in_err-raster-clause-faults g c = omega (arith, c.bytes_at.ensures.faults, c.front_of.ensures.faults)

pub returns-in-Some-clause-bytes : goal.returns-in-Some-clause-bytes
returns-in-Some-clause-bytes g c = c.bytes_at.ensures.bytes ∙ c.front_of.ensures.bytes

pub returns-in-Some-clause-name : goal.returns-in-Some-clause-name
returns-in-Some-clause-name g c = c.bytes_at.ensures.name ∙ c.front_of.ensures.name

pub returns-in-Some-clause-faults : goal.returns-in-Some-clause-faults
returns-in-Some-clause-faults g c = omega (arith, c.bytes_at.ensures.faults, c.front_of.ensures.faults)

pub returns-clause-bytes : goal.returns-clause-bytes
returns-clause-bytes g c = c.bytes_at.ensures.bytes ∙ c.front_of.ensures.bytes

pub returns-clause-name : goal.returns-clause-name
returns-clause-name g c = c.bytes_at.ensures.name ∙ c.front_of.ensures.name

pub returns-clause-faults : goal.returns-clause-faults
returns-clause-faults g c = omega (arith, c.bytes_at.ensures.faults, c.front_of.ensures.faults)

pub returns-in-Some-clause-image : goal.returns-in-Some-clause-image
returns-in-Some-clause-image g c = tt

pub returns-in-Some-clause-failed : goal.returns-in-Some-clause-failed
returns-in-Some-clause-failed g c = λ failed. let no : ⊥ = cc in absurd no

pub returns-clause-flaw : goal.returns-clause-flaw
returns-clause-flaw g c = tt

pub returns-clause-failed : goal.returns-clause-failed
returns-clause-failed g c = λ failed. let no : ⊥ = cc in absurd no

use Rattle.std.proofs.Common.{◌∙◌, sym, ap}
use Rattle.vt_pages.specs.Shape.{shape_of}
use Rattle.vt_pages.specs.Pages.{refusal_of}
use Rattle.vt_tiles.proofs.Flaws.{magic_flaw, short_flaw, geometry_flaw, length_flaw, no_flaw, spelled_shape, spelled_length}
use Rattle.vt_tiles.proofs.header.parse_header.Goals as goal

pub returns-in-None-clause-flaw : goal.returns-in-None-clause-flaw
returns-in-None-clause-flaw c = magic_flaw c.args.head.now c.args.have c.in-None.ensures

pub returns-then-have-clause-flaw : goal.returns-then-have-clause-flaw
returns-then-have-clause-flaw c = short_flaw c.args.head.now c.args.have c.in-Some.ensures.has c.if-have.true

pub returns-in-Err-clause-flaw : goal.returns-in-Err-clause-flaw
returns-in-Err-clause-flaw c =
    geometry_flaw c.args.head.now c.args.have c.in-Err.field-0 c.in-Some.ensures.has c.if-have.false
    (ap refusal_of (spelled_shape c.args.head.now c.number_at.result c.number_at-2.result c.number_at-3.result c.number_at.ensures
    c.number_at-2.ensures c.number_at-3.ensures) ∙ c.in-Err.ensures.err)

pub returns-then-have-want-clause-flaw : goal.returns-then-have-want-clause-flaw
returns-then-have-want-clause-flaw c =
    let shape = spelled_shape c.args.head.now c.number_at.result c.number_at-2.result c.number_at-3.result c.number_at.ensures
    c.number_at-2.ensures c.number_at-3.ensures in
    let want = spelled_length c.args.head.now c.in-Ok.geometry
    (shape_of c.number_at.result c.number_at-2.result c.number_at-3.result) c.in-Some.depth c.store_length-want.result c.in-Ok.ensures.ok
    shape c.in-Some.ensures.is c.store_length-want.ensures in
    rw want (length_flaw c.args.head.now c.args.have c.in-Some.ensures.has c.if-have.false
    (ap refusal_of shape ∙ c.in-Ok.ensures.limits.accepted) (λ same. c.if-have-want.true (same ∙ sym want)))

pub returns-clause-no_flaw : goal.returns-clause-no_flaw
returns-clause-no_flaw c =
    let shape = spelled_shape c.args.head.now c.number_at.result c.number_at-2.result c.number_at-3.result c.number_at.ensures
    c.number_at-2.ensures c.number_at-3.ensures in
    let want = spelled_length c.args.head.now c.in-Ok.geometry
    (shape_of c.number_at.result c.number_at-2.result c.number_at-3.result) c.in-Some.depth c.store_length-want.result c.in-Ok.ensures.ok
    shape c.in-Some.ensures.is c.store_length-want.ensures in
    no_flaw c.args.head.now c.args.have c.in-Some.ensures.has c.if-have.false
    (ap refusal_of shape ∙ c.in-Ok.ensures.limits.accepted) (c.if-have-want.false ∙ want)

pub returns-clause-shape : goal.returns-clause-shape
returns-clause-shape c = c.in-Ok.ensures.ok
    ∙ sym (spelled_shape c.args.head.now c.number_at.result c.number_at-2.result c.number_at-3.result c.number_at.ensures
    c.number_at-2.ensures c.number_at-3.ensures)

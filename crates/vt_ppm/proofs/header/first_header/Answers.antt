use Rattle.std.proofs.Common.{◌∙◌, sym, inl, inr, arith, rules}
use Rattle.std.proofs.lemmas.Result.{err_from_is_err_and}
use Rattle.vt_ppm.proofs.HeaderFields.{width_breaks, height_breaks, maximum_breaks, end_breaks, header_found}
use Rattle.vt_ppm.proofs.header.first_header.Goals as goal
use Rattle.vt_ppm.proofs.header.first_header.Goals.{then-maximum-head-via-then-maximum-head, then-maximum-head-via-else-maximum-head+then-not-is_white_byte}

pub returns-in_err-width-clause-broken : goal.returns-in_err-width-clause-broken
returns-in_err-width-clause-broken c =
    let p = err_from_is_err_and c.from_residual.result c.from_residual.ensures.1 in
    rw (p.1, p.2) (width_breaks c.args.head.now c.requires.few c.requires.magic c.in_err-width.field-0.0 c.in_err-width.ensures.broken)

pub returns-in_err-height-clause-broken : goal.returns-in_err-height-clause-broken
returns-in_err-height-clause-broken c =
    let p = err_from_is_err_and c.from_residual-in_err-height.result c.from_residual-in_err-height.ensures.1 in
    rw (p.1, p.2) (height_breaks c.args.head.now c.requires.few c.requires.magic _ _ c.in_ok-width.ensures.field c.in_err-height.field-0.0
    c.in_err-height.ensures.broken)

pub returns-in_err-maximum-clause-broken : goal.returns-in_err-maximum-clause-broken
returns-in_err-maximum-clause-broken c =
    let p = err_from_is_err_and c.from_residual-in_err-maximum.result c.from_residual-in_err-maximum.ensures.1 in
    rw (p.1, p.2) (maximum_breaks c.args.head.now c.requires.few c.requires.magic _ _ c.in_ok-width.ensures.field _ _ c.in_ok-height.ensures.field
    c.in_err-maximum.field-0.0 c.in_err-maximum.ensures.broken)

pub returns-then-maximum-head-clause-broken : goal.returns-then-maximum-head-clause-broken
returns-then-maximum-head-clause-broken c =
    end_breaks c.args.head.now c.requires.few c.requires.magic _ _ c.in_ok-width.ensures.field _ _ c.in_ok-height.ensures.field _ _
    c.in_ok-maximum.ensures.field
    (elim c.then-maximum-head.branch [
      | then-maximum-head-via-then-maximum-head w ↦ inl w.if-maximum-head.true
      | then-maximum-head-via-else-maximum-head+then-not-is_white_byte w ↦ inr (search rules)
    ])

pub returns-clause-header : goal.returns-clause-header
returns-clause-header c =
    header_found c.args.head.now c.requires.few c.requires.magic _ _ c.in_ok-width.ensures.field _ _ c.in_ok-height.ensures.field _ _
    c.in_ok-maximum.ensures.field
    (omega (arith, c.in_ok-maximum.ensures.field.within, c.if-maximum-head.false)) (sym c.is_white_byte.ensures ∙ c.if-not-is_white_byte.false)

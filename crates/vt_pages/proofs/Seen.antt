-- What a geometry's fields say, told of the shape that callers see.
use Rattle.std.proofs.Common.{◌≡◌, ℕ, subst}
use Rattle.vt_pages.specs.declared.tables.Tables.{Tables}
use Rattle.vt_pages.specs.Shape.{Shape}
use Rattle.vt_pages.specs.Tables.{IsGeometry}

pub seen : {own shown : Shape} {shift levels pages : ℕ} {t : Tables} → own ≡ shown
    → IsGeometry own shift levels pages t → IsGeometry shown shift levels pages t
seen {own} {shown} {shift} {levels} {pages} {t} e g = subst (λ s. IsGeometry s shift levels pages t) e g

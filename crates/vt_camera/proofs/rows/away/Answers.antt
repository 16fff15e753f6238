use Rattle.std.proofs.Common.{◌≡◌, ◌≤◌, ◌*ℤ◌, to_z, of_z, to_z-of_z, FitsSigned, sym, ap₂, subst, arith}
use Rattle.std.specs.Prelude.{unsigned_abs}
use Rattle.std.specs.Int.{w64}
use Rattle.std.proofs.lemmas.Int.{ints, fits_signed_from_abs}
use Rattle.vt_camera.proofs.Ground.{away_fits, product_value}
use Rattle.vt_camera.proofs.rows.away.Goals as goal

small : (c : goal.Start) → unsigned_abs (c.args.off *ℤ c.args.across) ≤ 562675075514368
small c = away_fits c.args.off c.args.across c.requires.off_low c.requires.off_high c.requires.across_low c.requires.across_high

product : (c : goal.Start) → to_z w64 (of_z w64 (to_z w64 (of_z w64 c.args.off) *ℤ to_z w64 (of_z w64 c.args.across))) ≡ c.args.off *ℤ c.args.across
product c =
    product_value w64 c.args.off c.args.across c.ranges.off c.ranges.across (fits_signed_from_abs w64 (c.args.off *ℤ c.args.across) (omega (arith, small c)))

pub overflow_mul-result : goal.overflow_mul-result
overflow_mul-result c =
    subst (FitsSigned w64) (sym (ap₂ ◌*ℤ◌ (to_z-of_z c.ranges.off) (to_z-of_z c.ranges.across)))
    (fits_signed_from_abs w64 (c.args.off *ℤ c.args.across) (omega (arith, small c)))

pub returns-clause-value : goal.returns-clause-value
returns-clause-value c = product c

pub returns-clause-low : goal.returns-clause-low
returns-clause-low c = rw (product c) (omega (arith, ints, small c))

pub returns-clause-high : goal.returns-clause-high
returns-clause-high c = rw (product c) (omega (arith, ints, small c))

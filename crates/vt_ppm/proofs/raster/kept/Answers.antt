use Rattle.std.proofs.Common.{◌≡◌, ℕ, ◌+◌, ◌*◌, ◌/◌, ◌<◌, ◌≤◌, sym, ap, subst, arith}
use Rattle.std.proofs.lemmas.Nat.{mul-le}
use Rattle.vt_definitions.specs.Depths.{IsDepth, greatest_sample, sample_base}
use Rattle.vt_ppm.proofs.SampleValues.{by_depth, kept_few}
use Rattle.vt_ppm.proofs.raster.kept.Goals as goal

greatest_few : (d : ℕ) → IsDepth d → greatest_sample d ≤ 65535
greatest_few = by_depth (λ d. greatest_sample d ≤ 65535) (omega arith) (omega arith)

base_few : (d : ℕ) → IsDepth d → sample_base d ≤ 65536
base_few = by_depth (λ d. sample_base d ≤ 65536) (omega arith) (omega arith)

product_few : (d s m n : ℕ) → IsDepth d → m ≤ greatest_sample d → s ≤ m → n ≡ greatest_sample d → s * n ≤ 4294836225
product_few d s m n depth lawful few e =
    let top = greatest_few d depth in
    let product : s * n ≤ 65535 * 65535 = mul-le s n 65535 65535 (omega (arith, few, lawful, top)) (omega (arith, e, top)) in
    omega (arith, product)

pub overflow_mul-result : goal.overflow_mul-result
overflow_mul-result g c = omega (arith, product_few g.row.DEPTH _ _ _ c.requires.depth c.requires.lawful c.requires.few c.greatest_sample.ensures)

pub overflow_cast-result : goal.overflow_cast-result
overflow_cast-result g c =
    let same = ap (λ n. (c.args.sample * n + c.args.maximum / 2) / c.args.maximum) c.greatest_sample.ensures in
    let few = subst (λ n. n < sample_base g.row.DEPTH) (sym same)
    (kept_few g.row.DEPTH c.args.maximum c.args.sample c.requires.depth c.requires.some c.requires.few) in
    omega (arith, few, base_few g.row.DEPTH c.requires.depth)

pub returns-clause-value : goal.returns-clause-value
returns-clause-value g c = ap (λ n. (c.args.sample * n + c.args.maximum / 2) / c.args.maximum) c.greatest_sample.ensures

pub returns-clause-few : goal.returns-clause-few
returns-clause-few g c =
    let same = ap (λ n. (c.args.sample * n + c.args.maximum / 2) / c.args.maximum) c.greatest_sample.ensures in
    subst (λ n. n < sample_base g.row.DEPTH) (sym same)
    (kept_few g.row.DEPTH c.args.maximum c.args.sample c.requires.depth c.requires.some c.requires.few)

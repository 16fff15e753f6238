use Rattle.std.proofs.Common.{◌≡◌, ℕ, suc, ◌+◌, ◌-◌, ◌*◌, ◌/◌, ◌^◌, ◌<◌, ◌≤◌, List, length, get_or, set, refl, sym, add-one, arith}
use Rattle.std.proofs.lemmas.List.Edits.{fill_by_more}
use Rattle.std.proofs.Math.Pow.{pow_pos}
use Rattle.std.proofs.lemmas.Grind.{common_steps}
use Rattle.vt_definitions.specs.Limits.{most_tiled_side, most_levels}
use Rattle.vt_definitions.specs.Sides.{side}
use Rattle.vt_pages.specs.Shape.{Shape}
use Rattle.vt_pages.specs.Pages.{columns_at, rows_at, pages_below}
use Rattle.vt_pages.proofs.Counts.{pages_below-zero, pages_below-suc, pages_below_most}
use Rattle.vt_pages.proofs.tables.make_tables.Goals as goal

more : (f : ℕ → ℕ) (xs : List ℕ) (i v : ℕ) → i < length xs → v ≡ f i → ((k : ℕ) → k < i → get_or xs k 0 ≡ f k)
    → (k : ℕ) → k < i + 1 → get_or (set xs i v) k 0 ≡ f k
more f xs i v inside e before k h = rw e (fill_by_more f xs i 0 inside before k h)

side-more : (w k v : ℕ) → v ≡ side w k → (v + 1) / 2 ≡ side w (k + 1)
side-more w k v e = let n : k + 1 ≡ suc k = omega arith in rw (n, e) refl

columns-code : (s : Shape) (k wide shift : ℕ) → s.tile ≡ 2 ^ shift → wide ≡ side s.width k → (wide + s.tile - 1) / 2 ^ shift ≡ columns_at s k
unfolding columns_at
columns-code s k wide shift p e = rw (e, ← p) refl

rows-code : (s : Shape) (k high shift : ℕ) → s.tile ≡ 2 ^ shift → high ≡ side s.height k → (high + s.tile - 1) / 2 ^ shift ≡ rows_at s k
unfolding rows_at
rows-code s k high shift p e = rw (e, ← p) refl

-- the running total after a level
total-code : (s : Shape) (k total wide high shift : ℕ) → s.tile ≡ 2 ^ shift → total ≡ pages_below s k → wide ≡ side s.width k → high ≡ side s.height k
    → total + (high + s.tile - 1) / 2 ^ shift * ((wide + s.tile - 1) / 2 ^ shift) ≡ pages_below s (k + 1)
total-code s k total wide high shift p t w h =
    rw (columns-code s k wide shift p w, rows-code s k high shift p h, t, add-one) (sym (pages_below-suc s k))

total_most : (s : Shape) (k shift : ℕ) → s.tile ≡ 2 ^ shift → s.width ≤ most_tiled_side → s.height ≤ most_tiled_side
    → k < most_levels → pages_below s (k + 1) ≤ most_levels * (most_tiled_side * most_tiled_side)
total_most s k shift p wide high inside =
    let some : 1 ≤ s.tile = omega (arith, pow_pos shift) in
    omega (arith, pages_below_most s (k + 1) most_tiled_side some (omega arith) wide high)

pub loop-k-init : goal.loop-k-init
loop-k-init c =
    let s : Shape = record { width = c.args.width; height = c.args.height; tile = c.args.tile } in
    grind (arith, pages_below-zero s)

pub overflow_add-total : goal.overflow_add-total
overflow_add-total c =
    let s : Shape = record { width = c.args.width; height = c.args.height; tile = c.args.tile } in
    let v = c.loop-k.invariant in
    let e = total-code s c.loop-k.k c.loop-k.total c.loop-k.wide c.loop-k.high c.args.shift c.requires.power v.total_is v.wide_is v.high_is in
    let most = total_most s c.loop-k.k c.args.shift c.requires.power c.requires.width_inside c.requires.height_inside c.loop-k-test.true in
    rw e (omega (arith, most))

pub loop-k-preserved : goal.loop-k-preserved
loop-k-preserved c =
    let s : Shape = record { width = c.args.width; height = c.args.height; tile = c.args.tile } in
    let v = c.loop-k.invariant in
    let k = c.loop-k.k in
    let inside = c.loop-k-test.true in
    record {
      wide_is = side-more c.args.width k c.loop-k.wide v.wide_is;
      wide_most = omega arith;
      high_is = side-more c.args.height k c.loop-k.high v.high_is;
      high_most = omega arith;
      total_is = total-code s k c.loop-k.total c.loop-k.wide c.loop-k.high c.args.shift c.requires.power v.total_is v.wide_is v.high_is;
      first_len = grind (arith, common_steps);
      columns_len = grind (arith, common_steps);
      rows_len = grind (arith, common_steps);
      widths_len = grind (arith, common_steps);
      heights_len = grind (arith, common_steps);
      first = more (pages_below s) c.loop-k.first k c.loop-k.total (omega arith) v.total_is v.first;
      columns = more (columns_at s) c.loop-k.columns k _ (omega arith) (columns-code s k c.loop-k.wide c.args.shift c.requires.power v.wide_is) v.columns;
      rows = more (rows_at s) c.loop-k.rows k _ (omega arith) (rows-code s k c.loop-k.high c.args.shift c.requires.power v.high_is) v.rows;
      widths = more (side c.args.width) c.loop-k.widths k c.loop-k.wide (omega arith) v.wide_is v.widths;
      heights = more (side c.args.height) c.loop-k.heights k c.loop-k.high (omega arith) v.high_is v.heights;
    }

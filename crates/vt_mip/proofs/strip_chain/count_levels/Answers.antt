use Rattle.std.proofs.Common.{◌≡◌, ◌+◌, ◌/◌, ◌<◌, ◌≤◌, ◌⊎◌, inl, inr, ℕ, refl, sym, ap, ◌∙◌, arith}
use Rattle.vt_ppm.specs.Sides.{side}
use Rattle.vt_mip.proofs.StripRows.{side_next}
use Rattle.vt_mip.proofs.StripRoom.{needs_more, needs_few, levels_are}
use Rattle.vt_mip.proofs.strip_chain.count_levels.Goals as goal

pub overflow_add-level : goal.overflow_add-level
overflow_add-level c = omega (
  arith,
  needs_few c.args.width c.args.height c.args.tile c.loop-columns.level (grind arith) (omega arith) (omega arith)
      c.loop-columns.invariant.needed,
)

pub overflow_add-result : goal.overflow_add-result
overflow_add-result c = omega (
  arith,
  needs_few c.args.width c.args.height c.args.tile c.loop-columns.level (grind arith) (omega arith) (omega arith)
      c.loop-columns.invariant.needed,
)

pub returns-clause-few : goal.returns-clause-few
returns-clause-few c = omega (
  arith,
  needs_few c.args.width c.args.height c.args.tile c.loop-columns.level (grind arith) (omega arith) (omega arith)
      c.loop-columns.invariant.needed,
)

pub loop-columns-init : goal.loop-columns-init
loop-columns-init c = record {
  few_columns = omega arith;
  few_rows = omega arith;
  columns = refl;
  rows = refl;
  needed = λ k wide high. omega arith;
}

pub loop-columns-preserved : goal.loop-columns-preserved
loop-columns-preserved c =
    let i = c.loop-columns.invariant in
    let columns : (c.loop-columns.columns + 1) / 2 ≡ side c.args.width (c.loop-columns.level + 1) =
    ap (λ (n : ℕ). (n + 1) / 2) i.columns ∙ sym (side_next c.args.width c.loop-columns.level) in
    let rows : (c.loop-columns.rows + 1) / 2 ≡ side c.args.height (c.loop-columns.level + 1) =
    ap (λ (n : ℕ). (n + 1) / 2) i.rows ∙ sym (side_next c.args.height c.loop-columns.level) in
    record {
      few_columns = halved_few c.loop-columns.columns c.args.width i.few_columns;
      few_rows = halved_few c.loop-columns.rows c.args.height i.few_rows;
      columns = columns;
      rows = rows;
      needed = needs_more c.args.width c.args.height c.args.tile c.loop-columns.level c.loop-columns.columns c.loop-columns.rows
          i.columns i.rows c.loop-columns-test.ensures i.needed;
    } where
      halved_few : (n m : ℕ) → n ≤ m → (n + 1) / 2 ≤ m
      halved_few n m few = omega arith

-- a side above the tile side falls, and the other one does not rise
falls : (t a b : ℕ) → 2 ≤ t → (t < a) ⊎ (t < b) → (a + 1) / 2 + (b + 1) / 2 < a + b
falls t a b some (inl large) = omega arith
falls t a b some (inr large) = omega arith

pub loop-columns-smaller : goal.loop-columns-smaller
loop-columns-smaller c = falls c.args.tile c.loop-columns.columns c.loop-columns.rows (grind arith) c.loop-columns-test.ensures

pub returns-clause-value : goal.returns-clause-value
returns-clause-value c =
    levels_are c.args.width c.args.height c.args.tile c.loop-columns.level c.loop-columns.columns c.loop-columns.rows (grind arith)
    c.loop-columns.invariant.columns c.loop-columns.invariant.rows c.loop-columns-test.ensures.0 c.loop-columns-test.ensures.1
    c.loop-columns.invariant.needed

use Rattle.std.proofs.Common.{◌≡◌, ℕ, ◌+◌, ◌*◌, ◌/◌, inl, inr, length, refl, sym, subst}
use Rattle.vt_definitions.specs.Depths.{texel_length}
use Rattle.vt_box_filter.specs.HalvedRows.{IsHalvedRow}
use Rattle.vt_box_filter.proofs.PartSamples.{two_deep}
use Rattle.vt_box_filter.proofs.Bytes.{are_bytes}
use Rattle.vt_box_filter.proofs.rows.halve_rows.Goals as goal

pub returns-then-depth-eq1-clause-values : goal.returns-then-depth-eq1-clause-values
returns-then-depth-eq1-clause-values c = are_bytes _ c.type_inv.out

pub returns-then-depth-eq1-clause-above : goal.returns-then-depth-eq1-clause-above
returns-then-depth-eq1-clause-above c = are_bytes _ c.type_inv.top

pub returns-then-depth-eq1-clause-below : goal.returns-then-depth-eq1-clause-below
returns-then-depth-eq1-clause-below c = are_bytes _ c.type_inv.bottom

pub returns-else-depth-eq1-clause-values : goal.returns-else-depth-eq1-clause-values
returns-else-depth-eq1-clause-values c = are_bytes _ c.type_inv.out

pub returns-else-depth-eq1-clause-above : goal.returns-else-depth-eq1-clause-above
returns-else-depth-eq1-clause-above c = are_bytes _ c.type_inv.top

pub returns-else-depth-eq1-clause-below : goal.returns-else-depth-eq1-clause-below
returns-else-depth-eq1-clause-below c = are_bytes _ c.type_inv.bottom

pub halve_row-requires-clause-depth : goal.halve_row-requires-clause-depth
halve_row-requires-clause-depth c = inl refl

pub halve_row-requires-clause-top : goal.halve_row-requires-clause-top
halve_row-requires-clause-top c =
    subst (λ (d : ℕ). length c.args.top.now ≡ texel_length d * c.args.width) (c.if-depth-eq1.true) c.requires.top

pub halve_row-requires-clause-bottom : goal.halve_row-requires-clause-bottom
halve_row-requires-clause-bottom c =
    subst (λ (d : ℕ). length c.args.bottom.now ≡ texel_length d * c.args.width) (c.if-depth-eq1.true) c.requires.bottom

pub halve_row-requires-clause-out : goal.halve_row-requires-clause-out
halve_row-requires-clause-out c =
    subst (λ (d : ℕ). length c.args.out.now ≡ texel_length d * ((c.args.width + 1) / 2)) (c.if-depth-eq1.true) c.requires.out

pub halve_row-requires-else-depth-eq1-clause-depth : goal.halve_row-requires-else-depth-eq1-clause-depth
halve_row-requires-else-depth-eq1-clause-depth c = inr refl

pub halve_row-requires-else-depth-eq1-clause-top : goal.halve_row-requires-else-depth-eq1-clause-top
halve_row-requires-else-depth-eq1-clause-top c =
    subst (λ (d : ℕ). length c.args.top.now ≡ texel_length d * c.args.width) (two_deep _ c.requires.depth c.if-depth-eq1.false) c.requires.top

pub halve_row-requires-else-depth-eq1-clause-bottom : goal.halve_row-requires-else-depth-eq1-clause-bottom
halve_row-requires-else-depth-eq1-clause-bottom c =
    subst (λ (d : ℕ). length c.args.bottom.now ≡ texel_length d * c.args.width) (two_deep _ c.requires.depth c.if-depth-eq1.false) c.requires.bottom

pub halve_row-requires-else-depth-eq1-clause-out : goal.halve_row-requires-else-depth-eq1-clause-out
halve_row-requires-else-depth-eq1-clause-out c =
    subst (λ (d : ℕ). length c.args.out.now ≡ texel_length d * ((c.args.width + 1) / 2)) (two_deep _ c.requires.depth c.if-depth-eq1.false) c.requires.out

pub returns-then-depth-eq1-clause-row : goal.returns-then-depth-eq1-clause-row
returns-then-depth-eq1-clause-row c =
    subst (λ (d : ℕ). IsHalvedRow d c.args.top.now c.args.bottom.now c.args.width ((c.args.width + 1) / 2) c.halve_row.new.out)
    (sym c.if-depth-eq1.true) c.halve_row.ensures

pub returns-else-depth-eq1-clause-row : goal.returns-else-depth-eq1-clause-row
returns-else-depth-eq1-clause-row c =
    subst (λ (d : ℕ). IsHalvedRow d c.args.top.now c.args.bottom.now c.args.width ((c.args.width + 1) / 2) c.halve_row-else-depth-eq1.new.out)
    (sym (two_deep _ c.requires.depth c.if-depth-eq1.false)) c.halve_row-else-depth-eq1.ensures

-- The corners of a pixel by the numbers of its row, and what they weigh.
use Rattle.std.proofs.Common.{◌≡◌, ℕ, ◌+◌, ◌-◌, ◌*◌, ◌/◌, ◌^◌, ◌<◌, ap, ◌∙◌, arith}
use Rattle.vt_definitions.specs.Sides.{side}
use Rattle.vt_camera.specs.Rows.{RowView, row_level, row_spot}
use Rattle.vt_blend.specs.declared.corners.Corners.{Corners}
use Rattle.vt_blend.specs.Corners.{corners_at, corners_of, weights_of, AreWhole}

-- the corners of a pixel, by the numbers of its row
pub corners_are : (row : RowView) (x level columns rows u v : ℕ) → level ≡ row_level row → columns ≡ side row.surface.width level
    → rows ≡ side row.surface.height level → u ≡ (row_spot row x).0 → v ≡ (row_spot row x).1
    → corners_at columns rows (u / 2 ^ level) (v / 2 ^ level) ≡ corners_of row x
unfolding corners_of
corners_are row x level columns rows u v k w h a b =
    ap (λ (n : ℕ). corners_at n rows (u / 2 ^ level) (v / 2 ^ level)) w
    ∙ ap (λ (n : ℕ). corners_at (side row.surface.width level) n (u / 2 ^ level) (v / 2 ^ level)) h
    ∙ ap (λ (n : ℕ). corners_at (side row.surface.width level) (side row.surface.height level) (n / 2 ^ level) (v / 2 ^ level)) a
    ∙ ap (λ (n : ℕ). corners_at (side row.surface.width level) (side row.surface.height level) ((row_spot row x).0 / 2 ^ level) (n / 2 ^ level)) b
    ∙ ap (λ (i : ℕ). corners_at (side row.surface.width i) (side row.surface.height i) ((row_spot row x).0 / 2 ^ i) ((row_spot row x).1 / 2 ^ i)) k

-- the weights of shares of 256 are 65536 together
split_product : (a b c d : ℕ) → a + b ≡ 256 → c + d ≡ 256 → a * c + b * c + a * d + b * d ≡ 65536
split_product a b c d e f =
    let first : (a + b) * c ≡ 256 * c = ap (λ (n : ℕ). n * c) e in
    let second : (a + b) * d ≡ 256 * d = ap (λ (n : ℕ). n * d) e in
    omega (arith, first, second, f)

pub weights_whole : (at : Corners) → at.across < 256 → at.down < 256 → AreWhole (weights_of at)
unfolding weights_of
weights_whole at across down =
    split_product (256 - at.across) at.across (256 - at.down) at.down (omega (arith, across)) (omega (arith, down))

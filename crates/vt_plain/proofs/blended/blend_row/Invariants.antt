use Rattle.std.proofs.Common.{◌≡◌, ℕ, ◌<◌}
use Rattle.vt_definitions.specs.Depths.{texel_bytes}
use Rattle.vt_camera.specs.Rows.{row_level}
use Rattle.vt_plain.specs.Plain.{chain_of}
use Rattle.vt_blend.specs.Blends.{blend_bytes}
use Rattle.vt_plain.proofs.blended.blend_row.Given as goal

-- the pixels so far were written
abbrev pub invariant-loop-x : goal.invariant-loop-x
invariant-loop-x g l = (i : ℕ) → i < l.x
    → texel_bytes g.row.DEPTH l.out i ≡ blend_bytes g.row.DEPTH l.row i (chain_of l.chain.base (row_level l.row))

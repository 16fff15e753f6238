use Rattle.std.proofs.Common.{◌≡◌, ℕ, ◌+◌, ◌<◌, slice_index}
use Rattle.vt_pages.specs.Pages.{pages_of}
use Rattle.vt_definitions.specs.Depths.{texel_bytes}
use Rattle.vt_draw.specs.Shots.{run_of}
use Rattle.vt_plain_bilinear.specs.Served.{LookupGoesOn, IsMemo, IsBlended, texels_wanting}
use Rattle.vt_plain_bilinear.proofs.rows.blend_pixels.Given as goal

-- the pixels so far are blended, and their texels counted but for the last run, and the look-up stands for what was found
abbrev pub invariant-loop-x : goal.invariant-loop-x
invariant-loop-x g l = record {
  on : LookupGoesOn (g.K.Lookup.shape l.fn.lookup) (g.K.Lookup.version l.fn.lookup) (g.K.Lookup.says l.fn.lookup) (g.K.Lookup.kept l.fn.lookup)
      (g.K.Lookup.shape l.lookup) (g.K.Lookup.version l.lookup) (g.K.Lookup.says l.lookup) (g.K.Lookup.kept l.lookup);
  known : IsMemo l.geometry (g.K.Lookup.version l.fn.lookup) (g.K.Lookup.says l.lookup) l.memo;
  drawn : (i : ℕ) → i < l.x → IsBlended l.geometry g.row.DEPTH (g.K.Lookup.version l.fn.lookup) (g.K.Lookup.says l.lookup) l.row i
      (texel_bytes g.row.DEPTH l.out i);
  inside : l.last < pages_of l.geometry;
  counted : (p : ℕ) → slice_index l.counts p + run_of l.last l.run p ≡ slice_index l.fn.counts p + texels_wanting l.geometry l.row l.x p;
}

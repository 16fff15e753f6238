use Rattle.std.proofs.Common.{◌≡◌, ℕ, ◌+◌, ◌<◌, ◌≤◌, length, slice_index}
use Rattle.vt_draw.specs.Lookups.{Note, IsFinestFound}
use Rattle.vt_pages.specs.Depths.{texel_bytes}
use Rattle.vt_draw.specs.Shots.{pixels_wanting, run_of, IsDrawn}
use Rattle.vt_draw.proofs.shots.draw_pixels.Given as goal

-- the pixels so far are drawn, and counted but for the last run, and the look-up stands for what was found for the last of them
abbrev pub invariant-loop-x : goal.invariant-loop-x
invariant-loop-x g l = record {
  shape : g.K.Lookup.shape l.lookup ≡ l.geometry;
  version : g.K.Lookup.version l.lookup ≡ g.K.Lookup.version l.fn.lookup;
  said : (note : Note) → g.K.Lookup.says l.fn.lookup note → g.K.Lookup.says l.lookup note;
  kept : g.K.Lookup.kept l.lookup ≡ g.K.Lookup.kept l.fn.lookup;
  finest : IsFinestFound (g.K.Lookup.shape l.lookup) (g.K.Lookup.version l.lookup) (g.K.Lookup.says l.lookup) l.wanted l.found;
  drawn : (i : ℕ) → i < l.x → IsDrawn l.geometry g.row.DEPTH (g.K.Lookup.version l.fn.lookup) (g.K.Lookup.says l.lookup) l.row i
      (texel_bytes g.row.DEPTH l.out i);
  inside : l.wanted < length l.fn.counts;
  short : l.run ≤ l.x;
  counted : (p : ℕ) → slice_index l.counts p + run_of l.wanted l.run p ≡ slice_index l.fn.counts p + pixels_wanting l.geometry l.row l.x p;
}

use Rattle.std.proofs.Common.{◌≡◌, ◌≤◌}
use Rattle.vt_draw.specs.Lookups.{Note}
use Rattle.vt_texel_runs.specs.Spans.{AreSpanned, AreWantedBySpan}
use Rattle.vt_texel_runs.specs.Stretches.{IsStretch}
use Rattle.vt_texel_runs.proofs.spans.read_each.Given as goal

-- the texels so far are answered, their pages are listed, and the look-up stands for what was found for the stretch of the next one
abbrev pub invariant-loop-i : goal.invariant-loop-i
invariant-loop-i g l = record {
  shape : g.K.Lookup.shape l.lookup ≡ l.geometry;
  version : g.K.Lookup.version l.lookup ≡ g.K.Lookup.version l.fn.lookup;
  said : (note : Note) → g.K.Lookup.says l.fn.lookup note → g.K.Lookup.says l.lookup note;
  kept : g.K.Lookup.kept l.lookup ≡ g.K.Lookup.kept l.fn.lookup;
  until : l.i ≤ l.stretch.until;
  stretch : IsStretch l.geometry (g.K.Lookup.version l.lookup) (g.K.Lookup.says l.lookup) l.span l.i l.stretch;
  answered : AreSpanned l.geometry g.row.DEPTH (g.K.Lookup.version l.fn.lookup) (g.K.Lookup.says l.lookup) l.span l.i l.out;
  listed : AreWantedBySpan l.geometry l.span l.i l.pages;
}

use Rattle.vt_plain_bilinear.specs.Served.{LookupGoesOn, IsMemo}
use Rattle.vt_texel_runs.specs.Blends.{AreBlendsAlong}
use Rattle.vt_texel_runs.specs.Spans.{AreWantedBySpan}
use Rattle.vt_texel_runs.proofs.blends.blend_each.Given as goal

-- the texels so far are blended, their pages are listed, and what was found for the pages that were asked for last is known
abbrev pub invariant-loop-i : goal.invariant-loop-i
invariant-loop-i g l = record {
  on : LookupGoesOn (g.K.Lookup.shape l.fn.lookup) (g.K.Lookup.version l.fn.lookup) (g.K.Lookup.says l.fn.lookup) (g.K.Lookup.kept l.fn.lookup)
      (g.K.Lookup.shape l.lookup) (g.K.Lookup.version l.lookup) (g.K.Lookup.says l.lookup) (g.K.Lookup.kept l.lookup);
  known : IsMemo l.geometry (g.K.Lookup.version l.fn.lookup) (g.K.Lookup.says l.lookup) l.memo;
  answered : AreBlendsAlong l.geometry g.row.DEPTH (g.K.Lookup.version l.fn.lookup) (g.K.Lookup.says l.lookup) l.span l.i l.out;
  listed : AreWantedBySpan l.geometry l.span l.i l.pages;
}

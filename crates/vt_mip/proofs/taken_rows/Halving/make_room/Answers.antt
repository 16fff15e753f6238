use Rattle.std.proofs.Common.{◌+◌, ◌*◌, ◌/◌, ◌≤◌, subst, sym, arith}
use Rattle.vt_ppm.specs.Depths.{texel_length}
use Rattle.vt_mip.specs.TakenRows.{HalvingView, HalvesFront}
use Rattle.vt_mip.proofs.TakenRows.{longer_raster, fewer_rows}
use Rattle.vt_mip.proofs.taken_rows.Halving.make_room.Goals as goal

pub half_size-size-requires-clause-depth : goal.half_size-size-requires-clause-depth
half_size-size-requires-clause-depth c = c.self.invariant.depth

pub half_size-size-requires-clause-few_columns : goal.half_size-size-requires-clause-few_columns
half_size-size-requires-clause-few_columns c = c.self.invariant.few_columns

pub half_size-size-requires-clause-few_rows : goal.half_size-size-requires-clause-few_rows
half_size-size-requires-clause-few_rows c =
    let few = subst (λ (v : HalvingView). v.taken + c.args.count ≤ v.height) (sym c.self.view_is) c.requires.inside in
    omega (arith, few, c.self.invariant.few_rows)

pub lengthen-requires : goal.lengthen-requires
lengthen-requires c =
    let h = c.self.inside in
    let few = subst (λ (v : HalvingView). v.taken + c.args.count ≤ v.height) (sym c.self.view_is) c.requires.inside in
    omega (arith, c.half_size-size.ensures, fewer_rows h.depth h.width (h.taken + c.args.count) h.height few, c.self.invariant.fits)

pub returns-clause-halves : goal.returns-clause-halves
returns-clause-halves c = λ p before.
    let h = c.self.inside in
    let was = subst (HalvesFront p) (sym c.self.view_is) before in
    record {
      depth = was.depth;
      columns = was.columns;
      rows = was.rows;
      raster = longer_raster h.depth h.width h.height ((h.taken + 1) / 2) p.samples h.samples.items c.lengthen.ensures.front.0
          c.lengthen.new.samples.items c.self.invariant.made c.lengthen.ensures.front.1 was.raster;
    }

pub invariant_of-self : goal.invariant_of-self
invariant_of-self c =
    let h = c.self.inside in
    let i = c.self.invariant in
    let few = subst (λ (v : HalvingView). v.taken + c.args.count ≤ v.height) (sym c.self.view_is) c.requires.inside in
    record {
      depth = i.depth;
      some_columns = i.some_columns;
      few_columns = i.few_columns;
      some_rows = i.some_rows;
      few_rows = i.few_rows;
      few = i.few;
      made = omega (arith, c.lengthen.ensures.long, c.half_size-size.ensures, fewer_rows h.depth h.width h.taken (h.taken + c.args.count) (omega arith));
      within = c.lengthen.ensures.within (texel_length h.depth * ((h.width + 1) / 2 * ((h.height + 1) / 2)))
          (omega (arith, c.half_size-size.ensures, fewer_rows h.depth h.width (h.taken + c.args.count) h.height few)) i.within;
      fits = omega (arith, i.fits, c.lengthen.ensures.room);
    }

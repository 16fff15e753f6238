use Rattle.std.proofs.Common.{◌≡◌, ℕ, ◌+◌, ◌*◌, ◌/◌, ◌≤◌, List, length, ap, ◌∙◌, subst, sym, refl, arith}
use Rattle.std.specs.Vec.{with_items}
use Rattle.std.proofs.lemmas.List.{with_items_is}
use Rattle.vt_ppm.specs.Depths.{texel_length}
use Rattle.vt_ppm.specs.Files.{IsPiece}
use Rattle.vt_mip.specs.Halves.{IsHalvedRaster}
use Rattle.vt_mip.specs.TakenRows.{HalvingView, HalvesFront}
use Rattle.vt_mip.proofs.TakenRows.{front_grows, longer_raster, fewer_rows}
use Rattle.vt_mip.proofs.taken_rows.Halving.take.Goals as goal

pub returns-clause-halves : goal.returns-clause-halves
returns-clause-halves g c = λ p before piece.
    let h = c.self.inside in
    let grown = c.lengthen.new.samples in
    let view_of : List ℕ → ℕ → HalvingView = λ l n. record { depth = h.depth; width = h.width; height = h.height; taken = n; samples = l } in
    let Piece : HalvingView → Type 0 = λ a. IsPiece p.samples (texel_length p.depth * (p.width * a.taken)) c.args.rows.now in
    let made = with_items_is grown c.halve_behind.new.samples (c.halve_behind.auto.samples ∙ c.as_mut_slice.ensures.len) in
    let Half : ℕ → List ℕ → List ℕ → Type 0 = λ n source l. IsHalvedRaster h.depth source h.width h.height n l in
    subst (λ (l : List ℕ). HalvesFront p (view_of l (h.taken + c.args.count))) (sym made)
    (front_grows p (view_of h.samples.items h.taken) (view_of c.halve_behind.new.samples (h.taken + c.args.count)) c.args.count c.args.rows.now
    refl refl refl refl
    (λ source there half. c.halve_behind.ensures source there
    (subst (Half ((h.taken + 1) / 2) source) (sym c.as_mut_slice.ensures.value)
    (longer_raster h.depth h.width h.height ((h.taken + 1) / 2) source h.samples.items c.lengthen.ensures.front.0 grown.items c.self.invariant.made
    c.lengthen.ensures.front.1 half)))
    (subst (HalvesFront p) (sym c.self.view_is) before) (subst Piece (sym c.self.view_is) piece))

pub invariant_of-self : goal.invariant_of-self
invariant_of-self g c =
    let h = c.self.inside in
    let i = c.self.invariant in
    let grown = c.lengthen.new.samples in
    let made = with_items_is grown c.halve_behind.new.samples (c.halve_behind.auto.samples ∙ c.as_mut_slice.ensures.len) in
    record {
      depth = i.depth;
      some_columns = i.some_columns;
      few_columns = i.few_columns;
      some_rows = i.some_rows;
      few_rows = i.few_rows;
      few = subst (λ (v : HalvingView). v.taken + c.args.count ≤ v.height) (sym c.self.view_is) c.requires.inside;
      made = (let long : length (with_items grown c.halve_behind.new.samples).items ≡ length grown.items =
          ap length made ∙ c.halve_behind.auto.samples ∙ ap length c.as_mut_slice.ensures.value in
          omega (arith, long, c.lengthen.ensures.long, c.half_size-size.ensures));
      within = (let long : length (with_items grown c.halve_behind.new.samples).items ≡ length grown.items =
          ap length made ∙ c.halve_behind.auto.samples ∙ ap length c.as_mut_slice.ensures.value in
          let most = c.lengthen.ensures.within (texel_length h.depth * ((h.width + 1) / 2 * ((h.height + 1) / 2)))
          (omega (
            arith,
            c.half_size-size.ensures,
            fewer_rows h.depth h.width (h.taken + c.args.count) h.height
                (subst (λ (v : HalvingView). v.taken + c.args.count ≤ v.height) (sym c.self.view_is) c.requires.inside),
          )) i.within in
          omega (arith, long, most));
      fits = omega (arith, i.fits, c.lengthen.ensures.room);
    }

pub half_size-size-requires-clause-depth : goal.half_size-size-requires-clause-depth
half_size-size-requires-clause-depth g c = c.self.invariant.depth

pub half_size-size-requires-clause-few_columns : goal.half_size-size-requires-clause-few_columns
half_size-size-requires-clause-few_columns g c = c.self.invariant.few_columns

pub half_size-size-requires-clause-few_rows : goal.half_size-size-requires-clause-few_rows
half_size-size-requires-clause-few_rows g c =
    let few = subst (λ (v : HalvingView). v.taken + c.args.count ≤ v.height) (sym c.self.view_is) c.requires.inside in
    omega (arith, few, c.self.invariant.few_rows)

pub lengthen-requires : goal.lengthen-requires
lengthen-requires g c =
    let h = c.self.inside in
    let few = subst (λ (v : HalvingView). v.taken + c.args.count ≤ v.height) (sym c.self.view_is) c.requires.inside in
    omega (arith, c.half_size-size.ensures, fewer_rows h.depth h.width (h.taken + c.args.count) h.height few, c.self.invariant.fits)

pub halve_behind-requires-clause-room : goal.halve_behind-requires-clause-room
halve_behind-requires-clause-room g c κs within =
    let long : length c.as_mut_slice.result.now ≡ length c.lengthen.new.samples.items = ap length c.as_mut_slice.ensures.value in
    omega (arith, long, c.lengthen.ensures.long, c.half_size-size.ensures)

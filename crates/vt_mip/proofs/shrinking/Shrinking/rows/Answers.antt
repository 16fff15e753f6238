use Rattle.std.proofs.Common.{ℕ, ◌+◌, ◌-◌, ◌*◌, ◌%◌, length, take, drop, ap, ◌∙◌, subst, arith}
use Rattle.vt_ppm.specs.Depths.{texel_length}
use Rattle.vt_ppm.specs.Files.{IsPiece}
use Rattle.vt_ppm.specs.Image.{ImageView}
use Rattle.vt_mip.specs.InPlace.{ShrinksFront}
use Rattle.vt_mip.specs.TakenRows.{HalvingView}
use Rattle.vt_mip.proofs.InPlace.{rows_inside, shrunk_piece}
use Rattle.vt_mip.proofs.shrinking.Shrinking.rows.Goals as goal

pub slice_bounds-result-end : goal.slice_bounds-result-end
slice_bounds-result-end c = rows_inside c.texel_length.result c.self.inside.depth c.self.inside.width c.self.inside.height c.self.inside.taken c.args.count
    (length c.deref.result.now) c.texel_length.ensures.value (ap length c.deref.ensures.value ∙ c.self.invariant.image.full)
    (let taken = ap (λ v. v.taken) c.self.view_is in let high = ap (λ v. v.height) c.self.view_is in omega (arith, c.requires.inside, taken, high))

pub returns-clause-piece : goal.returns-clause-piece
returns-clause-piece c =
    let h = c.self.inside in
    let inside = rows_inside c.texel_length.result c.self.inside.depth c.self.inside.width c.self.inside.height c.self.inside.taken c.args.count
    (length c.deref.result.now) c.texel_length.ensures.value (ap length c.deref.ensures.value ∙ c.self.invariant.image.full)
    (let taken = ap (λ v. v.taken) c.self.view_is in let high = ap (λ v. v.height) c.self.view_is in omega (arith, c.requires.inside, taken, high)) in
    let z : ℕ = c.texel_length.result in
    let from : ℕ = z * h.width * h.taken in
    let m : ℕ = from + z * h.width * c.args.count - from in
    let v : HalvingView = record { depth = h.depth; width = h.width; height = h.height; taken = h.taken; samples = h.samples.items } in
    let Piece : HalvingView → Type 0 = λ u. (p : ImageView) → ShrinksFront p u
    → IsPiece p.samples (texel_length p.depth * (p.width * u.taken)) (take m (drop from c.deref.result.now)) in
    subst Piece c.self.view_is (λ p front. shrunk_piece p v from m c.deref.result.now c.deref.ensures.value
    (ap (λ (u : HalvingView). u.taken % 2) c.self.view_is ∙ c.requires.even)
    (ap (λ (q : ℕ). q * h.width * h.taken) c.texel_length.ensures.value ∙ omega arith) (omega (arith, inside)) front)

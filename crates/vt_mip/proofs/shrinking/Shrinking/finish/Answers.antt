use Rattle.std.proofs.Common.{ℕ, ◌+◌, ◌*◌, ◌/◌, List, length, sym, ap, ◌∙◌, subst, arith}
use Rattle.vt_ppm.specs.Image.{ImageView}
use Rattle.vt_mip.specs.Halves.{IsHalf}
use Rattle.vt_mip.specs.InPlace.{ShrinksFront}
use Rattle.vt_mip.specs.TakenRows.{HalvingView}
use Rattle.vt_mip.proofs.InPlace.{half_full, shrunk_half}
use Rattle.vt_mip.proofs.shrinking.Shrinking.finish.Goals as goal

pub returns-clause-half : goal.returns-clause-half
returns-clause-half c =
    let h = c.self.inside in
    let v : HalvingView = record { depth = h.depth; width = h.width; height = h.height; taken = h.taken; samples = h.samples.items } in
    let Half : HalvingView → Type 0 = λ u. (p : ImageView) → ShrinksFront p u → IsHalf p c.new.result in
    let image : List ℕ → ImageView = λ l. record { depth = h.depth; width = (h.width + 1) / 2; height = (h.height + 1) / 2; samples = l } in
    subst Half c.self.view_is (λ p front. shrunk_half p c.new.result v
    (c.texel_length.result * ((h.width + 1) / 2 * ((h.height + 1) / 2)))
    (ap (λ (u : HalvingView). u.taken) c.self.view_is ∙ c.requires ∙ sym (ap (λ (u : HalvingView). u.height) c.self.view_is))
    (ap (λ (n : ℕ). n * ((h.width + 1) / 2 * ((h.height + 1) / 2))) c.texel_length.ensures.value)
    (c.new.ensures ∙ ap image c.truncate.ensures.items) front)

pub new-requires : goal.new-requires
new-requires c =
    let h = c.self.inside in
    let i = c.self.invariant.image in
    record {
      depth = i.depth;
      some_columns = omega (arith, i.some_columns);
      few_columns = omega (arith, i.some_columns, i.few_columns);
      some_rows = omega (arith, i.some_rows);
      few_rows = omega (arith, i.some_rows, i.few_rows);
      full = ap length c.truncate.ensures.items ∙ half_full h.depth h.width h.height
          (c.texel_length.result * ((h.width + 1) / 2 * ((h.height + 1) / 2))) h.samples.items i.some_columns i.some_rows
          (ap (λ (n : ℕ). n * ((h.width + 1) / 2 * ((h.height + 1) / 2))) c.texel_length.ensures.value) i.full;
    }

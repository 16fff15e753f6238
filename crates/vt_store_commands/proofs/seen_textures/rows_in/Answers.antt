use Rattle.std.proofs.Common.{◌≡◌, ℕ, ◌*◌, List, length, sym, ap, ap₂, subst, ◌∙◌}
use Rattle.std.proofs.lemmas.List.{with_items_is}
use Rattle.vt_ppm.specs.declared.header.Header.{Header}
use Rattle.vt_ppm.specs.Image.{IsLawfulImage}
use Rattle.vt_ppm.specs.Strips.{row_length}
use Rattle.vt_store_commands.proofs.SeenTextures.{rows_lawful}
use Rattle.vt_store_commands.proofs.seen_textures.rows_in.Goals as goal

pub new-requires : goal.new-requires
new-requires g c =
    let h = c.args.reader.now.header in
    let d = c.depth-depth.result in
    let full : length c.rows.new.out ≡ h.height * row_length h =
    c.rows.auto.out ∙ c.as_mut_slice.ensures.len ∙ c.in_ok-samples.ensures.len
    ∙ ap₂ (λ (m n : ℕ). m * n) (ap (λ (z : Header). z.height) c.header-header.ensures.value)
    (c.row_length.ensures.value ∙ ap row_length c.reserve.ensures.header) in
    let Lawful : Header → List ℕ → Type 0 = λ z l. IsLawfulImage (record { depth = d; width = z.width; height = z.height; samples = l }) in
    subst (λ (l : List ℕ). Lawful c.header-header.result.now l)
    (sym (with_items_is c.in_ok-samples.samples c.rows.new.out (c.rows.auto.out ∙ c.as_mut_slice.ensures.len)))
    (subst (λ (z : Header). Lawful z c.rows.new.out) (sym c.header-header.ensures.value)
    (rows_lawful h d c.rows.new.out c.requires.sides c.depth-depth.ensures.depth c.depth-depth.ensures.value full))

use Rattle.std.proofs.Common.{ℕ, ◌+◌, ◌/◌, refl, sym, ap, ◌∙◌, inl, inr}
use Rattle.vt_ppm.specs.declared.header.Header.{Header}
use Rattle.vt_store_commands.proofs.SeenTextures.{tile_some, two_levels}
use Rattle.vt_store_commands.proofs.seen_textures.seen_in.Goals as goal

pub returns-then-is_one_level-clause-seen : goal.returns-then-is_one_level-clause-seen
returns-then-is_one_level-clause-seen g c =
    let wide = ap (λ (h : Header). h.width) c.header.ensures.value in
    let high = ap (λ (h : Header). h.height) c.header-2.ensures.value in
    let e = c.in_ok-rows_in.ensures in
    record {
      width = wide;
      height = high;
      depth = e.depth;
      sides = inl (refl, e.width ∙ sym wide, e.height ∙ sym high);
      whole = λ none. e.whole;
      half = λ one. absurd (let no : ⊥ = cc in no);
    }

pub returns-clause-seen : goal.returns-clause-seen
returns-clause-seen g c =
    let wide = ap (λ (h : Header). h.width) c.header.ensures.value in
    let high = ap (λ (h : Header). h.height) c.header-2.ensures.value in
    let e = c.in_ok-halve_texture.ensures in
    let larger = c.is_one_level.ensures.larger c.if-is_one_level.false in
    record {
      width = wide;
      height = high;
      depth = e.depth;
      sides = inr (
        refl,
        two_levels c.header.result.now.width c.header-2.result.now.height c.args.tile (tile_some c.args.tile c.requires.tile) larger,
        e.width ∙ ap (λ (n : ℕ). (n + 1) / 2) (sym wide),
        e.height ∙ ap (λ (n : ℕ). (n + 1) / 2) (sym high),
      );
      whole = λ none. absurd (let no : ⊥ = cc in no);
      half = λ one. (e.lawful, e.half);
    }

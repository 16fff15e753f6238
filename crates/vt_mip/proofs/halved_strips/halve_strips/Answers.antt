use Rattle.std.proofs.Common.{◌≡◌, ℕ, ◌+◌, ◌-◌, ◌*◌, ◌<◌, List, take, sym, ap, ◌∙◌, subst, arith}
use Rattle.std.specs.Prelude.{vec_len}
use Rattle.std.proofs.lemmas.List.{with_items_is}
use Rattle.vt_ppm.specs.Files.{IsPiece}
use Rattle.vt_ppm.proofs.UnknownContents.{OnErr-all}
use Rattle.vt_ppm.specs.declared.header.Header.{Header}
use Rattle.vt_ppm.specs.Format.{depth_of}
use Rattle.vt_ppm.specs.Image.{ImageView}
use Rattle.vt_ppm.specs.Strips.{row_length}
use Rattle.vt_ppm.specs.StripPlaces.{strips_of}
use Rattle.vt_mip.specs.TakenRows.{HalvesFront}
use Rattle.vt_mip.specs.HalvedStrips.{IsAtStrip, reader_state, strip_height, strip_length}
use Rattle.vt_mip.proofs.HalvedStrips.{next_lost, at_next, halves_strip}
use Rattle.vt_mip.proofs.halved_strips.halve_strips.Goals as goal

pub returns-in_err-turn-clause-tried : goal.returns-in_err-turn-clause-tried
returns-in_err-turn-clause-tried g c =
    let few : c.loop-strip.strip + 1 < strips_of c.args.reader.now.header strip_height =
    omega (
      arith,
      c.loop-strip-test.true,
      c.strips_in-last.ensures.value,
      c.strips_in-last.ensures.some,
      ap (λ (h : Header). strips_of h strip_height) c.header.ensures.value,
    ) in
    OnErr-all _ _ (next_lost (reader_state g.F.File c.args.reader.now) (reader_state g.F.File c.loop-strip.reader) c.loop-strip.strip c.loop-strip.half
    c.loop-strip.front.items c.loop-strip.invariant.at (reader_state g.F.File c.turn.new.reader) few c.in_err-turn.ensures.asked)

pub loop-strip-preserved : goal.loop-strip-preserved
loop-strip-preserved g c =
    let i = c.loop-strip.invariant in
    let a = reader_state g.F.File c.args.reader.now in
    let b = reader_state g.F.File c.loop-strip.reader in
    let e = reader_state g.F.File c.turn.new.reader in
    let h = c.loop-strip.reader.header in
    let few : c.loop-strip.strip + 1 < strips_of c.args.reader.now.header strip_height =
    omega (
      arith,
      c.loop-strip-test.true,
      c.strips_in-last.ensures.value,
      c.strips_in-last.ensures.some,
      ap (λ (z : Header). strips_of z strip_height) c.header.ensures.value,
    ) in
    let halve = subst (λ (l : List ℕ). (p : ImageView) → HalvesFront p c.loop-strip.half
    → IsPiece p.samples (c.loop-strip.strip * strip_height * row_length h) (take (strip_length h c.loop-strip.strip) l) → HalvesFront p c.turn.new.half)
    c.as_slice.ensures.value c.turn.ensures.halves in
    let items : c.swap.new.x.items ≡ c.turn.new.back =
    ap (λ v. v.items) c.swap.ensures.x_after
    ∙ with_items_is c.loop-strip.back c.turn.new.back (c.turn.auto.back ∙ c.as_mut_slice-in-loop-strip.ensures.len) in
    record {
      at = subst (λ (l : List ℕ). IsAtStrip (c.loop-strip.strip + 1) a e c.turn.new.half l) (sym items)
          (at_next a b c.loop-strip.strip c.loop-strip.half c.loop-strip.front.items i.at e c.turn.new.half c.turn.new.back few
          (c.header.ensures.texture c.requires.checked) c.turn.ensures.kept c.turn.ensures.spare c.in_ok-turn.ensures.asked c.turn.ensures.to halve
          c.in_ok-turn.ensures.holds);
      front = ap vec_len c.swap.ensures.x_after ∙ i.back;
      back = ap vec_len c.swap.ensures.y_after ∙ i.front;
      depth = c.turn.ensures.to.depth ∙ ap (λ (z : Header). depth_of z.maximum) i.at.kept.header ∙ sym c.requires.to.depth;
      width = c.turn.ensures.to.width ∙ ap (λ (z : Header). z.width) i.at.kept.header ∙ sym c.requires.to.width;
      height = c.turn.ensures.to.height ∙ ap (λ (z : Header). z.height) i.at.kept.header ∙ sym c.requires.to.height;
    }

pub returns-clause-halves : goal.returns-clause-halves
returns-clause-halves g c =
    let i = c.loop-strip.invariant in
    let all : c.loop-strip.strip + 1 ≡ strips_of c.args.reader.now.header strip_height =
    omega (
      arith,
      c.loop-strip-test.false,
      c.loop-strip.auto.strip-end,
      c.strips_in-last.ensures.value,
      c.strips_in-last.ensures.some,
      ap (λ (z : Header). strips_of z strip_height) c.header.ensures.value,
    ) in
    let last : c.strips_in-last.result - 1 ≡ c.loop-strip.strip =
    omega (arith, all, c.strips_in-last.ensures.value, ap (λ (z : Header). strips_of z strip_height) c.header.ensures.value) in
    let Halve : Header → ℕ → List ℕ → Type 0 = λ h n l. (p : ImageView) → HalvesFront p c.loop-strip.half
    → IsPiece p.samples (n * strip_height * row_length h) (take (strip_length h n) l) → HalvesFront p c.halve_strip.new.half in
    let halve : Halve c.loop-strip.reader.header c.loop-strip.strip c.loop-strip.front.items =
    subst (λ (n : ℕ). Halve c.loop-strip.reader.header n c.loop-strip.front.items) last
    (subst (λ (h : Header). Halve h (c.strips_in-last.result - 1) c.loop-strip.front.items) c.header-2.ensures.value
    (subst (λ (l : List ℕ). Halve c.header-2.result.now (c.strips_in-last.result - 1) l) c.as_slice-2.ensures.value c.halve_strip.ensures.halves)) in
    halves_strip (reader_state g.F.File c.args.reader.now) (reader_state g.F.File c.loop-strip.reader) c.loop-strip.strip c.loop-strip.half
    c.loop-strip.front.items i.at c.halve_strip.new.half (omega (arith, all)) (c.header.ensures.texture c.requires.checked) halve

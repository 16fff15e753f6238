use Rattle.std.proofs.Common.{◌≡◌, ℕ, ◌+◌, ◌*◌, ◌%◌, ◌<◌, List, ◌∙◌, ap, sym, refl, arith}
use Rattle.vt_lookup.specs.Shots.{pixels_wanting, pixels_in_rows}
use Rattle.vt_definitions.specs.Dealing.{own_count}
use Rattle.vt_sampler.specs.Samplers.{own_rows}
use Rattle.vt_definitions.proofs.Quotients.{rest_small}
use Rattle.vt_definitions.proofs.Dealt.{dealt_within, all_dealt}
use Rattle.vt_sampler.proofs.Sharing.{own_rows-first, own_rows-same, wants-none}
use Rattle.vt_sampler.proofs.rows.draw_rows.Goals as goal

zero_turn : (n k : ℕ) → 0 * n + k ≡ k
zero_turn n k = omega arith

pub draw_all-requires-clause-none : goal.draw_all-requires-clause-none
draw_all-requires-clause-none c =
    let r = c.requires in
    let path = c.args.shot.now.path.now in
    let n : ℕ = c.args.samplers in
    let k : ℕ = c.args.sampler in
    let none : (z : ℕ) → z < 0 * n + k → z % n ≡ k → ⊥ = λ z below own. let one = r.one_of in omega (arith, rest_small n z (omega (arith, below, one)), own) in (
      record {
        shape_is = r.shape;
        root = r.root;
        one_of = r.one_of;
        few = r.few;
        depth_is = r.depth;
        picture_is = r.picture;
        wide = (let a = c.width.ensures.value in let b = c.width.ensures.high in omega (arith, a, b));
        high = (let a = c.height.ensures.value in let b = c.height.ensures.high in omega (arith, a, b));
        line_is = λ i. c.texel_length.ensures.value i * c.width.ensures.value i;
        room = r.bytes;
        pages = r.pages;
        drawn = λ z below own. absurd (none z below own);
        counted = λ p inside.
            r.none p inside
            ∙ sym (ap (λ (rows : List ℕ). pixels_in_rows c.args.shot.now.geometry.now path c.args.shot.now.picture rows p)
            (ap (own_rows k n) (zero_turn n k) ∙ own_rows-first k n r.one_of)
            ∙ wants-none pixels_wanting c.args.shot.now.geometry.now path c.args.shot.now.picture p);
      },
      refl,
    )

pub draw_all-requires-clause-most : goal.draw_all-requires-clause-most
draw_all-requires-clause-most c = c.own_count-most.ensures.value ∙ ap (own_count c.args.sampler c.args.samplers) c.height.ensures.value

pub returns : goal.returns
returns c =
    let r = c.requires in
    let s = c.args.shot.now.geometry.now in
    let path = c.args.shot.now.path.now in
    let picture = c.args.shot.now.picture in
    let n : ℕ = c.args.samplers in
    let k : ℕ = c.args.sampler in
    let count : ℕ = own_count k n path.height in
    let did = c.draw_all.ensures.0 in
    let over = all_dealt k count n path.height path.height count r.one_of refl refl (omega arith) in
    record {
      drawn = λ y inside own. did.drawn y (omega (arith, inside, over)) own;
      counted = λ p inside. did.counted p inside
          ∙ ap (λ (l : List ℕ). pixels_in_rows s path picture l p)
          (own_rows-same k n path.height (count * n + k) over (λ z below own. dealt_within k count n path.height path.height count z r.one_of refl refl
          (omega arith) below own));
      versions = c.draw_all.ensures.1;
      bytes = did.room ∙ sym r.bytes;
      pages = did.pages ∙ sym r.pages;
    }

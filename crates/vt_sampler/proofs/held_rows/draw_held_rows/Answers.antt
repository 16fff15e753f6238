use Rattle.std.proofs.Common.{◌≡◌, ℕ, ◌+◌, ◌*◌, ◌%◌, ◌<◌, List, ◌∙◌, ap, sym, subst, refl, reverse, Some, arith}
use Rattle.std.proofs.lemmas.List.{take_all}
use Rattle.std.proofs.lemmas.Option.{same_Some}
use Rattle.vt_lookup.specs.Shots.{wants_in_rows}
use Rattle.vt_lookup.specs.Tokens.{IsPassOf}
use Rattle.vt_lookup.specs.Values.{PassValue}
use Rattle.vt_lookup.specs.Notes.{HasHeldMore}
use Rattle.vt_sampler.specs.HeldTurns.{HasDrawnHeld}
use Rattle.vt_definitions.specs.Dealing.{own_count}
use Rattle.vt_sampler.specs.Samplers.{own_rows}
use Rattle.vt_definitions.proofs.Quotients.{rest_small}
use Rattle.vt_definitions.proofs.Dealt.{dealt_within, all_dealt}
use Rattle.vt_sampler.proofs.Sharing.{own_rows-first, own_rows-same, wants-none}
use Rattle.vt_sampler.proofs.Holding.{none_held}
use Rattle.vt_sampler.proofs.held_rows.draw_held_rows.Goals as goal

zero_turn : (n k : ℕ) → 0 * n + k ≡ k
zero_turn n k = omega arith

pub draw_all-requires-clause-none : goal.draw_all-requires-clause-none
draw_all-requires-clause-none g c =
    let r = c.requires in
    let path = c.args.shot.now.path.now in
    let n : ℕ = c.args.samplers in
    let k : ℕ = c.args.sampler in
    let none : (z : ℕ) → z < 0 * n + k → z % n ≡ k → ⊥ = λ z below own. let one = r.one_of in omega (arith, rest_small n z (omega (arith, below, one)), own) in
    record {
      first = c.args.pass;
      last = c.args.pass;
      had = refl;
      has = refl;
      may = record {
        of = r.of;
        fits = r.fits;
        rooted = r.rooted;
        own = r.own;
        one_of = r.one_of;
        few = r.few;
        depth_is = r.depth;
        picture_is = r.picture;
        wide = (let a = c.width.ensures.value in let b = c.width.ensures.high in omega (arith, a, b));
        high = (let a = c.height.ensures.value in let b = c.height.ensures.high in omega (arith, a, b));
        line_is = λ i. c.texel_length.ensures.value i * c.width.ensures.value i;
        rows = r.rows;
        room = r.bytes;
        pages = r.pages;
        counted = λ p inside.
            r.none p inside
            ∙ sym (ap (λ (rows : List ℕ). wants_in_rows g.P.Filter.wants c.args.shot.now.geometry.now path c.args.shot.now.picture rows p)
            (ap (own_rows k n) (zero_turn n k) ∙ own_rows-first k n r.one_of)
            ∙ wants-none g.P.Filter.wants c.args.shot.now.geometry.now path c.args.shot.now.picture p);
      };
      held = record {
        holds = none_held c.args.pass.view;
        drawn = λ z below own. absurd (none z below own);
        held = λ z below own. absurd (none z below own);
        rising = λ x z below own_x own_z low. absurd (none z below own_z);
      };
    }

pub draw_all-requires-clause-most : goal.draw_all-requires-clause-most
draw_all-requires-clause-most g c = c.own_count-most.ensures.value ∙ ap (own_count c.args.sampler c.args.samplers) c.height.ensures.value

pub returns : goal.returns
returns g c =
    let r = c.requires in
    let s = c.args.shot.now.geometry.now in
    let path = c.args.shot.now.path.now in
    let picture = c.args.shot.now.picture in
    let n : ℕ = c.args.samplers in
    let k : ℕ = c.args.sampler in
    let count : ℕ = own_count k n path.height in
    let did = c.draw_all.ensures in
    let b = c.draw_all.new.state in
    let q = c.in-Some.pass in
    let is : b.pass ≡ Some q = sym c.replace-pass.ensures.value ∙ c.in-Some.is in
    let last = same_Some did.last q (sym did.has ∙ is) in
    let first = same_Some did.first c.args.pass (sym did.had) in
    let over = all_dealt k count n path.height path.height count r.one_of refl refl (omega arith) in
    let held = subst (λ (z : PassValue × PassValue). HasDrawnHeld g.P.Filter s path picture c.args.shot.now.depth k n count z.0.view z.1.view
    b.versions.items b.bytes.items) (λ j. (first j, last j)) did.held in
    let rows = did.may.rows in
    record {
      of = subst (IsPassOf c.args.words.now) last did.may.of;
      holds = subst (λ (us : List ℕ). HasHeldMore c.args.pass.view q.view (reverse us)) (take_all count b.versions.items (omega (arith, rows))) held.holds;
      drawn = λ y inside own. held.drawn y (omega (arith, inside, over)) own;
      held = λ y inside own. held.held y (omega (arith, inside, over)) own;
      rising = λ y z inside own_y own_z low. held.rising y z (omega (arith, inside, over)) own_y own_z low;
      counted = λ p inside. did.may.counted p inside
          ∙ ap (λ (l : List ℕ). wants_in_rows g.P.Filter.wants s path picture l p)
          (own_rows-same k n path.height (count * n + k) over (λ z below own. dealt_within k count n path.height path.height count z r.one_of refl refl
          (omega arith) below own));
      bytes = did.may.room ∙ sym r.bytes;
      rows = rows ∙ sym r.rows;
      pages = did.may.pages ∙ sym r.pages;
    }

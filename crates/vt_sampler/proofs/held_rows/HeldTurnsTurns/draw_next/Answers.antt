use Rattle.std.proofs.Common.{◌≡◌, ℕ, ◌+◌, List, Some, refl, sym, ◌∙◌, subst}
use Rattle.std.proofs.lemmas.List.{with_items_is}
use Rattle.std.proofs.lemmas.Option.{same_Some}
use Rattle.vt_lookup.specs.Values.{PassValue}
use Rattle.vt_sampler.specs.HeldTurns.{MayDrawTurn, HasDrawnHeld}
use Rattle.vt_sampler.proofs.held_rows.HeldTurnsTurns.draw_next.Goals as goal

pub draw_turn-next-requires-clause-may : goal.draw_turn-next-requires-clause-may
draw_turn-next-requires-clause-may g c =
    let t = c.args.self.now in
    let d = c.requires.drew.1 in
    let is : c.args.state.now.pass ≡ Some c.in-Some.pass = sym c.replace-pass.ensures.value ∙ c.in-Some.is in
    let same = same_Some d.last c.in-Some.pass (sym d.has ∙ is) in
    subst (λ (z : PassValue × List ℕ × List ℕ × List ℕ). MayDrawTurn g.P.Filter t.words.now t.shot.now.geometry.now t.shot.now.path.now
    t.shot.now.picture t.shot.now.depth t.sampler t.samplers t.line c.args.turn z.0 z.1 z.2 z.3)
    (λ j. (same j, sym c.as_mut_slice.ensures.value j, sym c.as_mut_slice-in-Some.ensures.value j, sym c.as_mut_slice-in-Some-2.ensures.value j)) d.may

pub returns-clause-drew : goal.returns-clause-drew
returns-clause-drew g c so a d =
    let t = c.args.self.now in
    let h = c.args.state.now in
    let did = c.draw_turn-next in
    let is : h.pass ≡ Some c.in-Some.pass = sym c.replace-pass.ensures.value ∙ c.in-Some.is in
    let same = same_Some d.last c.in-Some.pass (sym d.has ∙ is) in
    let versions = with_items_is h.versions did.new.versions (did.auto.versions ∙ c.as_mut_slice.ensures.len) in
    let bytes = with_items_is h.bytes did.new.bytes (did.auto.bytes ∙ c.as_mut_slice-in-Some.ensures.len) in
    let counts = with_items_is h.counts did.new.counts (did.auto.counts ∙ c.as_mut_slice-in-Some-2.ensures.len) in
    record {
      first = d.first;
      last = did.result;
      had = d.had;
      has = refl;
      may = subst (λ (z : List ℕ × List ℕ × List ℕ). MayDrawTurn g.P.Filter t.words.now t.shot.now.geometry.now t.shot.now.path.now
          t.shot.now.picture t.shot.now.depth t.sampler t.samplers t.line (c.args.turn + 1) did.result z.0 z.1 z.2)
          (λ j. (sym versions j, sym bytes j, sym counts j)) did.ensures.may;
      held = subst (λ (z : List ℕ × List ℕ). HasDrawnHeld g.P.Filter t.shot.now.geometry.now t.shot.now.path.now t.shot.now.picture
          t.shot.now.depth t.sampler t.samplers (c.args.turn + 1) d.first.view did.result.view z.0 z.1)
          (λ j. (sym versions j, sym bytes j)) (did.ensures.held d.first.view
          (subst (λ (z : PassValue × List ℕ × List ℕ). HasDrawnHeld g.P.Filter t.shot.now.geometry.now t.shot.now.path.now t.shot.now.picture
          t.shot.now.depth t.sampler t.samplers c.args.turn d.first.view z.0.view z.1 z.2)
          (λ j. (same j, sym c.as_mut_slice.ensures.value j, sym c.as_mut_slice-in-Some.ensures.value j)) d.held));
    }

use Rattle.std.proofs.Common.{ℕ, ◌+◌, List, sym, ◌∙◌, subst}
use Rattle.std.proofs.lemmas.List.{with_items_is}
use Rattle.vt_sampler.specs.StillTurns.{HasDrawnStill}
use Rattle.vt_sampler.proofs.rows.StillTurnsTurns.draw_next.Goals as goal

pub draw_turn-requires-clause-drew : goal.draw_turn-requires-clause-drew
draw_turn-requires-clause-drew c =
    let t = c.args.self.now in
    subst (λ (z : List ℕ × List ℕ). HasDrawnStill t.table.now t.shot.now.geometry.now t.shot.now.path.now t.shot.now.picture t.shot.now.depth
    t.sampler t.samplers t.line c.args.turn z.0 z.1)
    (λ j. (sym c.as_mut_slice.ensures.value j, sym c.as_mut_slice-2.ensures.value j)) c.requires.drew.1.0

pub returns-clause-drew : goal.returns-clause-drew
returns-clause-drew c so a d =
    let t = c.args.self.now in
    let h = c.args.state.now in
    let did = c.draw_turn in
    let bytes = with_items_is h.bytes did.new.bytes (did.auto.bytes ∙ c.as_mut_slice.ensures.len) in
    let counts = with_items_is h.counts did.new.counts (did.auto.counts ∙ c.as_mut_slice-2.ensures.len) in (
      subst (λ (z : List ℕ × List ℕ). HasDrawnStill t.table.now t.shot.now.geometry.now t.shot.now.path.now t.shot.now.picture t.shot.now.depth
          t.sampler t.samplers t.line (c.args.turn + 1) z.0 z.1)
          (λ j. (sym bytes j, sym counts j)) did.ensures,
      d.1,
    )

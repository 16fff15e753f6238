use Rattle.std.proofs.Common.{◌≡◌, ◌+◌, ◌∙◌, ap, subst, sym, length, length-append, [], ◌∷◌, arith}
use Rattle.std.specs.Prelude.{All}
use Rattle.std.proofs.lemmas.List.Elements.{All-push}
use Rattle.vt_load.proofs.Dealing.{popped_all}
use Rattle.vt_requests.proofs.asks.give_back.Goals as goal

pub loop-loaded-preserved : goal.loop-loaded-preserved
loop-loaded-preserved c =
    let i = c.loop-loaded.invariant in
    let was = c.in-Some.ensures.some in
    let rest = c.pop.new.self.elements in
    let one = c.in-Some.loaded in
    let fewer : length c.loop-loaded.results.elements ≡ length rest + 1 = ap length was ∙ length-append rest (one ∷ []) in
    let more : length c.push.new.self.elements ≡ length c.loop-loaded.buffers.elements + 1 =
    ap length c.push.ensures.elements ∙ length-append c.loop-loaded.buffers.elements (one.request.buffer ∷ []) in
    record {
      back = (let a = i.back in let b = c.push.ensures.spare in omega (arith, a, b, fewer));
      room = (let a = i.room in let b = c.in-Some.ensures.spare in omega (arith, a, b, fewer));
      count = (let a = i.count in omega (arith, a, fewer, more));
      left = λ n all. (popped_all (λ x. length x.request.buffer.elements ≡ n) c.loop-loaded.results.elements rest one was (i.left n all)).0;
      sizes = λ n all held. subst (λ l. All (λ b. length b.elements ≡ n) l) (sym c.push.ensures.elements)
          (All-push (λ b. length b.elements ≡ n) c.loop-loaded.buffers.elements one.request.buffer (i.sizes n all held)
          (popped_all (λ x. length x.request.buffer.elements ≡ n) c.loop-loaded.results.elements rest one was (i.left n all)).1);
    }

use Rattle.std.proofs.Common.{[], ◌∷◌, ◌++◌, length, reverse, ap, ◌∙◌, arith}
use Rattle.std.proofs.lemmas.List.{length-append}
use Rattle.vt_pass_pool.proofs.MadeSamplers.{turned_more}
use Rattle.vt_pass_pool.proofs.making.turned.Goals as goal

pub loop-item-preserved : goal.loop-item-preserved
loop-item-preserved g c =
    let i = c.loop-item.invariant in
    let was = c.in-Some.ensures.some in
    let rest = c.pop.new.self.elements in
    let item = c.in-Some.item in
    record {
      are = ap (λ l. l ++ reverse rest) c.push.ensures.elements
          ∙ turned_more c.loop-item.made.elements c.loop-item.list.elements rest (reverse c.args.list.elements) item i.are was;
      room = (let fewer = ap length was ∙ length-append rest (item ∷ []) in let r = i.room in let e = c.push.ensures.spare in omega (arith, fewer, r, e));
    }

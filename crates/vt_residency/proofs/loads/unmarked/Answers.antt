use Rattle.std.proofs.Common.{◌≡◌, ℕ, Bool, List, ◌++◌, cond, [], ◌∷◌, get_or, take, sym, ap, ◌∙◌, arith}
use Rattle.vt_evict.specs.PlanTypes.batches.Planned.{Planned}
use Rattle.vt_evict.specs.Batches.{read_entries}
use Rattle.vt_evict.proofs.SettleLemmas.{read_at}
use Rattle.vt_residency.proofs.UnderWay.{read_more}
use Rattle.vt_residency.proofs.loads.unmarked.Goals as goal

pub loop-i-preserved : goal.loop-i-preserved
loop-i-preserved c =
    let loads : List Planned = c.args.loads.now.elements in
    let marks : List Bool = c.args.marks.now.elements in
    let i : ℕ = c.loop-i.i in
    let load : Planned = c.at-in-loop-i.result.now in
    let mark : Bool = c.at.result.now in
    let one : mark ≡ get_or marks i mark = read_at marks i mark c.at.ensures in
    let two : load ≡ get_or loads i load = read_at loads i load c.at-in-loop-i.ensures in
    record {
      left = c.add_unless.ensures.added ∙ ap (λ (l : List Planned). l ++ cond mark [] (load ∷ [])) c.loop-i.invariant.left
          ∙ ap (λ (b : Bool). read_entries (take i loads) (take i marks) ++ cond b [] (load ∷ [])) one
          ∙ ap (λ (e : Planned). read_entries (take i loads) (take i marks) ++ cond (get_or marks i mark) [] (e ∷ [])) two
          ∙ sym (read_more loads marks i load mark (omega (arith, c.loop-i-test.true, c.len-i-end.ensures))
          (omega (arith, c.loop-i-test.true, c.len-i-end.ensures, c.requires)));
      room = omega (arith, c.add_unless.ensures.room, c.loop-i.invariant.room);
    }

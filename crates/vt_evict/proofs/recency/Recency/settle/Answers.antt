use Rattle.std.proofs.Common.{◌≡◌, ℕ, ◌-◌, suc, Bool, List, drop, get_or, subst, sym, arith}
use Rattle.vt_plan.specs.declared.batches.Planned.{Planned}
use Rattle.vt_evict.specs.Batches.{IsSettledByReads, IsLawfulEntry, read_entries}
use Rattle.vt_evict.proofs.SettleLemmas.{settle_step, read_at, nothing_read}
use Rattle.vt_evict.proofs.recency.Recency.settle.Goals as goal

pub loop-left-init : goal.loop-left-init
loop-left-init c = record {
  inside = omega (arith, c.len-left.ensures);
  settled = rw c.len-left.ensures (nothing_read c.args.self.now c.args.batch.now.elements c.args.lost.now.elements);
  table = c.frames-frames.ensures.table;
  lawful = λ i d below. c.requires.lawful.each i d (omega (arith, c.len-left.ensures));
}

pub apply_unless-requires : goal.apply_unless-requires
apply_unless-requires c =
    let at : c.at.result.now ≡ get_or c.args.batch.now.elements (c.loop-left.left - 1) c.at.result.now = read_at c.args.batch.now.elements
    (c.loop-left.left - 1) c.at.result.now c.at.ensures in
    subst (IsLawfulEntry c.loop-left.self) (sym at) (c.loop-left.invariant.lawful (c.loop-left.left - 1) c.at.result.now (omega (arith, c.loop-left-test.true)))

pub loop-left-preserved : goal.loop-left-preserved
loop-left-preserved c =
    let batch : List Planned = c.args.batch.now.elements in
    let lost : List Bool = c.args.lost.now.elements in
    let j : ℕ = c.loop-left.left - 1 in
    let next : suc j ≡ c.loop-left.left = omega (arith, c.loop-left-test.true) in
    let settled : IsSettledByReads c.args.self.now (read_entries (drop (suc j) batch) (drop (suc j) lost)) c.loop-left.self =
    subst (λ (n : ℕ). IsSettledByReads c.args.self.now (read_entries (drop n batch) (drop n lost)) c.loop-left.self) (sym next) c.loop-left.invariant.settled in
    let step = settle_step c.args.self.now c.loop-left.self c.apply_unless.new.self batch lost j c.at.result.now c.at.result.now c.at-is_lost.result.now
    (omega (arith, c.loop-left-test.true, c.loop-left.invariant.inside)) c.requires.lost_for_all
    (read_at lost j c.at-is_lost.result.now c.at-is_lost.ensures) (read_at batch j c.at.result.now c.at.ensures)
    c.requires.lawful c.frames-frames.ensures.table c.loop-left.invariant.table settled
    (λ i d below. c.loop-left.invariant.lawful i d (omega arith)) c.in_ok-apply_unless.ensures.applied in
    record {
      inside = omega (arith, c.loop-left.invariant.inside);
      settled = step.settled;
      table = c.in_ok-apply_unless.ensures.table;
      lawful = step.lawful;
    }

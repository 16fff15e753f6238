use Rattle.std.proofs.Common.{◌≡◌, ℕ, ◌+◌, List, [], ◌∷◌, ◌++◌, map, min, length, length-append, drop, slice_index, None, sym, ap, ◌∙◌, arith}
use Rattle.std.specs.List.{range_with_len}
use Rattle.std.specs.Map.Iter.{deref}
use Rattle.std.proofs.lemmas.Map.Iter.{rest_more, rest_all}
use Rattle.vt_plan.specs.declared.batches.Planned.{Planned}
use Rattle.vt_plan.specs.Entries.{freed_at}
use Rattle.vt_plan.proofs.PlanLemmas.{freed_more, rest_at, none_left}
use Rattle.vt_plan.proofs.plans.put_free.Goals as goal

pub loop-frame-preserved : goal.loop-frame-preserved
loop-frame-preserved c =
    let missing : List ℕ = c.args.missing.now in
    let keys : List ℕ = c.args.free.now.keys in
    let batch : List Planned = c.loop-frame.batch.elements in
    let k : ℕ = length batch in
    let first = c.loop-frame.invariant.rest ∙ rest_more deref c.loop-frame.frame-iterator c.next.new.self c.next.result c.in-Some.frame c.in-Some.is
    c.next.ensures.steps in
    let at = rest_at keys k c.in-Some.frame.now c.next.new.self first in
    let entry : Planned = record { page = slice_index missing c.len-place.result; frame = c.in-Some.frame.now; victim = None } in
    let grown : length c.push.new.self.elements ≡ length batch + 1 = ap length c.push.ensures.elements ∙ length-append batch (entry ∷ []) in
    record {
      put = c.push.ensures.elements ∙ ap (λ (l : List Planned). l ++ entry ∷ []) c.loop-frame.invariant.put
          ∙ freed_more missing keys k (slice_index missing c.len-place.result) c.in-Some.frame.now c.next.new.self first
          (ap (slice_index missing) c.len-place.ensures)
          ∙ ap (λ (n : ℕ). map (freed_at missing keys) (range_with_len 0 n)) (sym grown);
      rest = ap (λ (n : ℕ). drop n keys) grown ∙ at.2;
      most = omega (arith, c.loop-frame.invariant.most, c.if-place-most.false, c.len-place.ensures);
      inside = omega (arith, at.0);
      room = omega (arith, c.loop-frame.invariant.room, c.push.ensures.spare);
    }

pub returns-in-None-clause-count : goal.returns-in-None-clause-count
returns-in-None-clause-count c =
    let e = c.loop-frame.invariant.rest ∙ rest_all deref c.loop-frame.frame-iterator c.next.new.self c.next.result c.in-None.is c.next.ensures.steps in
    let all = none_left c.args.free.now.keys (length c.loop-frame.batch.elements) e in
    omega (arith, c.loop-frame.invariant.most, c.loop-frame.invariant.inside)

pub returns-in-None-clause-put : goal.returns-in-None-clause-put
returns-in-None-clause-put c =
    let e = c.loop-frame.invariant.rest ∙ rest_all deref c.loop-frame.frame-iterator c.next.new.self c.next.result c.in-None.is c.next.ensures.steps in
    let all = none_left c.args.free.now.keys (length c.loop-frame.batch.elements) e in
    let count : length c.loop-frame.batch.elements ≡ min c.args.most (length c.args.free.now.keys) = omega
    (arith, c.loop-frame.invariant.most, c.loop-frame.invariant.inside) in
    c.loop-frame.invariant.put ∙ ap (λ (n : ℕ). map (freed_at c.args.missing.now c.args.free.now.keys) (range_with_len 0 n)) count

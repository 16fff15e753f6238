use Rattle.std.proofs.Common.{arith, ◌≤◌, ℕ, ap, sym, subst}
use mathlib.Core.Logic.{dite}
use native.Mathlib.Decide.{ℕ_discrete}
use Rattle.vt_grace.specs.WriterViews.{floor_of}
use Rattle.vt_streamer.specs.Looks.{IsFirstBehind}
use Rattle.vt_streamer.proofs.Looking.{looked_on, first_behind}
use Rattle.vt_streamer.proofs.looks.reach_all.Goals as goal

pub returns-in-Some-clause-looked : goal.returns-in-Some-clause-looked
returns-in-Some-clause-looked c = looked_on _ _ _ c.loop-sampler.invariant.looked c.reach.ensures.looked

pub returns-in-Some-clause-waiting : goal.returns-in-Some-clause-waiting
returns-in-Some-clause-waiting c = let cause = c.in-Some.ensures.waiting in let inv = c.loop-sampler.invariant in
    let count = ap (λ z. z.samplers) c.requires.of.sizes in let all = c.requires.samplers in let low = c.loop-sampler-test.true in
    subst (λ (k : ℕ). IsFirstBehind c.args.writer.now.view c.reach.new.writer.view c.args.least k c.in-Some.waiting.holds) (sym cause.0)
    (first_behind _ _ _ _ _ _ inv.looked c.reach.ensures.looked (omega arith) inv.reached cause.1)

pub loop-sampler-preserved : goal.loop-sampler-preserved
loop-sampler-preserved c = let inv = c.loop-sampler.invariant in record {
  of = c.reach.ensures.of;
  sound = c.reach.ensures.sound;
  floors = c.reach.ensures.floors;
  looked = looked_on _ _ _ inv.looked c.reach.ensures.looked;
  reached = λ k low. dite (ℕ_discrete k c.loop-sampler.sampler)
      (λ same. let here = c.in_default.ensures.reached in subst (λ (j : ℕ). c.args.least ≤ floor_of c.reach.new.writer.view j) (sym same) here)
      (λ other. let was = inv.reached k (omega arith) in let up = c.reach.ensures.looked.up k in omega arith);
}

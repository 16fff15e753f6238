-- The order of a run's pages is that of their stamps.
use Rattle.std.proofs.Common.{◌≡◌, ◌+◌, List, [], ◌∷◌, length, refl, sym, ap, ◌∙◌, subst, arith}
use Rattle.vt_machine.specs.Stamps.{Stamps, no_stamps, AreAfter, AreBefore, IsByStamps}
use Rattle.vt_machine.proofs.StampLemmas.{order_by_stamps, still_before}
use Rattle.vt_machine.proofs.StampRules.{after_some, after_one, none_before, first_by_stamps}
use Rattle.vt_walk.specs.Fits.{WalkSetup}
use Rattle.vt_walk.specs.Runs.{WalkPass, IsWalkSetup, recency_after, IsWalkRun}
use Rattle.vt_walk_laws.specs.Stamped.{stamping, AreStampsOf}
use Rattle.vt_walk.proofs.Running.{run_kept, batch_is_lawful, wants_inside}

pub stamps_some : (passes : List WalkPass) → (stamps : Stamps) × AreStampsOf passes stamps
stamps_some [] = (no_stamps, refl)
stamps_some (p ∷ passes) = let before = stamps_some passes in let next = after_some before.0 (stamping passes p) in (next.0, (before.0, before.1, next.1))

pub stamps_one : (passes : List WalkPass) (a b : Stamps) → AreStampsOf passes a → AreStampsOf passes b → a ≡ b
stamps_one [] a b one two = one ∙ sym two
stamps_one (p ∷ passes) a b one two =
    let same : one.0 ≡ two.0 = stamps_one passes one.0 two.0 one.1 two.1 in
    after_one two.0 a b (stamping passes p) (subst (λ (s : Stamps). AreAfter s (stamping passes p) a) same one.2) two.2

-- they are of the passes so far, and the order goes by them
record AreInOrder (w : WalkSetup) (passes : List WalkPass) (stamps : Stamps) : Type 0 where
  pub before : AreBefore stamps (length passes + 1)
  pub order : IsByStamps stamps (recency_after w passes).order

stamps_order : (w : WalkSetup) (passes : List WalkPass) (stamps : Stamps) → IsWalkSetup w → IsWalkRun w passes → AreStampsOf passes stamps
    → AreInOrder w passes stamps
stamps_order w [] stamps h run are = record {
  before = subst (λ (s : Stamps). AreBefore s 1) (sym are) (none_before 1);
  order = first_by_stamps w.shape w.frames w.pinned stamps;
}
stamps_order w (p ∷ passes) stamps h run are =
    let was = stamps_order w passes are.0 h run.0 are.1 in
    let kept = run_kept w passes h run.0 in
    let count : length passes + 1 ≡ length (p ∷ passes) = omega arith in
    record {
      before = subst (AreBefore stamps) (ap (λ n. n + 1) count) (still_before are.0 stamps (stamping passes p) are.2 was.before);
      order = order_by_stamps (recency_after w passes) are.0 stamps (stamping passes p) (record {
        table = kept.table;
        order = was.order;
        before = was.before;
        lawful = batch_is_lawful w passes p.batch run.0 kept run.1.planned;
        settled = run.1.settles;
        inside = wants_inside (recency_after w passes).shape w.shape (w.needs p.picture) p.wants kept.shape run.1.wanted;
        after = are.2;
      });
    }

pub order_is_stamped : (w : WalkSetup) (passes : List WalkPass) (stamps : Stamps) → IsWalkSetup w → IsWalkRun w passes → AreStampsOf passes stamps
    → IsByStamps stamps (recency_after w passes).order
order_is_stamped w passes stamps h run are = (stamps_order w passes stamps h run are).order

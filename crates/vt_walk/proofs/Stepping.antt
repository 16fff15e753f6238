-- Which pass comes next.
use Rattle.std.proofs.Common.{◌≡◌, ◌≢◌, ℕ, ◌<◌, ◌≤◌, ◌⊎◌, Bool, inl, inr, List, [], ◌∷◌, length, refl, sym, ap, ◌∙◌, subst, arith}
use Rattle.std.specs.Prelude.{if◌then◌else◌}
use Rattle.std.specs.List.{AllByRecursion}
use Rattle.std.proofs.lemmas.Bool.{cases_lt}
use Rattle.vt_walk_decisions.specs.declared.mode.Mode.{Mode}
use Rattle.vt_walk_decisions.specs.declared.mode.Mode.TheVariants.{Live, Settled}
use Rattle.vt_walk.specs.Fits.{WalkSetup, PictureFits, DoesNotFit}
use Rattle.vt_walk.specs.Runs.{WalkPass, plan_after, Finishes, IsFinished, WalkGoesOn, IsPictureAfter, IsWalkRun}
use Rattle.vt_walk.specs.Logs.{passes_of}
use Rattle.vt_walk.proofs.Showing.{other_number}
use Rattle.vt_walk.proofs.Wholeness.{fits_or_not}

pub live_step : (w : WalkSetup) (p : WalkPass) (passes : List WalkPass) → w.mode ≡ Live → IsWalkRun w (p ∷ passes) → p.picture ≡ length passes
live_step w p [] mode run = run.1.step
live_step w p (q ∷ passes) mode run = pick run.1.step.1 (live_step w q passes mode run.0) where
  finished : IsFinished w q passes
  finished = subst (λ (m : Mode). Finishes m q.batch (plan_after w (q ∷ passes))) (sym mode) tt

  pick : IsPictureAfter (IsFinished w q passes) q.picture p.picture → q.picture ≡ length passes → p.picture ≡ length (q ∷ passes)
  pick (inl next) before = omega (arith, next.1, before)
  pick (inr same) before = absurd (same.0 finished)

pub settled_step : (w : WalkSetup) (p q : WalkPass) (passes : List WalkPass) → w.mode ≡ Settled → IsWalkRun w (p ∷ q ∷ passes) → p.picture ≢ q.picture
    → p.batch ≡ []
settled_step w p q passes mode run other = pick run.1.step.1 where
  pick : IsPictureAfter (IsFinished w q passes) q.picture p.picture → p.batch ≡ []
  pick (inl next) = let done : Finishes Settled q.batch (plan_after w (q ∷ passes)) = subst
      (λ (m : Mode). Finishes m q.batch (plan_after w (q ∷ passes))) mode next.0 in
      run.1.planned ∙ done.1
  pick (inr same) = absurd (other same.1)

pub first_step : (w : WalkSetup) (p : WalkPass) → IsWalkRun w (p ∷ []) → (p.picture ≡ 0) × (p.batch ≡ [])
first_step w p run = (run.1.step, run.1.planned)

fits_before : (w : WalkSetup) (p q : WalkPass) (passes : List WalkPass) → w.mode ≡ Settled → IsWalkRun w (p ∷ q ∷ passes) → PictureFits w q.picture
fits_before w p q passes mode run = let goes : WalkGoesOn Settled w q = subst (λ (m : Mode). WalkGoesOn m w q) mode run.1.step.0 in goes.1

-- the pictures before the newest one fit
pub earlier_fit : (w : WalkSetup) (p : WalkPass) (passes : List WalkPass) (k : ℕ) → w.mode ≡ Settled → IsWalkRun w (p ∷ passes) → k < p.picture → PictureFits w k
earlier_fit w p [] k mode run below = absurd (let first = run.1.step in omega (arith, first, below))
earlier_fit w p (q ∷ passes) k mode run below = pick run.1.step.1 (earlier_fit w q passes k mode run.0) where
  last : PictureFits w q.picture
  last = fits_before w p q passes mode run

  at : (k < q.picture → PictureFits w k) → k ≤ q.picture → (k < q.picture) ⊎ (q.picture ≤ k) → PictureFits w k
  at before most (inl earlier) = before earlier
  at before most (inr least) = let same : q.picture ≡ k = omega (arith, most, least) in subst (PictureFits w) same last

  pick : IsPictureAfter (IsFinished w q passes) q.picture p.picture → (k < q.picture → PictureFits w k) → PictureFits w k
  pick (inl next) before = at before (omega (arith, next.1, below)) (cases_lt k q.picture)
  pick (inr same) before = before (omega (arith, same.1, below))

each_fits : (w : WalkSetup) (p : WalkPass) (passes : List WalkPass) → w.mode ≡ Settled → IsWalkRun w (p ∷ passes) → AllByRecursion (λ q. PictureFits w q.picture) passes
each_fits w p [] mode run = tt
each_fits w p (q ∷ passes) mode run = (fits_before w p q passes mode run, each_fits w q passes mode run.0)

no_passes : (w : WalkSetup) (k n : ℕ) (passes : List WalkPass) → DoesNotFit w k n → AllByRecursion (λ q. PictureFits w q.picture) passes → passes_of k passes ≡ []
no_passes w k n [] d all = refl
no_passes w k n (q ∷ passes) d all =
    let other : q.picture ≢ k = λ same. fits_or_not w k n (subst (PictureFits w) same all.0) d in
    ap (λ (b : Bool). if b then q ∷ passes_of k passes else passes_of k passes) (other_number q.picture k other) ∙ no_passes w k n passes d all.1

-- a picture that does not fit has no second pass
pub unfit_first : (w : WalkSetup) (p : WalkPass) (passes : List WalkPass) (n : ℕ) → w.mode ≡ Settled → IsWalkRun w (p ∷ passes) → DoesNotFit w p.picture n
    → passes_of p.picture passes ≡ []
unfit_first w p passes n mode run d = no_passes w p.picture n passes d (each_fits w p passes mode run)

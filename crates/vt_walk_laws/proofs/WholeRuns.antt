-- Whole settled runs of a walk have one number of passes, and ask for one number of tiles.
use Rattle.std.proofs.Common.{◌≡◌, ℕ, ◌<◌, ◌≤◌, ◌⊎◌, inl, inr, List, [], ◌∷◌, length, refl, sym, ap, ◌∙◌, subst, length-append, arith}
use Rattle.std.proofs.lemmas.Bool.{cases_lt}
use Rattle.vt_walk.specs.FeedbackTypes.Wanted.{Wanted}
use Rattle.vt_walk.specs.Wants.{IsWants}
use Rattle.vt_machine.specs.PlanTypes.batches.Planned.{Planned}
use Rattle.vt_walk.specs.Views.{RecencyView, touched}
use Rattle.vt_machine.specs.Batches.{IsSettledByReads}
use Rattle.vt_walk.specs.Plans.{plan_of}
use Rattle.vt_machine.specs.Outcomes.{lost_count}
use Rattle.vt_walk.specs.WalkDecisionsTypes.mode.Mode.TheVariants.{Settled}
use Rattle.vt_walk.specs.Fits.{WalkSetup}
use Rattle.vt_walk.specs.Runs.{WalkPass, recency_after, plan_after, planned_in, Finishes, IsFinished, IsPictureAfter, IsStepOf, IsNextPass, IsWalkRun, IsWhole}
use Rattle.vt_walk.specs.Logs.{reads_of}
use Rattle.vt_walk.proofs.Finishing.{wants_one}
use Rattle.vt_walk.proofs.Settling.{settled_one}
use Rattle.vt_walk_laws.proofs.Loading.{read_all, fits_of}

-- nothing was lost in the newest pass
abbrev LostNone : List WalkPass → Type 0
LostNone [] = Unit {0}
LostNone (p ∷ passes) = lost_count p.losses ≡ 0

none_lost : (w : WalkSetup) (passes : List WalkPass) (picture : ℕ) → w.mode ≡ Settled → IsStepOf w passes picture → LostNone passes
none_lost w [] picture mode step = tt
none_lost w (p ∷ passes) picture mode step = (fits_of w p mode step.0).0

-- two beginnings of runs after which the same is done
record AreAlike (w : WalkSetup) (a b : List WalkPass) : Type 0 where
  pub recency : recency_after w a ≡ recency_after w b
  pub plan : plan_after w a ≡ plan_after w b
  pub planned : length (planned_in a) ≡ length (planned_in b)
  pub step : (m n : ℕ) → IsStepOf w a m → IsStepOf w b n → m ≡ n

same_step : {F G : Type 0} (p q m n : ℕ) → (F → G) → (G → F) → p ≡ q → IsPictureAfter F p m → IsPictureAfter G q n → m ≡ n
same_step p q m n to from same (inl x) (inl y) = let u = x.1 in let v = y.1 in omega (arith, u, v, same)
same_step p q m n to from same (inr x) (inr y) = let u = x.1 in let v = y.1 in omega (arith, u, v, same)
same_step p q m n to from same (inl x) (inr y) = absurd (y.0 (to x.0))
same_step p q m n to from same (inr x) (inl y) = absurd (x.0 (from y.0))

alike_more : (w : WalkSetup) (p q : WalkPass) (a b : List WalkPass) → AreAlike w a b → IsNextPass w a p → IsNextPass w b q
    → lost_count p.losses ≡ 0 → lost_count q.losses ≡ 0 → AreAlike w (p ∷ a) (q ∷ b)
alike_more w p q a b h x y none none_too = record {
  recency = recency;
  plan = plan;
  planned = let n = ap (λ (l : List Planned). length l) batch in let m = h.planned in
      omega (arith, length-append p.batch (planned_in a), length-append q.batch (planned_in b), n, m);
  step = λ m n s t. same_step p.picture q.picture m n to from picture s.1 t.1;
} where
  picture : p.picture ≡ q.picture
  picture = h.step p.picture q.picture x.step y.step

  batch : p.batch ≡ q.batch
  batch = x.planned ∙ h.plan ∙ sym y.planned

  wants : p.wants ≡ q.wants
  wants = wants_one w.shape (w.needs p.picture) p.wants q.wants x.wanted
      (subst (λ k. IsWants w.shape (w.needs k) q.wants) (sym picture) y.wanted)

  settled : p.settled ≡ q.settled
  settled = settled_one (recency_after w a) p.settled q.settled p.batch
      (subst (λ (r : List Planned). IsSettledByReads (recency_after w a) r p.settled) (read_all p.batch p.losses x.outcome.reported none) x.settles)
      (subst (λ (v : RecencyView). IsSettledByReads v p.batch q.settled) (sym h.recency)
      (subst (λ (r : List Planned). IsSettledByReads (recency_after w b) r q.settled) (read_all q.batch q.losses y.outcome.reported none_too ∙ sym batch) y.settles))

  recency : recency_after w (p ∷ a) ≡ recency_after w (q ∷ b)
  recency = ap (λ (v : RecencyView). touched v p.wants) settled ∙ ap (λ (ws : List Wanted). touched q.settled ws) wants

  plan : plan_after w (p ∷ a) ≡ plan_after w (q ∷ b)
  plan = ap (λ (v : RecencyView). plan_of v p.wants w.most) recency ∙ ap (λ (ws : List Wanted). plan_of (recency_after w (q ∷ b)) ws w.most) wants

  to : IsFinished w p a → IsFinished w q b
  to f = subst (λ (l : List Planned). Finishes w.mode l (plan_after w (q ∷ b))) batch (subst (λ (l : List Planned). Finishes w.mode p.batch l) plan f)

  from : IsFinished w q b → IsFinished w p a
  from f = subst (λ (l : List Planned). Finishes w.mode l (plan_after w (p ∷ a))) (sym batch)
      (subst (λ (l : List Planned). Finishes w.mode q.batch l) (sym plan) f)

-- as many passes of two runs are alike
alike : (w : WalkSetup) (a b : List WalkPass) → w.mode ≡ Settled → IsWalkRun w a → IsWalkRun w b → LostNone a → LostNone b → length a ≡ length b → AreAlike w a b
alike w [] [] mode x y none none_too count = record { recency = refl; plan = refl; planned = refl; step = λ m n s t. s ∙ sym t }
alike w [] (q ∷ b) mode x y none none_too count = absurd (omega (arith, count))
alike w (p ∷ a) [] mode x y none none_too count = absurd (omega (arith, count))
alike w (p ∷ a) (q ∷ b) mode x y none none_too count =
    alike_more w p q a b
    (alike w a b mode x.0 y.0 (none_lost w a p.picture mode x.1.step) (none_lost w b q.picture mode y.1.step) (omega (arith, count)))
    x.1 y.1 none none_too

-- after a whole run the picture past the last one would come next
whole_step : (w : WalkSetup) (a : List WalkPass) → IsWhole w a → IsStepOf w a w.pictures
whole_step w [] whole = whole
whole_step w (p ∷ a) whole = (whole.0, inl (whole.1, sym whole.2))

-- the first so many passes of a run, and the one after them
front : (w : WalkSetup) (b : List WalkPass) (n : ℕ) → IsWalkRun w b → n < length b
    → (q : WalkPass) × (rest : List WalkPass) × IsWalkRun w (q ∷ rest) × (length rest ≡ n)
front w [] n run below = absurd (omega (arith, below))
front w (q ∷ b) n run below = pick (cases_lt n (length b)) (front w b n run.0) where
  pick : (n < length b) ⊎ (length b ≤ n) → (n < length b → (q : WalkPass) × (rest : List WalkPass) × IsWalkRun w (q ∷ rest) × (length rest ≡ n))
      → (q : WalkPass) × (rest : List WalkPass) × IsWalkRun w (q ∷ rest) × (length rest ≡ n)
  pick (inl less) more = more less
  pick (inr most) more = (q, b, run, omega (arith, most, below))

-- no run has more passes than a whole one
not_longer : (w : WalkSetup) (a b : List WalkPass) → w.mode ≡ Settled → IsWalkRun w a → IsWalkRun w b → IsWhole w a → length a < length b → ⊥
not_longer w a b mode x y whole below =
    let f = front w b (length a) y below in
    let none = none_lost w a w.pictures mode (whole_step w a whole) in
    let none_too = none_lost w f.1 f.0.picture mode f.2.1.step in
    let h = alike w a f.1 mode x f.2.0 none none_too (sym f.3) in
    let same = h.step w.pictures f.0.picture (whole_step w a whole) f.2.1.step in
    let inside = f.2.1.of_path in omega (arith, same, inside)

pub passes_are_one : (w : WalkSetup) (a b : List WalkPass) → w.mode ≡ Settled → IsWalkRun w a → IsWalkRun w b → IsWhole w a → IsWhole w b → length a ≡ length b
passes_are_one w a b mode x y whole whole_too = pick (cases_lt (length a) (length b)) (cases_lt (length b) (length a)) where
  pick : (length a < length b) ⊎ (length b ≤ length a) → (length b < length a) ⊎ (length a ≤ length b) → length a ≡ length b
  pick (inl less) other = absurd (not_longer w a b mode x y whole less)
  pick (inr most) (inl less) = absurd (not_longer w b a mode y x whole_too less)
  pick (inr most) (inr least) = omega (arith, most, least)

pub reads_are_one : (w : WalkSetup) (a b : List WalkPass) → w.mode ≡ Settled → IsWalkRun w a → IsWalkRun w b → IsWhole w a → IsWhole w b → reads_of w a ≡ reads_of w b
reads_are_one w a b mode x y whole whole_too =
    let none = none_lost w a w.pictures mode (whole_step w a whole) in
    let none_too = none_lost w b w.pictures mode (whole_step w b whole_too) in
    let h = (alike w a b mode x y none none_too (passes_are_one w a b mode x y whole whole_too)).planned in omega (arith, h)

-- Workers of a pass, by what is shared and by its job, whichever name these have.
use Rattle.std.proofs.Common.{◌≡◌, List, sym, subst}
use Rattle.vt_machine.specs.Jobs.{Job}
use Rattle.vt_machine.specs.All.{AllReady, AllDid}

-- what may begin before what is shared is lent, said of what is lent
module _ {S W : Type 0} (ready : S → Job → W → Type 0) (s t : S) (i j : Job) (shared : s ≡ t) (job : i ≡ j) where
  pub one_ready : (v : W) → ready t j v → ready s i v
  one_ready v h = subst (λ x. ready x i v) (sym shared) (subst (λ k. ready t k v) (sym job) h)

  pub all_ready : (xs : List W) → AllReady (ready t j) xs → AllReady (ready s i) xs
  all_ready xs h = subst (λ x. AllReady (ready x i) xs) (sym shared) (subst (λ k. AllReady (ready t k) xs) (sym job) h)

-- what was done, said of what was shared before it was lent
module _ {S W : Type 0} (did : S → Job → W → W → Type 0) (s t : S) (i j : Job) (shared : s ≡ t) (job : i ≡ j) where
  pub one_did : (v w : W) → did s i v w → did t j v w
  one_did v w h = subst (λ x. did x j v w) shared (subst (λ k. did s k v w) job h)

  pub all_did : (xs ws : List W) → AllDid (did s i) xs ws → AllDid (did t j) xs ws
  all_did xs ws h = subst (λ x. AllDid (did x j) xs ws) shared (subst (λ k. AllDid (did s k) xs ws) job h)

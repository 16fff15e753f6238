-- Workers that were laid on desks, and are back in their list.
use Rattle.std.proofs.Common.{◌≡◌, zero, suc, List, [], ◌∷◌, ◌++◌, length, sym, subst, arith}
use Rattle.vt_outside.specs.Lists.{ListView}
use Rattle.vt_pictures.specs.DrawTypes.shots.Shot.{Shot}
use Rattle.vt_evict.specs.PlanTypes.batches.Planned.{Planned}
use Rattle.vt_crew.specs.declared.ends.Pending.{Pending}
use Rattle.vt_machine.specs.Jobs.{Job, job_of}
use Rattle.vt_machine.specs.All.{AllReady, AllDid}
use Rattle.vt_machine.specs.Roles.{HasWorked, HaveWorked, IsLoader, IsSampler, AreRest, IsRoleDone, IsLaid, IsLastLaid}
use Rattle.vt_machine.specs.declared.lent_worker.LentWorker.{LentWorker}
use Rattle.vt_machine.specs.declared.lent_worker.Role.{Role}
use Rattle.vt_machine.specs.declared.lent_worker.Role.TheVariants.{Loader, Sampler, Rest}
use Rattle.vt_machine.proofs.Halves.{high_ready, both_did}

module _ {S L M : Type 0} (loads : S → Job → L → Type 0) (loaded : S → Job → L → L → Type 0) (draws : S → Job → M → Type 0)
    (drawn : S → Job → M → M → Type 0) (s : S) (shot : Shot) where
  -- what a loader became is one
  pub stays_loader : (l : L) (role : Role L M) → IsRoleDone loads loaded draws drawn s shot (Loader l) role → IsLoader role
  stays_loader l (Loader k) done = tt
  stays_loader l (Sampler m) done = done
  stays_loader l (Rest xs) done = done

  pub stays_sampler : (m : M) (role : Role L M) → IsRoleDone loads loaded draws drawn s shot (Sampler m) role → IsSampler role
  stays_sampler m (Loader k) done = done
  stays_sampler m (Sampler n) done = tt
  stays_sampler m (Rest xs) done = done

  pub stay_rest : (xs : ListView M) (role : Role L M) → IsRoleDone loads loaded draws drawn s shot (Rest xs) role → AreRest role
  stay_rest xs (Loader k) done = done
  stay_rest xs (Sampler n) done = done
  stay_rest xs (Rest ys) done = tt

  pub loader_worked : (l k : L) (role : Role L M) → IsRoleDone loads loaded draws drawn s shot (Loader l) role → Loader k ≡ role
      → HasWorked loads loaded s shot l k
  loader_worked l k role done same = subst (λ r. IsRoleDone loads loaded draws drawn s shot (Loader l) r) (sym same) done

  pub sampler_worked : (m n : M) (role : Role L M) → IsRoleDone loads loaded draws drawn s shot (Sampler m) role → Sampler n ≡ role
      → HasWorked draws drawn s shot m n
  sampler_worked m n role done same = subst (λ r. IsRoleDone loads loaded draws drawn s shot (Sampler m) r) (sym same) done

  pub rest_worked : (xs ys : ListView M) (role : Role L M) → IsRoleDone loads loaded draws drawn s shot (Rest xs) role → Rest ys ≡ role
      → HaveWorked draws drawn s shot xs ys
  rest_worked xs ys role done same = subst (λ r. IsRoleDone loads loaded draws drawn s shot (Rest xs) r) (sym same) done

-- the last worker of a list may begin where each may
last_ready : {W : Type 0} (ready : W → Type 0) (xs a : List W) (x : W) → xs ≡ a ++ x ∷ [] → AllReady ready xs → ready x
last_ready ready xs a x parts each = high_ready ready xs a (x ∷ []) parts each 0 x (omega arith)

one_did : {W : Type 0} (did : W → W → Type 0) (x y : W) → did x y → AllDid did (x ∷ []) (y ∷ [])
one_did did x y worked zero d inside = worked
one_did did x y worked (suc k) d inside = absurd (omega (arith, inside))

-- all but the last worker have worked, and it has
last_did : {W : Type 0} (did : W → W → Type 0) (xs a b ys : List W) (x y : W) → xs ≡ a ++ x ∷ [] → ys ≡ b ++ y ∷ [] → length b ≡ length a
    → AllDid did a b → did x y → AllDid did xs ys
last_did did xs a b ys x y before after same most last =
    subst (λ l. AllDid did xs l) (sym after) (both_did did xs a (x ∷ []) b (y ∷ []) before same most (one_did did x y last))

-- those that stayed in the list have worked, and the last one is back: so all have worked
module _ {S W L M G : Type 0} (ready : S → Job → W → Type 0) (did : S → Job → W → W → Type 0) (s : S) (shot : Shot) (role_as : W → Role L M)
    (batch : List Planned) (before after : ListView W) (pending : Pending (LentWorker S L M G))
    (laid : IsLastLaid role_as s shot before after pending) where
  pub all_back : (last new : List W) (back : W) → AllReady (ready s (job_of shot batch)) before.elements
      → AllDid (did s (job_of shot batch)) after.elements last → length last ≡ length after.elements
      → ((w : W) → IsLaid s shot (role_as w) pending → HasWorked ready did s shot w back) → new ≡ last ++ back ∷ []
      → AllDid (did s (job_of shot batch)) before.elements new
  all_back last new back each most same worked is =
      last_did (did s (job_of shot batch)) before.elements after.elements last new laid.0 back laid.2 is same most
      (worked laid.0 laid.1 batch (last_ready (ready s (job_of shot batch)) before.elements after.elements laid.0 laid.2 each))

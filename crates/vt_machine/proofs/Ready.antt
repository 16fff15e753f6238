-- What a machine has both between its passes and once one is prepared.
use Rattle.std.proofs.Common.{◌≡◌, Option, None, List, subst, ⊎_elim}
use Rattle.vt_evict.specs.PlanTypes.batches.Planned.{Planned}
use Rattle.vt_machine.specs.Machines.{IsIdleOrReady}

-- a part is there that a machine needs for both
pub part_is_there : {A : Type 0} (idle : Option A → Type 0) (ready : Option A → List Planned → Type 0) (part : Option A) → part ≡ None → (idle None → ⊥)
    → ((batch : List Planned) → ready None batch → ⊥) → IsIdleOrReady (idle part) (ready part) → ⊥
part_is_there idle ready part gone not_idle not_ready = ⊎_elim (λ is. not_idle (subst idle gone is))
    (λ is. not_ready is.0 (subst (λ (x : Option _). ready x is.0) gone is.1))

-- A worker of a pass that may go to a hand, and what is known of it there.
use Rattle.std.specs.Prelude.{◌≡◌, ◌+◌, ◌≤◌, List, [], ◌∷◌, ◌++◌, length}
use Rattle.std.specs.Arc.{arc_value}
use Rattle.vt_outside.specs.Lists.{ListView}
use Rattle.vt_pictures.specs.DrawTypes.shots.Shot.{Shot}
use Rattle.vt_evict.specs.PlanTypes.batches.Planned.{Planned}
use Rattle.vt_crew.specs.declared.ends.Pending.{Pending}
use Rattle.vt_crew.specs.Pendings.{IsJobOf}
use Rattle.vt_machine.specs.Jobs.{Job, job_of}
use Rattle.vt_machine.specs.All.{AllReady, AllDid}
use Rattle.vt_machine.specs.declared.lent_worker.LentWorker.{LentWorker}
use Rattle.vt_machine.specs.declared.lent_worker.Role.{Role}
use Rattle.vt_machine.specs.declared.lent_worker.Role.TheVariants.{Loader, Sampler, Rest}

-- it may begin, for some batch
abbrev pub MayBegin : {S W : Type 0} → (S → Job → W → Type 0) → S → Shot → W → Type 0
MayBegin ready s shot w = (batch : List Planned) × ready s (job_of shot batch) w

-- it has worked, for each batch for which it might begin
abbrev pub HasWorked : {S W : Type 0} → (S → Job → W → Type 0) → (S → Job → W → W → Type 0) → S → Shot → W → W → Type 0
HasWorked ready did s shot v w = (batch : List Planned) → ready s (job_of shot batch) v → did s (job_of shot batch) v w

-- each worker of a list may begin, for one batch
abbrev pub AllBegin : {S W : Type 0} → (S → Job → W → Type 0) → S → Shot → List W → Type 0
AllBegin ready s shot workers = (batch : List Planned) × AllReady (ready s (job_of shot batch)) workers

-- each worker of a list has worked, for each batch for which all might begin, and the list has the same number and no less room
abbrev pub HaveWorked : {S W : Type 0} → (S → Job → W → Type 0) → (S → Job → W → W → Type 0) → S → Shot → ListView W → ListView W → Type 0
HaveWorked ready did s shot before after = ((batch : List Planned) → AllReady (ready s (job_of shot batch)) before.elements
    → AllDid (did s (job_of shot batch)) before.elements after.elements)
    × (length after.elements ≡ length before.elements) × (before.spare ≤ after.spare)

module _ {L M : Type 0} where
  -- a worker is a loader
  abbrev pub IsLoader : Role L M → Type 0
  IsLoader (Loader l) = Unit {0}
  IsLoader (Sampler m) = ⊥
  IsLoader (Rest xs) = ⊥

  -- a worker is a sampler
  abbrev pub IsSampler : Role L M → Type 0
  IsSampler (Loader l) = ⊥
  IsSampler (Sampler m) = Unit {0}
  IsSampler (Rest xs) = ⊥

  -- workers are several samplers
  abbrev pub AreRest : Role L M → Type 0
  AreRest (Loader l) = ⊥
  AreRest (Sampler m) = ⊥
  AreRest (Rest xs) = Unit {0}

module _ {S L M : Type 0} (loads : S → Job → L → Type 0) (draws : S → Job → M → Type 0) (s : S) (shot : Shot) where
  -- a worker may begin
  abbrev pub IsRoleReady : Role L M → Type 0
  IsRoleReady (Loader l) = MayBegin loads s shot l
  IsRoleReady (Sampler m) = MayBegin draws s shot m
  IsRoleReady (Rest xs) = AllBegin draws s shot xs.elements

module _ {S L M : Type 0} (loads : S → Job → L → Type 0) (loaded : S → Job → L → L → Type 0) (draws : S → Job → M → Type 0)
    (drawn : S → Job → M → M → Type 0) (s : S) (shot : Shot) where
  -- a worker has worked, and is what it was before: a loader, a sampler, or several
  abbrev pub IsRoleDone : Role L M → Role L M → Type 0
  IsRoleDone (Loader l) (Loader k) = HasWorked loads loaded s shot l k
  IsRoleDone (Loader l) (Sampler m) = ⊥
  IsRoleDone (Loader l) (Rest xs) = ⊥
  IsRoleDone (Sampler m) (Loader l) = ⊥
  IsRoleDone (Sampler m) (Sampler n) = HasWorked draws drawn s shot m n
  IsRoleDone (Sampler m) (Rest xs) = ⊥
  IsRoleDone (Rest xs) (Loader l) = ⊥
  IsRoleDone (Rest xs) (Sampler m) = ⊥
  IsRoleDone (Rest xs) (Rest ys) = HaveWorked draws drawn s shot xs ys

-- on a desk lies a worker with what it is to use
abbrev pub IsLaid : {S L M G : Type 0} → S → Shot → Role L M → Pending (LentWorker S L M G) → Type 0
IsLaid {S} {L} {M} {G} s shot role pending = (lent : LentWorker S L M G) × IsJobOf lent pending × (lent.role ≡ role) × (arc_value lent.shared ≡ s) × (lent.shot ≡ shot)

-- a list has the same elements, and no less room
abbrev pub IsSameList : {W : Type 0} → ListView W → ListView W → Type 0
IsSameList before after = (after.elements ≡ before.elements) × (before.spare ≤ after.spare)

-- the last worker of a list lies on a desk, and its place in the list is free
abbrev pub IsLastLaid : {S L M G W : Type 0} → (W → Role L M) → S → Shot → ListView W → ListView W → Pending (LentWorker S L M G) → Type 0
IsLastLaid {S} {L} {M} {G} {W} role_as s shot before after pending =
    (worker : W) × IsLaid s shot (role_as worker) pending × (before.elements ≡ after.elements ++ worker ∷ []) × (after.spare ≡ before.spare + 1)

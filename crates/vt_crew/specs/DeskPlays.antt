-- What each step on a desk shows the end that makes it: by the end before, the word that was found, and the end after.
use Rattle.std.specs.Prelude.{◌≡◌, ◌==◌, ℕ, List, [], ◌∷◌, Option, Some, None, MatchBool, IfSome}
use Rattle.vt_crew.specs.declared.views.DeskView.TheVariants.{Free, Working}
use Rattle.vt_crew.specs.DeskPhases.{with_hand, with_caller, when_over}
use Rattle.vt_crew.specs.DeskEnds.{Seated, IsFreeEnd, WaitsFor, IsIdleEnd, HasLeftDesk}

module _ {J : Type 0} where
  -- the caller took the slot for the first time
  abbrev pub TakesSlot : Seated J → Type 0
  TakesSlot n = IsFreeEnd n

  -- what is in the slot that an end has
  abbrev pub job_in : List (ℕ × Option J) → Option J
  job_in [] = None
  job_in (x ∷ xs) = x.1

  -- the caller laid a job down, and waits for it
  abbrev pub LaysJob : Seated J → Seated J → Type 0
  LaysJob m n = IfSome (job_in m.1) (λ j. WaitsFor j n)

  -- the hand looked: there is a job, which it has taken and which may be done, or the caller has left and so has it, or nothing came
  abbrev pub FindsJob : (J → Type 0) → Seated J → ℕ → Seated J → Type 0
  FindsJob ready m r n =
      MatchBool (r == with_hand) ((j : J) × (n ≡ (Working j, (0, Some j) ∷ [])) × ready j) (MatchBool (r == when_over) (HasLeftDesk n) (n ≡ m))

  -- the hand laid the job back
  abbrev pub TellsDone : Seated J → Type 0
  TellsDone n = IsIdleEnd n

  -- the caller asked for its job: no hand has begun it, and it has taken it back as it was, and it may be done; or it was done, and it has taken
  -- what became of it; or a hand is at it, and it still waits
  abbrev pub TakesBack : (J → Type 0) → (J → J → Type 0) → Seated J → ℕ → Seated J → Type 0
  TakesBack ready did m r n =
      MatchBool (r == with_hand) ((j : J) × (n ≡ (Free, (0, Some j) ∷ [])) × WaitsFor j m × ready j)
      (MatchBool (r == with_caller) ((k : J) × (n ≡ (Free, (0, Some k) ∷ [])) × ((j : J) → WaitsFor j m → did j k)) (n ≡ m))

  -- the caller left
  abbrev pub LeavesDesk : Seated J → Type 0
  LeavesDesk n = HasLeftDesk n

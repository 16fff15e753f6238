-- What a hand finds on its desk.
use Rattle.vt_crew.specs.declared.hand.Found.{Found}
use Rattle.vt_crew.specs.declared.hand.Found.TheVariants.{Job, Nothing, Over}
use Rattle.vt_crew.specs.DeskEnds.{Seated, IsIdleEnd, HasJob, HasLeftDesk}

-- a job that it has now and that may be done, nothing, or that the caller has left
abbrev pub HasFound : {J : Type 0} → (J → Type 0) → Found J → Seated J → Type 0
HasFound ready (Job j) m = HasJob j m × ready j
HasFound ready Nothing m = IsIdleEnd m
HasFound ready Over m = HasLeftDesk m

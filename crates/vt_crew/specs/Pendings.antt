-- A job that was laid on a desk.
use Rattle.vt_crew.specs.declared.ends.Pending.{Pending}
use Rattle.vt_crew.specs.DeskEnds.{WaitsFor}

-- the job that was laid there, as it was then
abbrev pub IsJobOf : {J : Type 0} → J → Pending J → Type 0
IsJobOf j pending = WaitsFor j pending.chair.me

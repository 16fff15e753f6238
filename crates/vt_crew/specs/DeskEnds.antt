-- What an end of a desk knows and has in hand.
use Rattle.std.specs.Prelude.{◌≡◌, Bool, true, false, [], ◌∷◌, Option, None}
use Rattle.atomic_table.specs.Table.{Me}
use Rattle.vt_crew.specs.declared.views.DeskView.{DeskView}
use Rattle.vt_crew.specs.declared.views.DeskView.TheVariants.{Alone, Fresh, Free, Waiting, Idle, Working, Left}

-- an end: its view, and the slot that it has with what is in it
abbrev pub Seated : Type 0 → Type 0
Seated J = Me (Option J) (DeskView J)

module _ {J : Type 0} where
  -- the caller has the slot, and it is empty
  abbrev pub IsFreeEnd : Seated J → Type 0
  IsFreeEnd m = m ≡ (Free, (0, None) ∷ [])

  -- the caller waits for a job
  abbrev pub WaitsFor : J → Seated J → Type 0
  WaitsFor j m = m ≡ (Waiting j, [])

  -- whether it is the view of a caller who waits
  abbrev pub is_waiting : DeskView J → Bool
  is_waiting Alone = false
  is_waiting Fresh = false
  is_waiting Free = false
  is_waiting (Waiting j) = true
  is_waiting Idle = false
  is_waiting (Working j) = false
  is_waiting Left = false

  -- the caller waits for some job
  abbrev pub WaitsForSome : Seated J → Type 0
  WaitsForSome m = (is_waiting m.0 ≡ true) × (m.1 ≡ [])

  -- the hand has no job
  abbrev pub IsIdleEnd : Seated J → Type 0
  IsIdleEnd m = m ≡ (Idle, [])

  -- the hand has a job, which it has taken out of the slot
  abbrev pub HasJob : J → Seated J → Type 0
  HasJob j m = m ≡ (Working j, (0, None) ∷ [])

  -- the end has left
  abbrev pub HasLeftDesk : Seated J → Type 0
  HasLeftDesk m = m ≡ (Left, [])

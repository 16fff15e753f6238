-- What a folder is after files are closed.
use Rattle.std.specs.Prelude.{◌≡◌, ℕ, ◌≤◌, false, List, [], ◌∷◌, Option, Some, is_some, option_map, sum}
use Rattle.std.specs.Str.{bytes_eq}
use Rattle.vt_outside.specs.Files.{Asked, with_places}
use Rattle.vt_outside.specs.declared.outside.File.{Ghosts as FileMeanings}
use Rattle.vt_pages.specs.Shape.{Shape}
use Rattle.vt_tiles.specs.StoreViews.{StoreView}
use Rattle.vt_walk_decisions.specs.Requests.{FileState, counts_of}
use Rattle.vt_walk_decisions.specs.Machines.{files_of, known_bytes, AreStoresFor}
use Rattle.vt_walk.specs.States.{AreOpen, places_of}
use Rattle.vt_walk.specs.Moments.{Traces}

-- the places that were asked of each name once these files are closed, the last one first
abbrev pub with_closed : List FileState → Option Asked → Option Asked
with_closed [] asked = asked
with_closed (f ∷ opened) asked = option_map (with_places f.name f.asked) (with_closed opened asked)

-- so many stores of a name are open that tell these bytes, or none does; none was asked anything, and none has met a fault
pub record AreFresh {F : Type 0} (g : FileMeanings F) (s : Shape) (d loaders : ℕ) (name : List ℕ) (asked : Option Asked) (known : Option (List ℕ))
    (stores : List (StoreView F)) : Type 0 where
  pub stores_for : AreStoresFor g s d loaders stores
  pub known_is : known_bytes g stores ≡ known
  pub opened : AreOpen loaders name asked (files_of g stores)
  pub no_places : places_of (files_of g stores) ≡ []
  pub no_faults : sum (counts_of (files_of g stores)) ≡ 0

-- every other name was asked for the same places, and the places are known where they were
pub record AreOtherNamesAsBefore (name : List ℕ) (before after : Option Asked) : Type 0 where
  pub all_known : is_some after ≡ is_some before
  pub same : (old new : Asked) (q : List ℕ) → before ≡ Some old → after ≡ Some new → bytes_eq q name ≡ false → new q ≡ old q

-- a walk has closed the files that it opened: a store's file is open as before, every other name was asked for the same places, and no count fell
pub record HasClosed (name : List ℕ) (before after : Traces) : Type 0 where
  pub opened : AreOpen 1 name after.asked after.opened
  pub others : AreOtherNamesAsBefore name before.asked after.asked
  pub faults : before.faults ≤ after.faults
  pub out_faults : before.out_faults ≤ after.out_faults

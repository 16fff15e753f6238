-- What several loaders do together: each request is answered once.
use Rattle.std.specs.Prelude.{◌≡◌, ℕ, true, List, [], length, map, filter, All, IsPermutation, Option}
use Rattle.vt_outside.specs.declared.outside.File.{Ghosts as FileMeanings}
use Rattle.vt_tiles.specs.Shape.{Shape}
use Rattle.vt_queue.specs.declared.items.Request.{Request}
use Rattle.vt_queue.specs.declared.items.Loaded.{Loaded}
use Rattle.vt_queue.specs.Orders.{items_of, gathered, IsFirstInFirstOut}
use Rattle.vt_load.specs.Readings.{is_readable, AreReadings}
use Rattle.vt_load.specs.Results.{ticket_and_page, answered_by, IsGood, IsReadFor}

-- what one of several loaders took and put, and its file before and after
pub record Portion (F : Type 0) : Type 0 where
  pub took : List (ℕ × Request)
  pub put : List (ℕ × Loaded)
  pub before : F
  pub after : F

-- a portion is one of a store: of its requests those that the store can read were read and their results put
pub record IsPortion {F : Type 0} (g : FileMeanings F) (s : Shape) (d : ℕ) (known : Option (List ℕ)) (portion : Portion F) : Type 0 where
  pub known_is : g.bytes portion.before ≡ known
  pub read : AreReadings g s d (filter (is_readable s d) (items_of portion.took)) (items_of portion.put) portion.before portion.after

-- the requests that all loaders took
abbrev pub all_took : {F : Type 0} → List (Portion F) → List (ℕ × Request)
all_took portions = gathered (λ portion. portion.took) portions

-- the results that all loaders put
abbrev pub all_put : {F : Type 0} → List (Portion F) → List (ℕ × Loaded)
all_put portions = gathered (λ portion. portion.put) portions

-- the queues between those who put requests and take results and the loaders: what was put, taken and left, of either
pub record Exchange : Type 0 where
  pub asked : List (ℕ × Request)
  pub taken : List (ℕ × Request)
  pub unread : List Request
  pub given : List (ℕ × Loaded)
  pub got : List (ℕ × Loaded)
  pub over : List Loaded

-- both queues are first in, first out; the loaders took and put what was taken of the one and put into the other; the store can read
-- each request; and as many results were taken as requests were put
pub record IsExchange {F : Type 0} (g : FileMeanings F) (s : Shape) (d : ℕ) (known : Option (List ℕ)) (portions : List (Portion F)) (e : Exchange) : Type 0 where
  pub requests : IsFirstInFirstOut e.asked e.taken e.unread
  pub results : IsFirstInFirstOut e.given e.got e.over
  pub taken_by : IsPermutation e.taken (all_took portions)
  pub given_by_all : IsPermutation e.given (all_put portions)
  pub portions_are : All (IsPortion g s d known) portions
  pub readable : All (λ request. is_readable s d request ≡ true) (items_of e.asked)
  pub as_many : length e.got ≡ length e.asked

-- each request was answered once: the results that were taken are those of the requests, each as often, and good; nothing is left in
-- either queue; and each loader's file was read for the results of its portion, which together are those that were taken
pub record IsAnsweredOnce {F : Type 0} (g : FileMeanings F) (s : Shape) (d : ℕ) (known : Option (List ℕ)) (portions : List (Portion F))
    (e : Exchange) : Type 0 where
  pub none_unread : e.unread ≡ []
  pub none_over : e.over ≡ []
  pub each : IsPermutation (map ticket_and_page (items_of e.asked)) (map answered_by (items_of e.got))
  pub good : All (IsGood known s d) (items_of e.got)
  pub among : IsPermutation (items_of (all_put portions)) (items_of e.got)
  pub files : All (λ portion. IsReadFor g s d (items_of portion.put) portion.before portion.after) portions

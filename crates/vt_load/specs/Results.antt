-- What results show of the reads of a file: its places, each once and in order, and its faults.
use Rattle.std.specs.Prelude.{◌≡◌, ℕ, ◌++◌, List, length, map, count_by, option_map, Option, IfSome}
use Rattle.vt_outside.specs.Counts.{RoseBy}
use Rattle.vt_outside.specs.Files.{IsPiece}
use Rattle.vt_outside.specs.declared.place.Place.{Place}
use Rattle.vt_outside.specs.declared.outside.File.{Ghosts as FileMeanings}
use Rattle.vt_tiles.specs.Shape.{Shape}
use Rattle.vt_tiles.specs.Format.{tile_start, tile_length}
use Rattle.vt_queue.specs.declared.items.Request.{Request}
use Rattle.vt_queue.specs.declared.items.Loaded.{Loaded}
use Rattle.vt_queue.specs.declared.items.Outcome.TheVariants.{Read}
use Rattle.vt_load.specs.Readings.{is_lost}

-- what a request asks for: its ticket and its page
abbrev pub ticket_and_page : Request → ℕ × ℕ
ticket_and_page request = (request.ticket, request.page)

-- what a result is the answer to
abbrev pub answered_by : Loaded → ℕ × ℕ
answered_by result = ticket_and_page result.request

-- the place of a result's read, with whether it failed
abbrev pub read_place : Shape → ℕ → Loaded → Place
read_place s d result = record { at = tile_start s d result.request.page; len = tile_length s d; failed = is_lost result.outcome }

-- how many results are lost
abbrev pub lost_among : List Loaded → ℕ
lost_among results = count_by (λ result. is_lost result.outcome) results

-- a result's buffer has the length of a tile, and where the tile was read it is that of the result's page, where the bytes are known
pub record IsGood (known : Option (List ℕ)) (s : Shape) (d : ℕ) (result : Loaded) : Type 0 where
  pub size : length result.request.buffer.elements ≡ tile_length s d
  pub tile : result.outcome ≡ Read → IfSome known (λ b. IsPiece b (tile_start s d result.request.page) result.request.buffer.elements)

-- a file was read for these results: it was asked for the place of each once and in their order, and its count rose by those that are lost
pub record IsReadFor {F : Type 0} (g : FileMeanings F) (s : Shape) (d : ℕ) (results : List Loaded) (before after : F) : Type 0 where
  pub asked : g.asked after ≡ option_map (λ places. places ++ map (read_place s d) results) (g.asked before)
  pub faults : RoseBy (lost_among results) (g.faults before) (g.faults after)
  pub bytes : g.bytes after ≡ g.bytes before
  pub name : g.name after ≡ g.name before

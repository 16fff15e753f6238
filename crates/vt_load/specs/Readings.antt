-- Which requests a store can read, and what their results are.
use Rattle.std.specs.Prelude.{◌≡◌, ℕ, ◌+◌, ◌≤◌, ◌&&◌, Bool, true, false, nat_lt, nat_eq, List, [], ◌∷◌, length, IfSome}
use Rattle.vt_outside.specs.Counts.{Rose}
use Rattle.vt_outside.specs.Files.{IsPiece}
use Rattle.vt_outside.specs.declared.outside.File.{Ghosts as FileMeanings}
use Rattle.vt_tiles.specs.Shape.{Shape}
use Rattle.vt_tiles.specs.Pages.{pages_of}
use Rattle.vt_tiles.specs.Format.{tile_start, tile_length}
use Rattle.vt_tiles.specs.Places.{TileAsked}
use Rattle.vt_queue.specs.declared.items.Request.{Request}
use Rattle.vt_queue.specs.declared.items.Loaded.{Loaded}
use Rattle.vt_queue.specs.declared.items.Outcome.{Outcome}
use Rattle.vt_queue.specs.declared.items.Outcome.TheVariants.{Read, Lost}

-- a store of this shape and depth has the page, and the buffer has the length of its tiles
abbrev pub is_readable : Shape → ℕ → Request → Bool
is_readable s d request = nat_lt request.page (pages_of s) && nat_eq (length request.buffer.elements) (tile_length s d)

-- the read failed
abbrev pub is_lost : Outcome → Bool
is_lost Read = false
is_lost Lost = true

-- a request was read once from a file, and this is its result: the buffer holds the tile of its page, where the file tells its bytes; or
-- it is lost, and the file's count of faults rose at this read
pub record IsReading {F : Type 0} (g : FileMeanings F) (s : Shape) (d : ℕ) (request : Request) (result : Loaded) (before after : F) : Type 0 where
  pub ticket : result.request.ticket ≡ request.ticket
  pub page : result.request.page ≡ request.page
  pub size : length result.request.buffer.elements ≡ tile_length s d
  pub tile : result.outcome ≡ Read → IfSome (g.bytes before) (λ b. IsPiece b (tile_start s d request.page) result.request.buffer.elements)
  pub lost : result.outcome ≡ Lost → Rose (g.faults before) (g.faults after)
  pub asked : TileAsked s d request.page (is_lost result.outcome) (g.asked before) (g.asked after)
  pub faults : g.faults before ≤ g.faults after
  pub bytes : g.bytes after ≡ g.bytes before
  pub name : g.name after ≡ g.name before
  pub room : g.spare before ≤ g.spare after + 1

-- requests were read from a file one after another, each once, and these are their results; nothing else was asked of the file
abbrev pub AreReadings : {F : Type 0} → FileMeanings F → Shape → ℕ → List Request → List Loaded → F → F → Type 0
AreReadings g s d [] [] before after = after ≡ before
AreReadings g s d (request ∷ requests) (result ∷ results) before after =
    (between : _) × IsReading g s d request result before between × AreReadings g s d requests results between after
AreReadings g s d _ _ before after = ⊥

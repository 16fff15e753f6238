-- What reads of tiles leave of a store.
use Rattle.std.proofs.Common.{◌≡◌, ℕ, ◌<◌, ◌≤◌, Bool, List, [], ◌∷◌, ◌++◌, Option, Some, None, refl, sym, ap, ◌∙◌, subst, append_assoc, arith}
use Rattle.std.specs.Prelude.{option_map}
use Rattle.std.proofs.lemmas.List.{append-nil}
use Rattle.std.proofs.lemmas.List.Elements.{All-nil, All-cons, All-append}
use Rattle.vt_outside.specs.declared.place.Place.{Place}
use Rattle.vt_outside.specs.declared.outside.File.{Ghosts as FileMeanings}
use Rattle.vt_pages.specs.Shape.{Shape}
use Rattle.vt_pages.specs.Pages.{pages_of}
use Rattle.vt_tiles.specs.Format.{tile_start, tile_length}
use Rattle.vt_tiles.specs.Places.{IsTilePlace, TileAsked}
use Rattle.vt_tiles.specs.StoreViews.{StoreView}
use Rattle.vt_replay_rows.specs.Following.{AreTilesAsked, IsReadOn}

asked_none : (s : Shape) (d : ℕ) (known : Option (List Place)) → AreTilesAsked s d known known
asked_none s d known = record { places = []; are = All-nil (IsTilePlace s d); asked = same known }
  where
    same : (o : Option (List Place)) → o ≡ option_map (λ old. old ++ []) o
    same None = refl
    same (Some places) = ap Some (sym (append-nil places))

asked_one : (s : Shape) (d page : ℕ) (failed : Bool) (before after : Option (List Place)) → page < pages_of s
    → TileAsked s d page failed before after → AreTilesAsked s d before after
asked_one s d page failed before after inside asked =
    let place : Place = record { at = tile_start s d page; len = tile_length s d; failed = failed } in
    record {
      places = place ∷ [];
      are = All-cons (IsTilePlace s d) place [] (record { page = page; inside = inside; at = refl; len = refl }) (All-nil (IsTilePlace s d));
      asked = asked;
    }

asked_then : (s : Shape) (d : ℕ) (before mid after : Option (List Place)) → AreTilesAsked s d before mid → AreTilesAsked s d mid after
    → AreTilesAsked s d before after
asked_then s d before mid after a b = record {
  places = a.places ++ b.places;
  are = All-append (IsTilePlace s d) a.places b.places a.are b.are;
  asked = b.asked ∙ ap (option_map (λ old. old ++ b.places)) a.asked ∙ joined before;
}
  where
    joined : (o : Option (List Place)) → option_map (λ old. old ++ b.places) (option_map (λ old. old ++ a.places) o) ≡ option_map (λ old. old ++
        (a.places ++ b.places)) o
    joined None = refl
    joined (Some places) = ap Some (append_assoc places a.places b.places)

-- nothing was read
pub read_none : {F : Type 0} (g : FileMeanings F) (s : StoreView F) → IsReadOn g s s
read_none g s = record {
  shape = refl;
  depth = refl;
  bytes = refl;
  name = refl;
  faults = omega arith;
  tiles = asked_none s.shape s.depth (g.asked s.file);
}

-- one tile was read, or a read of it failed
pub read_one : {F : Type 0} (g : FileMeanings F) (before after : StoreView F) (page : ℕ) (failed : Bool) → page < pages_of before.shape
    → TileAsked before.shape before.depth page failed (g.asked before.file) (g.asked after.file)
    → after.shape ≡ before.shape → after.depth ≡ before.depth → g.bytes after.file ≡ g.bytes before.file → g.name after.file ≡ g.name before.file
    → g.faults before.file ≤ g.faults after.file → IsReadOn g before after
read_one g before after page failed inside asked shape depth bytes name faults = record {
  shape = shape;
  depth = depth;
  bytes = bytes;
  name = name;
  faults = faults;
  tiles = asked_one before.shape before.depth page failed (g.asked before.file) (g.asked after.file) inside asked;
}

-- tiles were read, and then others
pub read_then : {F : Type 0} (g : FileMeanings F) (before mid after : StoreView F) → IsReadOn g before mid → IsReadOn g mid after → IsReadOn g before after
read_then g before mid after a b = record {
  shape = b.shape ∙ a.shape;
  depth = b.depth ∙ a.depth;
  bytes = b.bytes ∙ a.bytes;
  name = b.name ∙ a.name;
  faults = let first = a.faults in let then = b.faults in omega (arith, first, then);
  tiles = asked_then before.shape before.depth (g.asked before.file) (g.asked mid.file) (g.asked after.file) a.tiles
      (subst (λ (s : Shape). AreTilesAsked s before.depth (g.asked mid.file) (g.asked after.file)) a.shape
      (subst (λ (d : ℕ). AreTilesAsked mid.shape d (g.asked mid.file) (g.asked after.file)) a.depth b.tiles));
}

-- room was made for reads, and then a tile was read, or a read of it failed
pub read_after : {F : Type 0} (g : FileMeanings F) (before mid after : StoreView F) (page : ℕ) (failed : Bool) → mid.shape ≡ before.shape
    → mid.depth ≡ before.depth → g.bytes mid.file ≡ g.bytes before.file → g.asked mid.file ≡ g.asked before.file
    → g.name mid.file ≡ g.name before.file → g.faults mid.file ≡ g.faults before.file → page < pages_of before.shape
    → TileAsked mid.shape mid.depth page failed (g.asked mid.file) (g.asked after.file)
    → after.shape ≡ mid.shape → after.depth ≡ mid.depth → g.bytes after.file ≡ g.bytes mid.file → g.name after.file ≡ g.name mid.file
    → g.faults mid.file ≤ g.faults after.file → IsReadOn g before after
read_after g before mid after page failed shape depth bytes asked name faults inside read shape_after depth_after bytes_after name_after faults_after =
    let kept : IsReadOn g before mid = record {
      shape = shape;
      depth = depth;
      bytes = bytes;
      name = name;
      faults = omega (arith, faults);
      tiles = subst (AreTilesAsked before.shape before.depth (g.asked before.file)) (sym asked)
          (asked_none before.shape before.depth (g.asked before.file));
    } in
    read_then g before mid after kept
    (read_one g mid after page failed (subst (λ (s : Shape). page < pages_of s) (sym shape) inside) read shape_after depth_after bytes_after name_after
    faults_after)

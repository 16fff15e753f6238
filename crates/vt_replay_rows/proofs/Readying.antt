-- A table, a set of tiles and a store that are ready for the rows of a picture, after a call on the set.
use Rattle.std.proofs.Common.{◌≡◌, ℕ, false, List, Option, sym, ◌∙◌, subst}
use Rattle.vt_definitions.specs.Depths.{IsDepth}
use Rattle.vt_outside.specs.declared.outside.File.{Ghosts as FileMeanings}
use Rattle.vt_pages.specs.Shape.{Shape}
use Rattle.vt_tiles.specs.StoreViews.{StoreView}
use Rattle.vt_replay_rows.specs.Following.{IsReadOn, IsReplayReady}
use Rattle.vt_replay_rows.specs.ReplayLookups.{IsReplayLookup, AreTiles}

-- tiles of the same bytes
pub tiles_same : (s : Shape) (d size n : ℕ) (slots owners bytes more_slots more_owners more_bytes : List ℕ) (known : Option (List ℕ))
    → n ≡ size → more_slots ≡ slots → more_owners ≡ owners → more_bytes ≡ bytes
    → AreTiles s d size slots owners bytes known → AreTiles s d n more_slots more_owners more_bytes known
tiles_same s d size n slots owners bytes more_slots more_owners more_bytes known a b c e h =
    subst (λ (k : ℕ). AreTiles s d k more_slots more_owners more_bytes known) (sym a)
    (subst (λ (l : List ℕ). AreTiles s d size l more_owners more_bytes known) (sym b)
    (subst (λ (l : List ℕ). AreTiles s d size slots l more_bytes known) (sym c)
    (subst (λ (l : List ℕ). AreTiles s d size slots owners l known) (sym e) h)))

-- the store was read on, and the set holds tiles of it
pub ready_after : {F : Type 0} (g : FileMeanings F) (s : Shape) (d : ℕ) (entries : List ℕ) (size n : ℕ)
    (slots owners bytes more_slots more_owners more_bytes : List ℕ) (store after : StoreView F)
    → IsReplayReady g s d entries size slots owners bytes store → IsReadOn g store after
    → AreTiles s d n more_slots more_owners more_bytes (g.bytes store.file) → IsReplayReady g s d entries n more_slots more_owners more_bytes after
ready_after g s d entries size n slots owners bytes more_slots more_owners more_bytes store after h read tiles = record {
  all_entries = h.all_entries;
  root = h.root;
  apart = h.apart;
  shape = read.shape ∙ h.shape;
  depth = read.depth ∙ h.depth;
  tiles = subst (λ (o : Option (List ℕ)). AreTiles s d n more_slots more_owners more_bytes o) (sym read.bytes) tiles;
}

-- so a look-up over them may begin
pub ready_replay_lookup : {F : Type 0} (g : FileMeanings F) (s : Shape) (d version size : ℕ) (entries slots owners bytes : List ℕ) (store : StoreView F)
    → IsDepth d → IsReplayReady g s d entries size slots owners bytes store
    → IsReplayLookup (record {
      shape = s;
      depth = d;
      size = size;
      version = version;
      entries = entries;
      slots = slots;
      owners = owners;
      bytes = bytes;
      missed = false;
    })
ready_replay_lookup g s d version size entries slots owners bytes store lawful h = record {
  lawful = lawful;
  all_entries = h.all_entries;
  root = h.root;
  apart = h.apart;
  size_is = h.tiles.size_is;
  all_slots = h.tiles.all_slots;
  all_bytes = h.tiles.all_bytes;
}

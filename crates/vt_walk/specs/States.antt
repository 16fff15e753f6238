-- What is there at a time of a walk: files, text, places and counts, taken with the files that are open.
use Rattle.std.specs.Prelude.{◌≡◌, ℕ, ◌++◌, List, [], sum, replicate, map, flat_map, Option, IsSome, is_some, option_map, unwrap_or}
use Rattle.vt_outside.specs.Counts.{added}
use Rattle.vt_outside.specs.Files.{Files, Asked}
use Rattle.vt_outside.specs.declared.place.Place.{Place}
use Rattle.vt_outside.specs.declared.outside.Folder.{Ghosts as FolderMeanings}
use Rattle.vt_walk_decisions.specs.Requests.{FileState, counts_of}

-- what the folder holds and the text that was put, where they are known; the counts of faults of the folder and of the sink; and the
-- places that were asked of the store's name, where they are known. The folder's count and the places are taken with those of the
-- files that are open, which are closed with them
pub record WalkState : Type 0 where
  pub files : Option Files
  pub held : Option (List ℕ)
  pub faults : ℕ
  pub out_faults : ℕ
  pub asked : Option (List Place)

-- the places that open files were asked
abbrev pub places_of : List FileState → List Place
places_of opened = flat_map (λ f. unwrap_or f.asked []) opened

-- the state of a walk by a folder, the store's name, the open files, and the text and the count of a sink
abbrev pub walk_state : {D F : Type 0} → FolderMeanings D F → List ℕ → D → List FileState → Option (List ℕ) → ℕ → WalkState
walk_state d store folder opened held out_faults = record {
  files = d.files folder;
  held = held;
  faults = added (d.faults folder) (sum (counts_of opened));
  out_faults = out_faults;
  asked = option_map (λ (asked : Asked). asked store ++ places_of opened) (d.asked folder);
}

-- so many files of a name are open, and each tells its places where the folder does
pub record AreOpen (n : ℕ) (name : List ℕ) (asked : Option Asked) (opened : List FileState) : Type 0 where
  pub all_known : map (λ f. is_some f.asked) opened ≡ replicate n (is_some asked)
  pub named : IsSome asked → map (λ f. f.name) opened ≡ replicate n name

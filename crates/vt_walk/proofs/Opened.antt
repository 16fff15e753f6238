-- Stores that were just opened, and what closing files does.
use Rattle.std.proofs.Common.{◌≡◌, ℕ, ◌+◌, ◌≤◌, Bool, true, false, List, [], ◌∷◌, ◌++◌, length, map, sum, Option, Some, None, refl, sym, ap, ◌∙◌, arith}
use Rattle.std.specs.Prelude.{IsSome, OnSome, is_some, option_map, unwrap_or, replicate, All, if◌then◌else◌}
use Rattle.std.specs.Str.{bytes_eq}
use Rattle.std.proofs.lemmas.Bool.{false≢true}
use Rattle.std.proofs.lemmas.List.{append-nil}
use Rattle.std.proofs.lemmas.List.Elements.{All-head, All-tail, All-weaker}
use mathlib.Core.Path.{fun_ext}
use Rattle.vt_outside.specs.Files.{Asked, with_places}
use Rattle.vt_outside.specs.declared.place.Place.{Place}
use Rattle.vt_outside.specs.declared.outside.File.{Ghosts as FileMeanings}
use Rattle.vt_outside.specs.declared.outside.Folder.{Ghosts as FolderMeanings}
use Rattle.vt_pages.specs.Shape.{Shape}
use Rattle.vt_tiles.specs.StoreViews.{StoreView}
use Rattle.vt_walk_decisions.specs.Requests.{counts_of}
use Rattle.vt_walk_decisions.specs.Machines.{files_of, known_bytes}
use Rattle.vt_walk.specs.States.{places_of}
use Rattle.vt_walk.specs.Closing.{with_closed, AreFresh}
use Rattle.vt_walk.specs.Opening.{IsFresh, KeepsFolder}
use Rattle.vt_walk.proofs.Asks.{sum-one}

-- one more file was opened
pub opened_more : {D F : Type 0} (d : FolderMeanings D F) (a b c : D) → KeepsFolder d a b → d.files c ≡ d.files b → d.asked c ≡ d.asked b
    → d.faults b ≤ d.faults c → KeepsFolder d a c
opened_more d a b c first files asked faults = record {
  files = files ∙ first.files;
  asked = asked ∙ first.asked;
  faults = let m = first.faults in omega (arith, m, faults);
}

-- the last one is closed first
pub closed_last : {F : Type 0} (g : FileMeanings F) (stores : List (StoreView F)) (x : StoreView F) (asked : Option Asked)
    → with_closed (files_of g (stores ++ x ∷ [])) asked ≡ with_closed (files_of g stores) (option_map (with_places (g.name x.file) (g.asked x.file)) asked)
closed_last g [] x asked = refl
closed_last g (s ∷ stores) x asked = ap (option_map (with_places (g.name s.file) (g.asked s.file))) (closed_last g stores x asked)

pub counts_last : {F : Type 0} (g : FileMeanings F) (stores : List (StoreView F)) (x : StoreView F)
    → sum (counts_of (files_of g (stores ++ x ∷ []))) ≡ sum (counts_of (files_of g stores)) + g.faults x.file
counts_last g [] x = omega arith
counts_last g (s ∷ stores) x =
    let all : sum (counts_of (files_of g (s ∷ stores ++ x ∷ []))) ≡ g.faults s.file + sum (counts_of (files_of g (stores ++ x ∷ []))) =
    sum-one (g.faults s.file) (counts_of (files_of g (stores ++ x ∷ []))) in
    let front : sum (counts_of (files_of g (s ∷ stores))) ≡ g.faults s.file + sum (counts_of (files_of g stores)) =
    sum-one (g.faults s.file) (counts_of (files_of g stores)) in
    omega (arith, counts_last g stores x)

-- a file that was asked nothing leaves the places as they were
no_more : (name : List ℕ) (asked : Option Asked) → option_map (with_places name (option_map (λ _. []) asked)) asked ≡ asked
no_more name None = refl
no_more name (Some places) = ap Some (fun_ext (λ q. pick q (bytes_eq q name))) where
  pick : (q : List ℕ) (b : Bool) → (if b then places q ++ [] else places q) ≡ places q
  pick q true = append-nil (places q)
  pick q false = refl

module _ {F : Type 0} (g : FileMeanings F) (s : Shape) (d : ℕ) (name : List ℕ) (asked : Option Asked) (known : Option (List ℕ)) where
  abbrev IsNew : StoreView F → Type 0
  IsNew = IsFresh g s d name asked known

  -- closing what was asked nothing leaves the places as they were
  pub closed_fresh : (stores : List (StoreView F)) → All IsNew stores → with_closed (files_of g stores) asked ≡ asked
  closed_fresh [] all = refl
  closed_fresh (x ∷ stores) all =
      let new = All-head IsNew x stores all in
      ap (option_map (with_places (g.name x.file) (g.asked x.file))) (closed_fresh stores (All-tail IsNew x stores all))
      ∙ ap (λ (places : Option (List Place)). option_map (with_places (g.name x.file) places) asked) new.no_places
      ∙ no_more (g.name x.file) asked

  fresh_known : (stores : List (StoreView F)) → All IsNew stores → map (λ f. is_some f.asked) (files_of g stores) ≡ replicate (length stores) (is_some asked)
  fresh_known [] all = refl
  fresh_known (x ∷ stores) all =
      let new = All-head IsNew x stores all in
      let first : is_some (g.asked x.file) ≡ is_some asked = ap (λ (places : Option (List Place)). is_some places) new.no_places ∙ known_alike [] asked in
      ap (λ (b : Bool). b ∷ map (λ f. is_some f.asked) (files_of g stores)) first
      ∙ ap (λ (bs : List Bool). is_some asked ∷ bs) (fresh_known stores (All-tail IsNew x stores all)) where
        known_alike : (none : List Place) (o : Option Asked) → is_some (option_map (λ (_ : Asked). none) o) ≡ is_some o
        known_alike none None = refl
        known_alike none (Some places) = refl

  named_fresh : (stores : List (StoreView F)) → All IsNew stores → IsSome asked → map (λ f. f.name) (files_of g stores) ≡ replicate (length stores) name
  named_fresh [] all some = refl
  named_fresh (x ∷ stores) all some =
      let new = All-head IsNew x stores all in
      ap (λ (n : List ℕ). n ∷ map (λ f. f.name) (files_of g stores)) (known_name asked some new.named)
      ∙ ap (λ (ns : List (List ℕ)). name ∷ ns) (named_fresh stores (All-tail IsNew x stores all) some) where
        known_name : (o : Option Asked) → IsSome o → OnSome o (g.name x.file ≡ name) → g.name x.file ≡ name
        known_name None some named = absurd (false≢true some)
        known_name (Some places) some named = named

  places_fresh : (stores : List (StoreView F)) → All IsNew stores → places_of (files_of g stores) ≡ []
  places_fresh [] all = refl
  places_fresh (x ∷ stores) all =
      let new = All-head IsNew x stores all in
      ap (λ (places : Option (List Place)). unwrap_or places [] ++ places_of (files_of g stores)) new.no_places
      ∙ none asked ∙ places_fresh stores (All-tail IsNew x stores all) where
        none : (o : Option Asked) → unwrap_or (option_map (λ (_ : Asked). []) o) [] ++ places_of (files_of g stores) ≡ places_of (files_of g stores)
        none None = refl
        none (Some places) = refl

  counts_fresh : (stores : List (StoreView F)) → All IsNew stores → sum (counts_of (files_of g stores)) ≡ 0
  counts_fresh [] all = refl
  counts_fresh (x ∷ stores) all =
      let new = All-head IsNew x stores all in
      let both : sum (counts_of (files_of g (x ∷ stores))) ≡ g.faults x.file + sum (counts_of (files_of g stores)) =
      sum-one (g.faults x.file) (counts_of (files_of g stores)) in
      omega (arith, new.no_faults, counts_fresh stores (All-tail IsNew x stores all))

  known_fresh : (stores : List (StoreView F)) → All IsNew stores → 1 ≤ length stores → known_bytes g stores ≡ known
  known_fresh [] all some = absurd (omega (arith, some))
  known_fresh (x ∷ stores) all some = (All-head IsNew x stores all).bytes

  -- so many stores that were just opened are those of so many loaders
  pub all_fresh : (loaders : ℕ) (stores : List (StoreView F)) → 1 ≤ loaders → length stores ≡ loaders → All IsNew stores
      → AreFresh g s d loaders name asked known stores
  all_fresh loaders stores some count all =
      let same = known_fresh stores all (omega (arith, some, count)) in
      record {
        stores_for = record {
          count = count;
          shapes = All-weaker IsNew (λ store. store.shape ≡ s) (λ x new. new.shape) stores all;
          depths = All-weaker IsNew (λ store. store.depth ≡ d) (λ x new. new.depth) stores all;
          known = All-weaker IsNew (λ store. g.bytes store.file ≡ known_bytes g stores) (λ x new. new.bytes ∙ sym same) stores all;
        };
        known_is = same;
        opened = record {
          all_known = fresh_known stores all ∙ ap (λ n. replicate n (is_some asked)) count;
          named = λ is. named_fresh stores all is ∙ ap (λ n. replicate n name) count;
        };
        no_places = places_fresh stores all;
        no_faults = counts_fresh stores all;
      }

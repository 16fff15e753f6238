-- The levels behind the first, one after the other.
use Rattle.std.proofs.Common.{◌≡◌, ℕ, suc, ◌+◌, ◌-◌, ◌≤◌, ◌⊎◌, inl, inr, Option, List, ◌++◌, length, take, sym, ap, ◌∙◌, subst, arith, append_assoc}
use Rattle.std.proofs.Math.Seq.{take-length}
use Rattle.std.specs.Prelude.{option_map, Result, Ok, Err, IsErrOf}
use Rattle.std.specs.Result.{IsErrAnd}
use Rattle.vt_definitions.specs.Depths.{AreBytes}
use Rattle.vt_definitions.specs.Sides.{side}
use Rattle.vt_definitions.specs.Texels.{Source}
use Rattle.vt_outside.specs.Files.{Files, with_bytes}
use Rattle.vt_outside.specs.declared.answers.OutsideError.{OutsideError}
use Rattle.vt_outside.specs.declared.answers.OutsideError.TheVariants as outside_error
use Rattle.vt_outside.proofs.Changes.{front_of_two, front_of_first}
use Rattle.vt_ppm.specs.Image.{ImageView, IsLawfulImage}
use Rattle.vt_mip.specs.Halves.{IsHalf}
use Rattle.vt_mip.specs.Levels.{IsLevel}
use Rattle.vt_mip.proofs.Following.{side_after}
use Rattle.vt_mip.proofs.Words.{next_level}
use Rattle.vt_pages.specs.Shape.{Shape}
use Rattle.vt_pages.specs.Pages.{pages_of}
use Rattle.vt_store.specs.ChainStores.{AddsPages, AddsPart, HasLevelTexels, level_source}
use Rattle.vt_tiles.specs.Format.{tiles_bytes}
use Rattle.vt_tiles.specs.Refusals.{refusal_by}
use Rattle.vt_tiles.specs.declared.error.StoreError.{StoreError}
use Rattle.vt_tiles.specs.declared.error.StoreError.TheVariants.{Failed}
use Rattle.vt_store.proofs.AddedPages.{tiles_split}

-- the side of a level, by that of level 1
pub level_side : (w p q k : ℕ) → 1 ≤ k → p ≡ side w 1 → q ≡ side p (k - 1) → q ≡ side w k
level_side w p q k some first is =
    let up : suc (k - 1) ≡ k = omega (arith, some) in
    is ∙ ap (λ (n : ℕ). side n (k - 1)) first ∙ side_after w (k - 1) ∙ ap (side w) up

-- the chain of level 1 has a level's texels
pub level_texels : (base p : ImageView) (t k : ℕ) → IsLevel base (k - 1) p → HasLevelTexels (level_source (record { base = base; tile = t }) 1) k p
level_texels base p t k is = record { each = λ x y across down. sym (is.texels x y across down) }

-- the half of a level is the next one
pub level_next : (base p q : ImageView) (k : ℕ) → 1 ≤ k → IsLevel base (k - 1) p → AreBytes p.samples → IsHalf p q → IsLawfulImage q
    → IsLevel base (k + 1 - 1) q
level_next base p q k some is bytes half lawful =
    let up : suc (k - 1) ≡ k + 1 - 1 = omega (arith, some) in
    subst (λ (n : ℕ). IsLevel base n q) up (next_level base (k - 1) p q is bytes half lawful)

-- the tiles of more pages
pub adds_then : (s : Shape) (d e : ℕ) (src : Source) (a p q : ℕ) (name : List ℕ) (f0 f1 f2 : Option Files) → e ≡ d → a ≤ p → p ≤ q
    → AddsPages s d src a p name f0 f1 → AddsPages s e src p q name f1 f2 → AddsPages s d src a q name f0 f2
adds_then s d e src a p q name f0 f1 f2 same h k first second = record {
  held = λ before done begun.
      let one : List ℕ = tiles_bytes s d src a (p - a) in
      second.held before (done ++ one) (first.held before done begun)
      ∙ ap (λ (n : ℕ). option_map (with_bytes name ((done ++ one) ++ tiles_bytes s n src p (q - p))) before) same
      ∙ ap (λ l. option_map (with_bytes name l) before)
      (append_assoc done one (tiles_bytes s d src p (q - p)) ∙ ap (λ l. done ++ l) (sym (tiles_split s d src a p q h k)));
}

adds_kept : (s : Shape) (d : ℕ) (src : Source) (a p : ℕ) (name : List ℕ) (f0 f1 f2 : Option Files) → a ≤ p → p ≤ pages_of s
    → AddsPages s d src a p name f0 f1 → f2 ≡ f1 → AddsPart s d src a name f0 f2
adds_kept s d src a p name f0 f1 f2 h k first same =
    let one : List ℕ = tiles_bytes s d src a (p - a) in
    let rest : List ℕ = tiles_bytes s d src p (pages_of s - p) in
    let front = front_of_first one rest (length one) in
    record {
      part = front.0;
      held = λ before done begun.
          same ∙ first.held before done begun
          ∙ ap (λ l. option_map (with_bytes name (done ++ l)) before)
          (sym (take-length one) ∙ front.1 ∙ ap (take front.0) (sym (tiles_split s d src a p (pages_of s) h k)));
    }

adds_front : (s : Shape) (d e : ℕ) (src : Source) (a p : ℕ) (name : List ℕ) (f0 f1 f2 : Option Files) → e ≡ d → a ≤ p → p ≤ pages_of s
    → AddsPages s d src a p name f0 f1 → AddsPart s e src p name f1 f2 → AddsPart s d src a name f0 f2
adds_front s d e src a p name f0 f1 f2 same h k first second =
    let one : List ℕ = tiles_bytes s d src a (p - a) in
    let rest : List ℕ = tiles_bytes s d src p (pages_of s - p) in
    record {
      part = length one + second.part;
      held = λ before done begun.
          second.held before (done ++ one) (first.held before done begun)
          ∙ ap (λ (n : ℕ). option_map (with_bytes name ((done ++ one) ++ take second.part (tiles_bytes s n src p (pages_of s - p)))) before) same
          ∙ ap (λ l. option_map (with_bytes name l) before)
          (append_assoc done one (take second.part rest)
          ∙ ap (λ l. done ++ l) (front_of_two one rest second.part
          ∙ ap (take (length one + second.part)) (sym (tiles_split s d src a p (pages_of s) h k))));
    }

-- and a part of those of a level
pub adds_then_part : (s : Shape) (d : ℕ) (base next : ImageView) (t k a p : ℕ) (name : List ℕ) (f0 f1 f2 : Option Files) → next.depth ≡ d
    → a ≤ p → p ≤ pages_of s → IsLevel base (k - 1) next
    → AddsPages s d (level_source (record { base = base; tile = t }) 1) a p name f0 f1
    → (f2 ≡ f1) ⊎ ((src : Source) → HasLevelTexels src k next → AddsPart s next.depth src p name f1 f2)
    → AddsPart s d (level_source (record { base = base; tile = t }) 1) a name f0 f2
adds_then_part s d base next t k a p name f0 f1 f2 same h i is first (inl kept) =
    adds_kept s d (level_source (record { base = base; tile = t }) 1) a p name f0 f1 f2 h i first kept
adds_then_part s d base next t k a p name f0 f1 f2 same h i is first (inr part) =
    adds_front s d next.depth (level_source (record { base = base; tile = t }) 1) a p name f0 f1 f2 same h i first
    (part (level_source (record { base = base; tile = t }) 1) (level_texels base next t k is))

-- what refused a call of the outside refuses the writing of the store
pub refused_by : {T U : Type 0} (r : Result T OutsideError) (q : Result U StoreError) (e : OutsideError) → r ≡ Err e
    → IsErrAnd q (λ x. x ≡ refusal_by e) → IsErrOf q Failed → IsErrOf r outside_error.Failed
refused_by r (Ok x) e was is failed = let no : ⊥ = cc in absurd no
refused_by r (Err x) outside_error.Failed was is failed = cc
refused_by r (Err x) outside_error.NoMemory was is failed = let no : ⊥ = cc in absurd no

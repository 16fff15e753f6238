-- A set of tiles: the empty one, under equal names, and with one tile more.
use Rattle.std.proofs.Common.{◌≡◌, ◌≢◌, ◌⊎◌, ℕ, ◌*◌, ◌<◌, ◌≤◌, inl, inr, List, length, get_or, replicate, Option, Some, None, sym, ap, ◌∙◌, subst, arith}
use Rattle.std.specs.Prelude.{IfSome}
use Rattle.std.proofs.lemmas.Bool.{cases_lt}
use Rattle.std.proofs.lemmas.List.{get_or-replicate, get_or_past, length-replicate}
use Rattle.std.proofs.lemmas.Option.{same_Some}
use Rattle.vt_definitions.specs.Limits.{most_frame_texels}
use Rattle.vt_outside.specs.Files.{IsPiece}
use Rattle.vt_pages.specs.Shape.{Shape}
use Rattle.vt_pages.specs.Pages.{pages_of}
use Rattle.vt_journal.specs.Changes.{Table, with_entry}
use Rattle.vt_journal.specs.Kept.{entry_of, entries_of}
use Rattle.vt_journal.proofs.Versions.{same_page, entry-same, entry-other}
use Rattle.vt_tiles.specs.Format.{tile_start, tile_length}
use Rattle.vt_replay_rows.specs.ReplayLookups.{bytes_row, AreTiles}

-- numbers that are all 0 give no entry
pub no_entries : (numbers : List ℕ) (n k : ℕ) → numbers ≡ replicate n 0 → entries_of numbers k ≡ None
no_entries numbers n k all = ap entry_of (zero_at (cases_lt k n)) where
  zero_at : ((k < n) ⊎ (n ≤ k)) → get_or numbers k 0 ≡ 0
  zero_at (inl below) = ap (λ (l : List ℕ). get_or l k 0) all ∙ get_or-replicate n k 0 0 below
  zero_at (inr past) = ap (λ (l : List ℕ). get_or l k 0) all ∙ get_or_past (replicate n 0) k 0 (omega (arith, length-replicate {A = ℕ} n 0))

pub tiles_first : (s : Shape) (d size n : ℕ) (slots owners bytes : List ℕ) (known : Option (List ℕ)) → size ≡ tile_length s d → length slots ≡ pages_of s
    → length owners ≡ n → 1 ≤ n → n ≤ most_frame_texels → length bytes ≡ n * size → owners ≡ replicate n 0 → AreTiles s d size slots owners bytes known
tiles_first s d size n slots owners bytes known is pages count some few room none = record {
  size_is = is;
  all_slots = pages;
  some_owner = omega (arith, count, some);
  few_owners = omega (arith, count, few);
  all_bytes = room ∙ ap (λ k. k * size) (sym count);
  holds = λ slot page owned low. absurd (let e : None ≡ Some page = sym (no_entries owners n slot none) ∙ owned in cc);
}

pub tiles_under : (s t : Shape) (d e size : ℕ) (slots owners bytes : List ℕ) (known also : Option (List ℕ)) → t ≡ s → e ≡ d → also ≡ known
    → AreTiles t e size slots owners bytes also → AreTiles s d size slots owners bytes known
tiles_under s t d e size slots owners bytes known also shape depth same h =
    subst (λ (r : Shape). AreTiles r d size slots owners bytes known) shape
    (subst (λ (k : ℕ). AreTiles t k size slots owners bytes known) depth
    (subst (λ (o : Option (List ℕ)). AreTiles t e size slots owners bytes o) same h))

-- the tile of a page was read into a slot
pub tiles_more : (s : Shape) (d size slot page : ℕ) (slots owners bytes more_slots more_owners more_bytes : List ℕ) (known : Option (List ℕ))
    → AreTiles s d size slots owners bytes known → length more_slots ≡ length slots → length more_owners ≡ length owners → length more_bytes ≡ length bytes
    → entries_of more_owners ≡ with_entry (entries_of owners) slot (Some page)
    → ((z : ℕ) → z ≢ slot → bytes_row size more_bytes z ≡ bytes_row size bytes z)
    → IfSome known (λ b. IsPiece b (tile_start s d page) (bytes_row size more_bytes slot))
    → AreTiles s d size more_slots more_owners more_bytes known
tiles_more s d size slot page slots owners bytes more_slots more_owners more_bytes known h all_slots all_owners all_bytes owned others piece = record {
  size_is = h.size_is;
  all_slots = all_slots ∙ h.all_slots;
  some_owner = let a = h.some_owner in omega (arith, a, all_owners);
  few_owners = let a = h.few_owners in omega (arith, a, all_owners);
  all_bytes = all_bytes ∙ h.all_bytes ∙ ap (λ k. k * size) (sym all_owners);
  holds = λ z q is low.
      let now : with_entry (entries_of owners) slot (Some page) z ≡ Some q = sym (ap (λ (m : Table). m z) owned) ∙ is in
      elim (same_page z slot) [
        | inl same ↦
            let here : with_entry (entries_of owners) slot (Some page) slot ≡ Some q =
            ap (with_entry (entries_of owners) slot (Some page)) (sym same) ∙ now in
            let whose : page ≡ q = same_Some page q (sym (entry-same (entries_of owners) slot (Some page)) ∙ here) in
            subst (λ (k : ℕ). IfSome known (λ b. IsPiece b (tile_start s d q) (bytes_row size more_bytes k))) (sym same)
            (subst (λ (k : ℕ). IfSome known (λ b. IsPiece b (tile_start s d k) (bytes_row size more_bytes slot))) whose piece)
        | inr other ↦
            subst (λ (t : List ℕ). IfSome known (λ b. IsPiece b (tile_start s d q) t)) (sym (others z other))
            (h.holds z q (sym (entry-other (entries_of owners) slot z (Some page) other) ∙ now) (omega (arith, low, all_owners)))
      ];
}

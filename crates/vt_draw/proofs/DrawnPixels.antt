-- What was drawn stays drawn: a look-up goes on to say what it says.
use Rattle.std.proofs.Common.{◌≡◌, ◌≢◌, ℕ, ◌+◌, ◌/◌, ◌^◌, ◌<◌, ◌⊎◌, List, sym, ap, subst, ◌∙◌, ⊎_elim, arith}
use Rattle.vt_pages.specs.Shape.{Shape}
use Rattle.vt_pages.specs.Pages.{texel_page}
use Rattle.vt_camera.specs.Rows.{RowView, row_level, row_place}
use Rattle.vt_draw.specs.declared.lookups.Found.{Found}
use Rattle.vt_draw.specs.Lookups.{Note, WordNote, IsFinestFound, place_in_tile}
use Rattle.vt_pages.specs.Depths.{texel_bytes}
use Rattle.vt_draw.specs.Shots.{wanted_page, drawn_place, IsDrawn}

pub finest_kept : (s : Shape) (version : ℕ) (says later : Note → Type 0) (p : ℕ) (found : Found) → ((note : Note) → says note → later note)
    → IsFinestFound s version says p found → IsFinestFound s version later p found
finest_kept s version says later p found said h = record {
  no_finer = h.no_finer;
  level_inside = h.level_inside;
  page = h.page;
  level = h.level;
  unmapped = λ k low high. said _ (h.unmapped k low high);
  mapped = said _ h.mapped;
}

pub drawn_kept : (s : Shape) (d version : ℕ) (says later : Note → Type 0) (row : RowView) (x : ℕ) (samples : List ℕ) → ((note : Note) → says note → later note)
    → IsDrawn s d version says row x samples → IsDrawn s d version later row x samples
drawn_kept s d version says later row x samples said h = record {
  found = h.found;
  word = h.word;
  finest = finest_kept s version says later _ h.found said h.finest;
  read = said _ h.read;
  shown = h.shown;
}

-- one pixel more is drawn
pub drawn-more : (s : Shape) (d version : ℕ) (says later : Note → Type 0) (row : RowView) (x : ℕ) (before after : List ℕ)
    → ((note : Note) → says note → later note)
    → ((i : ℕ) → i ≢ x → texel_bytes d after i ≡ texel_bytes d before i) → IsDrawn s d version later row x (texel_bytes d after x)
    → ((i : ℕ) → i < x → IsDrawn s d version says row i (texel_bytes d before i))
    → (i : ℕ) → i < x + 1 → IsDrawn s d version later row i (texel_bytes d after i)
drawn-more s d version says later row x before after said kept here so_far i below =
    let P : List ℕ → Type 0 = λ t. IsDrawn s d version later row i t in
    let Q : ℕ → Type 0 = λ j. IsDrawn s d version later row j (texel_bytes d after j) in
    let or : (i < x) ⊎ (i ≡ x) = grind arith in
    ⊎_elim (λ (low : i < x). let apart : i ≢ x = omega arith in subst P (sym (kept i apart))
    (drawn_kept s d version says later row i (texel_bytes d before i) said (so_far i low)))
    (λ (same : i ≡ x). subst Q (sym same) here) or

-- the same of a look-up that has the same shape and version under other names
pub finest_moved : (s t : Shape) (version same : ℕ) (says later : Note → Type 0) (p : ℕ) (found : Found) → t ≡ s
    → same ≡ version → ((note : Note) → says note → later note)
    → IsFinestFound s version says p found → IsFinestFound t same later p found
finest_moved s t version same says later p found shape number said h =
    let P : Shape → Type 0 = λ z. IsFinestFound z version later p found in
    let Q : ℕ → Type 0 = λ n. IsFinestFound t n later p found in
    subst Q (sym number) (subst P (sym shape) (finest_kept s version says later p found said h))

-- the page of the texel that a pixel shows is the one that it wants
pub wanted_is : (s : Shape) (row : RowView) (x page level column line : ℕ) → page ≡ texel_page s level (column / 2 ^ level) (line / 2 ^ level)
    → level ≡ row_level row → column ≡ (row_place row x).0 → line ≡ (row_place row x).1 → page ≡ wanted_page s row x
unfolding wanted_page
wanted_is s row x page level column line is k c l =
    is
    ∙ ap (λ (i : ℕ). texel_page s i (column / 2 ^ i) (line / 2 ^ i)) k
    ∙ ap (λ (i : ℕ). texel_page s (row_level row) (i / 2 ^ row_level row) (line / 2 ^ row_level row)) c
    ∙ ap (λ (i : ℕ). texel_page s (row_level row) ((row_place row x).0 / 2 ^ row_level row) (i / 2 ^ row_level row)) l

pub read_is : (s t : Shape) (version same : ℕ) (says : Note → Type 0) (row : RowView) (x slot word level column line : ℕ) → t ≡ s → same ≡ version
    → column ≡ (row_place row x).0 → line ≡ (row_place row x).1
    → says (WordNote same slot (place_in_tile t (column / 2 ^ level) (line / 2 ^ level)) word) → says (WordNote version slot (drawn_place s row x level) word)
read_is s t version same says row x slot word level column line shape number c l h =
    let P : Note → Type 0 = λ n. says n in
    subst P
    (ap (λ (z : Shape). WordNote same slot (place_in_tile z (column / 2 ^ level) (line / 2 ^ level)) word) shape
    ∙ ap (λ (n : ℕ). WordNote n slot (place_in_tile s (column / 2 ^ level) (line / 2 ^ level)) word) number
    ∙ ap (λ (i : ℕ). WordNote version slot (place_in_tile s (i / 2 ^ level) (line / 2 ^ level)) word) c
    ∙ ap (λ (i : ℕ). WordNote version slot (place_in_tile s ((row_place row x).0 / 2 ^ level) (i / 2 ^ level)) word) l)
    h

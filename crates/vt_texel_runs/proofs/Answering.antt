-- Points that were answered stay answered: a look-up goes on to say what it says.
use Rattle.std.proofs.Common.{◌≡◌, ℕ, ◌+◌, ◌<◌, ◌⊎◌, List, length, sym, subst, ⊎_elim, arith, get_or}
use Rattle.std.specs.Prelude.{◌≢◌}
use Rattle.vt_definitions.specs.Depths.{texel_bytes}
use Rattle.vt_pages.specs.Shape.{Shape}
use Rattle.std.proofs.lemmas.Option.{slice_get-get_or, get_or_from_slice_get}
use Rattle.vt_draw.specs.Lookups.{Note, WordNote, covering_place}
use Rattle.vt_draw.proofs.DrawnPixels.{finest_kept}
use Rattle.vt_texel_runs.specs.declared.points.Point.{Point}
use Rattle.vt_texel_runs.specs.Points.{IsAnswered, AreAnswered}

pub answered_kept : (s : Shape) (d version : ℕ) (says later : Note → Type 0) (p : Point) (bytes : List ℕ) → ((note : Note) → says note → later note)
    → IsAnswered s d version says p bytes → IsAnswered s d version later p bytes
answered_kept s d version says later p bytes said h = record {
  found = h.found;
  word = h.word;
  finest = finest_kept s version says later _ h.found said h.finest;
  read = said _ h.read;
  shown = h.shown;
}

pub all_kept : (s : Shape) (d version : ℕ) (says later : Note → Type 0) (points : List Point) (n : ℕ) (bytes : List ℕ) → ((note : Note) → says note → later note)
    → AreAnswered s d version says points n bytes → AreAnswered s d version later points n bytes
all_kept s d version says later points n bytes said h i p below = answered_kept s d version says later (get_or points i p) (texel_bytes d bytes i) said (h i p below)

-- one point more is answered
pub answered_more : (s : Shape) (d version : ℕ) (says later : Note → Type 0) (points : List Point) (x : ℕ) (before after : List ℕ) (p : Point)
    → ((note : Note) → says note → later note) → ((i : ℕ) → i ≢ x → texel_bytes d after i ≡ texel_bytes d before i)
    → ((q : Point) → get_or points x q ≡ p) → IsAnswered s d version later p (texel_bytes d after x)
    → AreAnswered s d version says points x before → AreAnswered s d version later points (x + 1) after
answered_more s d version says later points x before after p said kept there here so_far i q below =
    let P : List ℕ → Type 0 = λ t. IsAnswered s d version later (get_or points i q) t in
    let or : (i < x) ⊎ (i ≡ x) = grind arith in
    ⊎_elim (λ (low : i < x). let apart : i ≢ x = omega arith in subst P (sym (kept i apart))
    (answered_kept s d version says later (get_or points i q) (texel_bytes d before i) said (so_far i q low)))
    (λ (same : i ≡ x).
    let Q : ℕ → Type 0 = λ j. IsAnswered s d version later (get_or points j q) (texel_bytes d after j) in
    subst Q (sym same) (subst (λ (r : Point). IsAnswered s d version later r (texel_bytes d after x)) (sym (there q)) here)) or

pub point_there : (points : List Point) (i : ℕ) (d : Point) → i < length points → (q : Point) → get_or points i q ≡ get_or points i d
point_there points i d low q = get_or_from_slice_get points i (get_or points i d) q (slice_get-get_or points i d low)

-- the word of a point, by a look-up that has the same shape and version under other names
pub read_moved : (s t : Shape) (version same : ℕ) (says : Note → Type 0) (p : Point) (slot level word : ℕ) → t ≡ s → same ≡ version
    → says (WordNote same slot (covering_place t level p.x p.y) word) → says (WordNote version slot (covering_place s level p.x p.y) word)
read_moved s t version same says p slot level word shape number h =
    subst (λ (n : ℕ). says (WordNote n slot (covering_place s level p.x p.y) word)) number
    (subst (λ (z : Shape). says (WordNote same slot (covering_place z level p.x p.y) word)) shape h)

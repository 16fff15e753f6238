-- What was drawn and counted of a row, by equations on its depth, its numbers and its length.
use Rattle.std.proofs.Common.{◌≡◌, ◌≢◌, ℕ, inl, inr, List, sym, subst}
use Rattle.vt_pages.specs.Depths.{IsDepth, texel_bytes}
use Rattle.vt_pages.specs.Shape.{Shape}
use Rattle.vt_camera.specs.Rows.{RowView}
use Rattle.vt_draw.specs.Lookups.{Note}
use Rattle.vt_draw.specs.Shots.{IsDrawn, AreDrawn, AreCounted}

pub two_left : (d : ℕ) → IsDepth d → d ≢ 1 → 2 ≡ d
two_left d (inl one) other = absurd (other one)
two_left d (inr two) other = sym two

pub drawn_as : (s : Shape) (e d v : ℕ) (says : Note → Type 0) (r t : RowView) (n m : ℕ) (out : List ℕ) → e ≡ d → r ≡ t → n ≡ m
    → AreDrawn s e v says r n out → AreDrawn s d v says t m out
drawn_as s e d v says r t n m out depth row width drawn =
    subst (λ (a : ℕ). AreDrawn s a v says t m out) depth
    (subst (λ (a : RowView). AreDrawn s e v says a m out) row (subst (λ (a : ℕ). AreDrawn s e v says r a out) width drawn))

pub counted_as : (s : Shape) (r t : RowView) (n m : ℕ) (old new : List ℕ) → r ≡ t → n ≡ m → AreCounted s r n old new → AreCounted s t m old new
counted_as s r t n m old new row width counted =
    subst (λ (a : RowView). AreCounted s a m old new) row (subst (λ (a : ℕ). AreCounted s r a old new) width counted)

-- a pixel that is drawn by what is said is drawn by all that is said besides
pub pixel_by_more : (s : Shape) (d version : ℕ) (says more : Note → Type 0) (row : RowView) (x : ℕ) (bytes : List ℕ)
    → ((note : Note) → says note → more note) → IsDrawn s d version says row x bytes → IsDrawn s d version more row x bytes
pixel_by_more s d version says more row x bytes on h = record {
  found = h.found;
  word = h.word;
  finest = record {
    no_finer = h.finest.no_finer;
    level_inside = h.finest.level_inside;
    page = h.finest.page;
    level = h.finest.level;
    unmapped = λ k from to. on _ (h.finest.unmapped k from to);
    mapped = on _ h.finest.mapped;
  };
  read = on _ h.read;
  shown = h.shown;
}

-- and so is a row
pub drawn_by_more : (s : Shape) (d version n : ℕ) (says more : Note → Type 0) (row : RowView) (bytes : List ℕ)
    → ((note : Note) → says note → more note) → AreDrawn s d version says row n bytes → AreDrawn s d version more row n bytes
drawn_by_more s d version n says more row bytes on drawn x inside =
    pixel_by_more s d version says more row x (texel_bytes d bytes x) on (drawn x inside)

-- The notes by which a pixel is drawn that is one texel.
use Rattle.std.proofs.Common.{◌≡◌, ℕ, zero, suc, ◌+◌, ◌-◌, ◌<◌, ◌≤◌, List, [], ◌∷◌, inl, inr, refl, ap, arith}
use Rattle.std.specs.Prelude.{All, Contains}
use Rattle.std.proofs.lemmas.Bool.{cases_lt}
use Rattle.std.proofs.lemmas.List.Elements.{All-nil, All-cons, All-contains, Contains-append_right}
use Rattle.vt_pages.specs.Depths.{texel_bytes}
use Rattle.vt_journal.specs.Shape.{Shape}
use Rattle.vt_journal.specs.Pages.{level_of, ancestor_of}
use Rattle.vt_draw.specs.Rows.{RowView}
use Rattle.vt_draw.specs.Lookups.{Note, EntryNote, WordNote}
use Rattle.vt_draw.specs.Shots.{wanted_page, drawn_place, IsDrawn, AreDrawn}
use Rattle.vt_draw.proofs.DrawnRows.{pixel_by_more}
use Rattle.vt_pictures.specs.Evidence.{IsBy, AreShown}

-- each page of a line is unmapped, at so many levels from one on
module _ (s : Shape) (version p : ℕ) where
  abbrev pub finer : ℕ → ℕ → List Note
  finer from zero = []
  finer from (suc n) = EntryNote version (ancestor_of s p from) 0 ∷ finer (suc from) n

  pub finer_said : (says : Note → Type 0) (from n : ℕ)
      → ((k : ℕ) → from ≤ k → k < from + n → says (EntryNote version (ancestor_of s p k) 0)) → All says (finer from n)
  finer_said says from zero each = All-nil says
  finer_said says from (suc n) each =
      All-cons says (EntryNote version (ancestor_of s p from) 0) (finer (suc from) n) (each from (omega arith) (omega arith))
      (finer_said says (suc from) n (λ k low high. each k (omega (arith, low)) (omega (arith, high))))

  pub finer_there : (from n k : ℕ) → from ≤ k → k < from + n → Contains (finer from n) (EntryNote version (ancestor_of s p k) 0)
  finer_there from zero k low high = absurd (omega (arith, low, high))
  finer_there from (suc n) k low high =
      elim (cases_lt from k) [
        | inl past ↦
            Contains-append_right (EntryNote version (ancestor_of s p from) 0 ∷ []) (finer (suc from) n) (EntryNote version (ancestor_of s p k) 0)
            (finer_there (suc from) n k (omega (arith, past)) (omega (arith, high)))
        | inr here ↦
            let same : from ≡ k = omega (arith, here, low) in
            (0, omega arith, ap (λ (i : ℕ). EntryNote version (ancestor_of s p i) 0) same)
      ]

-- a pixel that is drawn by what is said is drawn by a list of it: the entries of the finer pages, the entry found, and the word
pub by_notes : (s : Shape) (d version : ℕ) (says : Note → Type 0) (row : RowView) (x : ℕ) (bytes : List ℕ) → IsDrawn s d version says row x bytes
    → IsBy says (λ notes. IsDrawn s d version (Contains notes) row x bytes)
by_notes s d version says row x bytes drawn = record { notes = notes; said = said; so = so } where
  p : ℕ
  p = wanted_page s row x

  n : ℕ
  n = drawn.found.level - level_of s p

  read : Note
  read = WordNote version drawn.found.slot (drawn_place s row x drawn.found.level) drawn.word

  mapped : Note
  mapped = EntryNote version drawn.found.page (drawn.found.slot + 1)

  notes : List Note
  notes = read ∷ mapped ∷ finer s version p (level_of s p) n

  said : All says notes
  said = All-cons says read (mapped ∷ finer s version p (level_of s p) n) drawn.read
      (All-cons says mapped (finer s version p (level_of s p) n) drawn.finest.mapped
      (finer_said s version p says (level_of s p) n
      (λ k low high. drawn.finest.unmapped k low (let e = drawn.finest.no_finer in omega (arith, e, high)))))

  so : IsDrawn s d version (Contains notes) row x bytes
  so = record {
    found = drawn.found;
    word = drawn.word;
    finest = record {
      no_finer = drawn.finest.no_finer;
      level_inside = drawn.finest.level_inside;
      page = drawn.finest.page;
      level = drawn.finest.level;
      unmapped = λ k low high.
          Contains-append_right (read ∷ mapped ∷ []) (finer s version p (level_of s p) n) (EntryNote version (ancestor_of s p k) 0)
          (finer_there s version p (level_of s p) n k low (omega (arith, low, high)));
      mapped = (1, omega arith, refl);
    };
    read = (0, omega arith, refl);
    shown = drawn.shown;
  }

-- so is a row
pub row_by_notes : (s : Shape) (d version : ℕ) (says : Note → Type 0) (row : RowView) (n : ℕ) (bytes : List ℕ) → AreDrawn s d version says row n bytes
    → AreShown (λ s d version notes row x bytes. IsDrawn s d version (Contains notes) row x bytes) s d version says row n bytes
row_by_notes s d version says row n bytes drawn x inside = by_notes s d version says row x (texel_bytes d bytes x) (drawn x inside)

-- and what is drawn by notes that are said is drawn by what is said
pub row_by_said : (s : Shape) (d version : ℕ) (says : Note → Type 0) (row : RowView) (n : ℕ) (bytes : List ℕ)
    → AreShown (λ s d version notes row x bytes. IsDrawn s d version (Contains notes) row x bytes) s d version says row n bytes
    → AreDrawn s d version says row n bytes
row_by_said s d version says row n bytes shown x inside =
    let by = shown x inside in
    pixel_by_more s d version (Contains by.notes) says row x (texel_bytes d bytes x) (λ note has. All-contains says by.notes note by.said has) by.so

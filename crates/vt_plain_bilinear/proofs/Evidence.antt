-- The notes by which a pixel is blended.
use Rattle.std.proofs.Common.{ℕ, ◌+◌, ◌-◌, List, [], ◌∷◌, ◌++◌, refl, arith}
use Rattle.std.specs.Prelude.{All, Contains}
use Rattle.std.proofs.lemmas.List.Elements.{All-cons, All-append, Contains-append_left, Contains-append_right}
use Rattle.vt_definitions.specs.Depths.{texel_bytes}
use Rattle.vt_pages.specs.Shape.{Shape}
use Rattle.vt_pages.specs.Pages.{level_of, ancestor_of, texel_page}
use Rattle.vt_camera.specs.Rows.{RowView, row_level}
use Rattle.vt_draw.specs.Lookups.{Note, EntryNote, WordNote}
use Rattle.vt_pictures.specs.Evidence.{IsBy, AreShown}
use Rattle.vt_pictures.proofs.NearestNotes.{finer, finer_said, finer_there}
use Rattle.vt_blend.specs.Corners.{corners_of}
use Rattle.vt_plain_bilinear.specs.Served.{coarser_place, IsServed, IsBlended, AreBlended}
use Rattle.vt_plain_bilinear.proofs.Kept.{served_kept}

-- a word that is served by what is said is served by a list of it: the entries of the finer pages, the entry found, and the word
served_by_notes : (s : Shape) (version : ℕ) (says : Note → Type 0) (k x y word : ℕ) → IsServed s version says k x y word
    → IsBy says (λ notes. IsServed s version (Contains notes) k x y word)
served_by_notes s version says k x y word served = record { notes = notes; said = said; so = so } where
  p : ℕ
  p = texel_page s k x y

  n : ℕ
  n = served.found.level - level_of s p

  read : Note
  read = WordNote version served.found.slot (coarser_place s k served.found.level x y) word

  mapped : Note
  mapped = EntryNote version served.found.page (served.found.slot + 1)

  notes : List Note
  notes = read ∷ mapped ∷ finer s version p (level_of s p) n

  said : All says notes
  said = All-cons says read (mapped ∷ finer s version p (level_of s p) n) served.read
      (All-cons says mapped (finer s version p (level_of s p) n) served.finest.mapped
      (finer_said s version p says (level_of s p) n
      (λ k low high. served.finest.unmapped k low (let e = served.finest.no_finer in omega (arith, e, high)))))

  so : IsServed s version (Contains notes) k x y word
  so = record {
    found = served.found;
    finest = record {
      no_finer = served.finest.no_finer;
      level_inside = served.finest.level_inside;
      page = served.finest.page;
      level = served.finest.level;
      unmapped = λ k low high.
          Contains-append_right (read ∷ mapped ∷ []) (finer s version p (level_of s p) n) (EntryNote version (ancestor_of s p k) 0)
          (finer_there s version p (level_of s p) n k low (omega (arith, low, high)));
      mapped = (1, omega arith, refl);
    };
    read = (0, omega arith, refl);
  }

-- so is a blend, by the lists of its four texels
pub blended_by_notes : (s : Shape) (d version : ℕ) (says : Note → Type 0) (row : RowView) (x : ℕ) (bytes : List ℕ)
    → IsBlended s d version says row x bytes → IsBy says (λ notes. IsBlended s d version (Contains notes) row x bytes)
blended_by_notes s d version says row x bytes drawn =
    let k = row_level row in
    let c = corners_of row x in
    let t = drawn.texels in
    let a = served_by_notes s version says k c.column c.line t.first drawn.served.first in
    let b = served_by_notes s version says k c.next_column c.line t.second drawn.served.second in
    let e = served_by_notes s version says k c.column c.next_line t.third drawn.served.third in
    let f = served_by_notes s version says k c.next_column c.next_line t.fourth drawn.served.fourth in
    let front = a.notes ++ b.notes in
    let back = e.notes ++ f.notes in
    let all = front ++ back in
    let in_front : (note : Note) → Contains front note → Contains all note = λ note has. Contains-append_left front back note has in
    let in_back : (note : Note) → Contains back note → Contains all note = λ note has. Contains-append_right front back note has in
    record {
      notes = all;
      said = All-append says front back (All-append says a.notes b.notes a.said b.said) (All-append says e.notes f.notes e.said f.said);
      so = record {
        texels = t;
        served = record {
          first = served_kept s version (Contains a.notes) (Contains all) k c.column c.line t.first
              (λ note has. in_front note (Contains-append_left a.notes b.notes note has)) a.so;
          second = served_kept s version (Contains b.notes) (Contains all) k c.next_column c.line t.second
              (λ note has. in_front note (Contains-append_right a.notes b.notes note has)) b.so;
          third = served_kept s version (Contains e.notes) (Contains all) k c.column c.next_line t.third
              (λ note has. in_back note (Contains-append_left e.notes f.notes note has)) e.so;
          fourth = served_kept s version (Contains f.notes) (Contains all) k c.next_column c.next_line t.fourth
              (λ note has. in_back note (Contains-append_right e.notes f.notes note has)) f.so;
        };
        shown = drawn.shown;
      };
    }

-- so is a row
pub row_by_notes : (s : Shape) (d version : ℕ) (says : Note → Type 0) (row : RowView) (n : ℕ) (bytes : List ℕ) → AreBlended s d version says row n bytes
    → AreShown (λ s d version notes row x bytes. IsBlended s d version (Contains notes) row x bytes) s d version says row n bytes
row_by_notes s d version says row n bytes drawn x inside = blended_by_notes s d version says row x (texel_bytes d bytes x) (drawn x inside)

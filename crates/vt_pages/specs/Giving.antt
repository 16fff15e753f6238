-- A shape gives back all that a geometry keeps beside it, so that a geometry may be copied.
use Rattle.std.proofs.Common.{◌≡◌, ℕ, sym}
use Rattle.std.proofs.lemmas.List.FromFn.{fill_by_all}
use Rattle.vt_definitions.specs.Limits.{most_levels}
use Rattle.vt_definitions.specs.Sides.{side}
use Rattle.vt_pages.specs.declared.tables.Tables.{Tables}
use Rattle.vt_pages.specs.Shape.{Shape, tile_exponent}
use Rattle.vt_pages.specs.Tables.{IsTabled, IsGeometry, tables_of}
use Rattle.vt_pages.specs.Pages.{columns_at, rows_at, pages_below, levels_of, pages_of}

tables-tabled : (s : Shape) (t : Tables) → IsTabled s t → tables_of s ≡ t
unfolding tables_of
tables-tabled s t h = λ i. record {
  first = sym (fill_by_all (pages_below s) t.first most_levels 0 h.first_len h.first) i;
  columns = sym (fill_by_all (columns_at s) t.columns most_levels 0 h.columns_len h.columns) i;
  rows = sym (fill_by_all (rows_at s) t.rows most_levels 0 h.rows_len h.rows) i;
  widths = sym (fill_by_all (side s.width) t.widths most_levels 0 h.widths_len h.widths) i;
  heights = sym (fill_by_all (side s.height) t.heights most_levels 0 h.heights_len h.heights) i;
}

-- the shape says what the other fields are
pub record GivesBack (s : Shape) (e n p : ℕ) (t : Tables) : Type 0 where
  pub shift : tile_exponent s.tile ≡ e
  pub levels : levels_of s ≡ n
  pub pages : pages_of s ≡ p
  pub tables : tables_of s ≡ t

pub gives_back : {s : Shape} {e n p : ℕ} {t : Tables} → IsGeometry s e n p t → GivesBack s e n p t
gives_back {s} {e} {n} {p} {t} h = record {
  shift = sym h.tile_is.exponent;
  levels = sym h.levels_is;
  pages = sym h.pages_is;
  tables = tables-tabled s t h.tabled;
}

use Rattle.std.proofs.Common.{◌≡◌, ℕ, ◌<◌, ◌≤◌, length, slice_index}
use Rattle.vt_definitions.specs.Limits.{most_tiled_side, most_levels}
use Rattle.vt_definitions.specs.Sides.{side}
use Rattle.vt_pages.specs.Shape.{Shape}
use Rattle.vt_pages.specs.Pages.{columns_at, rows_at, pages_below}
use Rattle.vt_pages.proofs.tables.make_tables.Given as goal

abbrev pub invariant-loop-k : goal.invariant-loop-k
invariant-loop-k l =
    let s : Shape = record { width = l.width; height = l.height; tile = l.tile } in
    record {
      wide_is : l.wide ≡ side l.width l.k;
      wide_most : l.wide ≤ most_tiled_side;
      high_is : l.high ≡ side l.height l.k;
      high_most : l.high ≤ most_tiled_side;
      total_is : l.total ≡ pages_below s l.k;
      first_len : length l.first ≡ most_levels;
      columns_len : length l.columns ≡ most_levels;
      rows_len : length l.rows ≡ most_levels;
      widths_len : length l.widths ≡ most_levels;
      heights_len : length l.heights ≡ most_levels;
      first : (k : ℕ) → k < l.k → slice_index l.first k ≡ pages_below s k;
      columns : (k : ℕ) → k < l.k → slice_index l.columns k ≡ columns_at s k;
      rows : (k : ℕ) → k < l.k → slice_index l.rows k ≡ rows_at s k;
      widths : (k : ℕ) → k < l.k → slice_index l.widths k ≡ side l.width k;
      heights : (k : ℕ) → k < l.k → slice_index l.heights k ≡ side l.height k;
    }

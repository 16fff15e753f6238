-- How many texels of a row's pixels are in a page.
use Rattle.std.proofs.Common.{◌≡◌, ℕ, ◌+◌, ◌*◌, ◌^◌, ◌<◌, ◌≤◌, List, length, slice_index, arith}
use Rattle.vt_pages.specs.Shape.{Shape}
use Rattle.vt_camera.specs.Rows.{RowView}
use Rattle.vt_draw.specs.Shots.{run_of}
use Rattle.vt_draw.proofs.Counts.{run-own}
use Rattle.vt_plain_bilinear.specs.Served.{texels_wanting}
use Rattle.vt_plain_bilinear.specs.BlendPlain.{wants_four}

-- a page's count has room for its run, and for the texels of one pixel more
pub run_fits : (s : Shape) (row : RowView) (x columns page run p : ℕ) (old counts : List ℕ) → x < columns → p < length old
    → ((q : ℕ) → slice_index counts q + run_of page run q ≡ slice_index old q + texels_wanting s row x q)
    → ((q : ℕ) → q < length old → slice_index old q + 4 * columns < 2 ^ 32) → slice_index counts p + run_of page run p + 4 < 2 ^ 32
run_fits s row x columns page run p old counts few inside counted room =
    omega (arith, few, counted p, room p inside, wants_four s row x p)

-- and at the end the page that was seen last has room for its own
pub last_fits : (s : Shape) (row : RowView) (x columns page run : ℕ) (old counts : List ℕ) → x ≤ columns → page < length old
    → ((q : ℕ) → slice_index counts q + run_of page run q ≡ slice_index old q + texels_wanting s row x q)
    → ((q : ℕ) → q < length old → slice_index old q + 4 * columns < 2 ^ 32) → slice_index counts page + run < 2 ^ 32
last_fits s row x columns page run old counts few inside counted room =
    omega (arith, few, counted page, run-own page run, room page inside, wants_four s row x page)

-- How many of the texels of a pixel are in a page.
use Rattle.std.specs.Prelude.{ℕ, ◌+◌}
use Rattle.vt_draw.specs.Shots.{run_of}
use Rattle.vt_blend.specs.declared.counting.Pages.{Pages}

-- how many of four pages are page p
unfoldable pub times_among : Pages → ℕ → ℕ
times_among pages p = run_of pages.first 1 p + run_of pages.second 1 p + run_of pages.third 1 p + run_of pages.fourth 1 p

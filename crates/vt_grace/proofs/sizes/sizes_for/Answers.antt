use Rattle.std.proofs.Common.{◌≡◌, ◌+◌, ◌-◌, ◌≤◌, arith}
use Rattle.vt_journal.specs.Pages.{pages_of, root_of}
use Rattle.vt_journal.proofs.Lines.{reaches_root}
use Rattle.vt_grace.proofs.sizes.sizes_for.Goals as goal

pub returns-clause-sizes : goal.returns-clause-sizes
returns-clause-sizes c =
    let s = c.args.geometry.now in let limits = c.tile-tile.ensures.limits in let tile = c.tile-tile.ensures.tile in let pages = c.page_count-pages.ensures.pages in
    let some : 1 ≤ s.tile = let least = limits.least_tile in omega arith in
    let last : root_of s + 1 ≡ pages_of s = (reaches_root s 0 some limits.least_width limits.least_height (let page = limits.some_page in omega arith)).root_is_last in
    let root : c.page_count-pages.result - 1 ≡ root_of s = omega arith in
    rw (tile, pages) (let root : pages_of s - 1 ≡ root_of s = omega arith in rw root)

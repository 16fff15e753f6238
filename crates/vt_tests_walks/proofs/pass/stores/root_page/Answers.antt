use Rattle.std.proofs.Common.{◌≡◌, ◌+◌, ◌≤◌, arith}
use Rattle.vt_journal.specs.Pages.{pages_of, root_of}
use Rattle.vt_journal.proofs.Lines.{reaches_root}
use Rattle.vt_tests_walks.proofs.pass.stores.root_page.Goals as goal

pub returns-clause-root : goal.returns-clause-root
returns-clause-root c =
    let limits = c.page_count.ensures.limits in
    let some : 2 ≤ c.args.geometry.now.tile = limits.least_tile in
    let last : root_of c.args.geometry.now + 1 ≡ pages_of c.args.geometry.now =
    (reaches_root c.args.geometry.now 0 (omega arith) limits.least_width limits.least_height (omega (arith, limits.some_page))).root_is_last in
    omega (arith, last, c.page_count.ensures.pages)

use Rattle.std.proofs.Common.{◌≡◌, ◌∙◌, Some, sym, arith}
use Rattle.vt_pages.specs.Pages.{parent_of}
use Rattle.vt_pages.proofs.Parents.{parent_facts, level_below}
use Rattle.vt_residency.proofs.Finding.{found_here, found_up, found_none}
use Rattle.vt_residency.proofs.places.+find.Goals as goal

pub find-requires : goal.find-requires
find-requires t c =
    let parent : parent_of c.args.geometry.now c.args.page ≡ Some c.in-Some-parent.parent = sym c.parent.ensures.parent ∙ c.in-Some-parent.is in
    let h = parent_facts c.args.geometry.now c.args.page c.in-Some-parent.parent c.requires.limits c.requires.inside parent in
    let below = level_below c.args.geometry.now c.args.page c.requires.limits c.requires.inside in
    (omega (arith, h.level, c.decreases), (c.requires.long, (c.requires.limits, h.inside)))

pub returns-in-Some : goal.returns-in-Some
returns-in-Some t c =
    found_here c.args.geometry.now c.args.entries.now c.args.page c.in-Some.frame c.page_at.result.level c.requires.limits c.requires.inside
    c.in-Some.ensures c.page_at.ensures.level

pub returns-in-Some-parent : goal.returns-in-Some-parent
returns-in-Some-parent t c =
    found_up c.args.geometry.now c.args.entries.now c.args.page c.in-Some-parent.parent c.find.result c.requires.limits c.requires.inside
    (sym c.parent.ensures.parent ∙ c.in-Some-parent.is) c.in-None.ensures c.find.ensures

pub returns-in-None-parent : goal.returns-in-None-parent
returns-in-None-parent t c =
    found_none c.args.geometry.now c.args.entries.now c.args.page c.requires.limits c.requires.inside
    (sym c.parent.ensures.parent ∙ c.in-None-parent.is) c.in-None.ensures

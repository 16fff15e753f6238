use Rattle.std.proofs.Common.{◌≡◌, ℕ, ◌+◌, min, Some, None, List, slice_index, sym, ◌∙◌, arith}
use Rattle.vt_feedback.specs.Ranks.{most_pixels}
use Rattle.vt_pages.specs.Pages.{parent_of, pages_of}
use Rattle.vt_pages.proofs.Parents.{parent_facts, level_below}
use Rattle.vt_residency.proofs.Needing.{some_pixel, root_counted, page_counted, whole_more, line_counted}
use Rattle.vt_residency.proofs.Tallying.{counts_for_all}
use Rattle.vt_residency.proofs.needs.+count_line.Goals as goal

pub count_line-requires : goal.count_line-requires
count_line-requires t c =
    let parent : parent_of c.args.geometry.now c.args.page ≡ Some c.in-Some.parent = sym c.parent.ensures.parent ∙ c.in-Some.is in
    let h = parent_facts c.args.geometry.now c.args.page c.in-Some.parent c.requires.limits c.requires.inside parent in
    let below = level_below c.args.geometry.now c.args.page c.requires.limits c.requires.inside in
    (omega (arith, h.level, c.decreases), (c.requires.limits, (h.inside, (c.requires.tally, c.requires.whole))))

pub returns-in-Some-clause-counted : goal.returns-in-Some-clause-counted
returns-in-Some-clause-counted t c = λ p.
    let parent : parent_of c.args.geometry.now c.args.page ≡ Some c.in-Some.parent = sym c.parent.ensures.parent ∙ c.in-Some.is in
    let mid : List ℕ = c.count_line.new.tally.counts.items in
    let long = counts_for_all (pages_of c.args.geometry.now) mid c.count_line.new.tally.pages c.count_line.ensures.tally in
    page_counted c.args.geometry.now c.args.page c.requires.limits c.requires.inside c.args.tally.now.counts.items mid c.add.new.self.counts.items
    c.in-Some.parent (min most_pixels (slice_index mid c.args.page + 1)) p (omega (arith, long, c.requires.inside)) (some_pixel (slice_index mid c.args.page))
    parent (c.count_line.ensures.counted p) c.add.ensures.counts

pub returns-in-Some-clause-whole : goal.returns-in-Some-clause-whole
returns-in-Some-clause-whole t c =
    let mid : List ℕ = c.count_line.new.tally.counts.items in
    let long = counts_for_all (pages_of c.args.geometry.now) mid c.count_line.new.tally.pages c.count_line.ensures.tally in
    whole_more c.args.geometry.now mid c.add.new.self.counts.items c.args.page (min most_pixels (slice_index mid c.args.page + 1))
    c.count_line.ensures.whole (omega (arith, long, c.requires.inside)) (some_pixel (slice_index mid c.args.page)) c.add.ensures.counts
    (λ q there. line_counted c.args.geometry.now c.args.tally.now.counts.items c.add.new.self.counts.items c.args.page q (returns-in-Some-clause-counted t c q) there)

pub returns-in-None-clause-counted : goal.returns-in-None-clause-counted
returns-in-None-clause-counted t c = λ p.
    let none : parent_of c.args.geometry.now c.args.page ≡ None = sym c.parent.ensures.parent ∙ c.in-None.is in
    let old : List ℕ = c.args.tally.now.counts.items in
    let long = counts_for_all (pages_of c.args.geometry.now) old c.args.tally.now.pages c.requires.tally in
    root_counted c.args.geometry.now c.args.page c.requires.limits c.requires.inside old c.add-in-None.new.self.counts.items
    (min most_pixels (slice_index old c.args.page + 1)) p (omega (arith, long, c.requires.inside)) (some_pixel (slice_index old c.args.page)) none
    c.add-in-None.ensures.counts

pub returns-in-None-clause-whole : goal.returns-in-None-clause-whole
returns-in-None-clause-whole t c =
    let old : List ℕ = c.args.tally.now.counts.items in
    let long = counts_for_all (pages_of c.args.geometry.now) old c.args.tally.now.pages c.requires.tally in
    whole_more c.args.geometry.now old c.add-in-None.new.self.counts.items c.args.page (min most_pixels (slice_index old c.args.page + 1))
    c.requires.whole (omega (arith, long, c.requires.inside)) (some_pixel (slice_index old c.args.page)) c.add-in-None.ensures.counts
    (λ q there. line_counted c.args.geometry.now old c.add-in-None.new.self.counts.items c.args.page q (returns-in-None-clause-counted t c q) there)

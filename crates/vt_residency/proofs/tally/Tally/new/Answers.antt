use Rattle.std.proofs.Common.{ap, ◌∙◌, replicate, arith}
use Rattle.vt_pages.specs.Pages.{pages_of}
use Rattle.vt_residency.proofs.Tallying.{first_tally}
use Rattle.vt_residency.proofs.tally.Tally.new.Goals as goal

pub returns-clause-tally : goal.returns-clause-tally
returns-clause-tally c =
    first_tally (pages_of c.args.geometry.now) c.in_ok-counts.counts.items c.reserve.new.self
    (c.in_ok-counts.ensures.items_if_clones_equal (λ y e. e) ∙ ap (λ n. replicate n 0) c.page_count-pages.ensures.pages)
    (c.reserve.ensures.elements ∙ c.new-listed.ensures) (omega (arith, c.in_ok-reserve.ensures.room, c.page_count-pages.ensures.pages))

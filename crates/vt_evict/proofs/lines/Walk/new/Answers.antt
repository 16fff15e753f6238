use Rattle.std.proofs.Common.{ap, ◌∙◌, replicate, false, arith}
use Rattle.vt_plan.specs.Pages.{pages_of}
use Rattle.vt_evict.proofs.WalkLemmas.{no_walk}
use Rattle.vt_evict.proofs.lines.Walk.new.Goals as goal

pub returns-clause-walk : goal.returns-clause-walk
returns-clause-walk c =
    no_walk (pages_of c.args.geometry.now) c.in_ok-marks.marks.items c.reserve.new.self
    (c.in_ok-marks.ensures.items_if_clones_equal (λ y e. e) ∙ ap (λ n. replicate n false) c.page_count-pages.ensures.pages)
    (c.reserve.ensures.elements ∙ c.new-walked.ensures) (omega (arith, c.in_ok-reserve.ensures.room))

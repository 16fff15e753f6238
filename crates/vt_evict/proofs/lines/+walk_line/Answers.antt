use Rattle.std.proofs.Common.{◌≡◌, ℕ, ◌∙◌, List, sym, ap, subst, Some, None, true, false, arith}
use Rattle.vt_plan.specs.Pages.{parent_of}
use Rattle.vt_plan.specs.PageLists.{is_in}
use Rattle.vt_evict.proofs.LineLemmas.{over_none, over_root, over_more, still_new, parent_in, closed_push}
use Rattle.vt_plan.proofs.Parents.{parent_facts, level_below}
use Rattle.vt_evict.proofs.lines.+walk_line.Goals as goal

pub returns-then-is_marked-clause-walked : goal.returns-then-is_marked-clause-walked
returns-then-is_marked-clause-walked t c =
    over_none c.args.geometry.now c.args.walk.now.walked.elements c.args.page c.requires.limits c.requires.closed c.requires.inside (cc)

pub walk_line-requires : goal.walk_line-requires
walk_line-requires t c =
    let parent : parent_of c.args.geometry.now c.args.page ≡ Some c.in-Some.parent = sym c.parent.ensures.parent ∙ c.in-Some.is in
    let h = parent_facts c.args.geometry.now c.args.page c.in-Some.parent c.requires.limits c.requires.inside parent in
    let below = level_below c.args.geometry.now c.args.page c.requires.limits c.requires.inside in
    (omega (arith, h.level, c.decreases), (c.requires.limits, (h.inside, (c.requires.walk, c.requires.closed))))

pub add-requires-clause-new : goal.add-requires-clause-new
add-requires-clause-new t c =
    let parent : parent_of c.args.geometry.now c.args.page ≡ Some c.in-Some.parent = sym c.parent.ensures.parent ∙ c.in-Some.is in
    let new : is_in c.args.walk.now.walked.elements c.args.page ≡ false = sym c.is_marked.ensures ∙ c.if-is_marked.false in
    ap (λ (l : List ℕ). is_in l c.args.page) c.walk_line.ensures.walked
    ∙ still_new c.args.geometry.now c.args.walk.now.walked.elements c.args.page c.in-Some.parent c.requires.limits c.requires.inside parent new

pub returns-in-Some-clause-closed : goal.returns-in-Some-clause-closed
returns-in-Some-clause-closed t c =
    let parent : parent_of c.args.geometry.now c.args.page ≡ Some c.in-Some.parent = sym c.parent.ensures.parent ∙ c.in-Some.is in
    let h = parent_facts c.args.geometry.now c.args.page c.in-Some.parent c.requires.limits c.requires.inside parent in
    let there = ap (λ (l : List ℕ). is_in l c.in-Some.parent) c.walk_line.ensures.walked
    ∙ parent_in c.args.geometry.now c.args.walk.now.walked.elements c.in-Some.parent c.requires.limits h.inside in
    rw c.add.ensures.added (closed_push c.args.geometry.now c.walk_line.new.walk.walked.elements c.args.page c.walk_line.ensures.closed
    (λ q e. let two : Some c.in-Some.parent ≡ Some q = sym parent ∙ e in let same : c.in-Some.parent ≡ q = (cc) in
    subst (λ (r : ℕ). is_in c.walk_line.new.walk.walked.elements r ≡ true) same there))

pub returns-in-Some-clause-walked : goal.returns-in-Some-clause-walked
returns-in-Some-clause-walked t c =
    let parent : parent_of c.args.geometry.now c.args.page ≡ Some c.in-Some.parent = sym c.parent.ensures.parent ∙ c.in-Some.is in
    let new : is_in c.args.walk.now.walked.elements c.args.page ≡ false = sym c.is_marked.ensures ∙ c.if-is_marked.false in
    c.add.ensures.added ∙ over_more c.args.geometry.now c.args.walk.now.walked.elements c.walk_line.new.walk.walked.elements c.args.page c.in-Some.parent
    c.requires.limits c.requires.inside parent new c.walk_line.ensures.walked

pub returns-in-None-clause-walked : goal.returns-in-None-clause-walked
returns-in-None-clause-walked t c =
    let none : parent_of c.args.geometry.now c.args.page ≡ None = sym c.parent.ensures.parent ∙ c.in-None.is in
    let new : is_in c.args.walk.now.walked.elements c.args.page ≡ false = sym c.is_marked.ensures ∙ c.if-is_marked.false in
    c.add-in-None.ensures.added
    ∙ over_root c.args.geometry.now c.args.walk.now.walked.elements c.args.page c.requires.limits c.requires.inside none new

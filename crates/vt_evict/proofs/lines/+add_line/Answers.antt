use Rattle.std.proofs.Common.{◌≡◌, ℕ, ◌∙◌, List, sym, ap, subst, Some, None, true, false, arith}
use Rattle.indexmap.proofs.MapLemmas.{OnOk-map}
use Rattle.vt_plan.specs.Pages.{parent_of}
use Rattle.vt_plan.proofs.Parents.{parent_facts, level_below}
use Rattle.vt_plan.specs.PageLists.{is_in}
use Rattle.vt_evict.specs.Kept.{HasParents}
use Rattle.vt_evict.proofs.LineLemmas.{over_none, over_root, over_more, still_new, parent_in, closed_push, with_new}
use Rattle.vt_evict.proofs.lines.+add_line.Goals as goal

pub returns-then-contains-clause-added : goal.returns-then-contains-clause-added
returns-then-contains-clause-added t c =
    over_none c.args.geometry.now c.args.pages.now.keys c.args.page c.requires.limits c.requires.closed c.requires.inside (cc)

pub add_line-requires : goal.add_line-requires
add_line-requires t c =
    let parent : parent_of c.args.geometry.now c.args.page ≡ Some c.in-Some.parent = sym c.parent.ensures.parent ∙ c.in-Some.is in
    let h = parent_facts c.args.geometry.now c.args.page c.in-Some.parent c.requires.limits c.requires.inside parent in
    let below = level_below c.args.geometry.now c.args.page c.requires.limits c.requires.inside in
    (omega (arith, h.level, c.decreases), (c.requires.limits, (h.inside, c.requires.closed)))

pub returns-in_ok-add_line-in-Some-clause-closed : goal.returns-in_ok-add_line-in-Some-clause-closed
returns-in_ok-add_line-in-Some-clause-closed t c =
    let parent : parent_of c.args.geometry.now c.args.page ≡ Some c.in-Some.parent = sym c.parent.ensures.parent ∙ c.in-Some.is in
    let h = parent_facts c.args.geometry.now c.args.page c.in-Some.parent c.requires.limits c.requires.inside parent in
    let new : is_in c.args.pages.now.keys c.args.page ≡ false = sym c.contains.ensures ∙ c.if-contains.false in
    let absent : is_in c.add_line.new.pages.keys c.args.page ≡ false = ap (λ (l : List ℕ). is_in l c.args.page) c.in_ok-add_line-in-Some.ensures.added
    ∙ still_new c.args.geometry.now c.args.pages.now.keys c.args.page c.in-Some.parent c.requires.limits c.requires.inside parent new in
    let there : is_in c.add_line.new.pages.keys c.in-Some.parent ≡ true = ap (λ (l : List ℕ). is_in l c.in-Some.parent) c.in_ok-add_line-in-Some.ensures.added
    ∙ parent_in c.args.geometry.now c.args.pages.now.keys c.in-Some.parent c.requires.limits h.inside in
    OnOk-map c.add_page.result _ _ (λ e. subst (HasParents c.args.geometry.now) (sym (e ∙ with_new c.add_line.new.pages.keys c.args.page absent))
    (closed_push c.args.geometry.now c.add_line.new.pages.keys c.args.page c.in_ok-add_line-in-Some.ensures.closed
    (λ q e. let two : Some c.in-Some.parent ≡ Some q = sym parent ∙ e in let same : c.in-Some.parent ≡ q = (cc) in
    subst (λ (r : ℕ). is_in c.add_line.new.pages.keys r ≡ true) same there))) c.add_page.ensures

pub returns-in_ok-add_line-in-Some-clause-added : goal.returns-in_ok-add_line-in-Some-clause-added
returns-in_ok-add_line-in-Some-clause-added t c =
    let parent : parent_of c.args.geometry.now c.args.page ≡ Some c.in-Some.parent = sym c.parent.ensures.parent ∙ c.in-Some.is in
    let new : is_in c.args.pages.now.keys c.args.page ≡ false = sym c.contains.ensures ∙ c.if-contains.false in
    let absent : is_in c.add_line.new.pages.keys c.args.page ≡ false = ap (λ (l : List ℕ). is_in l c.args.page) c.in_ok-add_line-in-Some.ensures.added
    ∙ still_new c.args.geometry.now c.args.pages.now.keys c.args.page c.in-Some.parent c.requires.limits c.requires.inside parent new in
    OnOk-map c.add_page.result _ _ (λ e. e ∙ with_new c.add_line.new.pages.keys c.args.page absent
    ∙ over_more c.args.geometry.now c.args.pages.now.keys c.add_line.new.pages.keys c.args.page c.in-Some.parent
    c.requires.limits c.requires.inside parent new c.in_ok-add_line-in-Some.ensures.added) c.add_page.ensures

pub returns-in-None-clause-added : goal.returns-in-None-clause-added
returns-in-None-clause-added t c =
    let none : parent_of c.args.geometry.now c.args.page ≡ None = sym c.parent.ensures.parent ∙ c.in-None.is in
    let new : is_in c.args.pages.now.keys c.args.page ≡ false = sym c.contains.ensures ∙ c.if-contains.false in
    OnOk-map c.add_page-in-None.result _ _ (λ e. e ∙ with_new c.args.pages.now.keys c.args.page new
    ∙ over_root c.args.geometry.now c.args.pages.now.keys c.args.page c.requires.limits c.requires.inside none new) c.add_page-in-None.ensures

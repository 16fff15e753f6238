use Rattle.std.proofs.Common.{◌≡◌, ◌++◌, ◌∷◌, ℕ, List, [], ◌∙◌, ap, arith}
use Rattle.vt_pages.specs.Pages.{root_of}
use Rattle.vt_journal.specs.declared.changes.Change.{Change}
use Rattle.vt_journal.specs.declared.changes.Change.TheVariants.{Map, Unmap}
use Rattle.vt_table.proofs.FewChanges.{after_one, none_after_root, root_after_two, page_after_two, root_after_three}
use Rattle.vt_tests_cache.proofs.table.is_changed.Goals as goal

apart : ◌≡◌ {A = ℕ} 0 1 → ⊥
apart e = absurd (omega (arith, e))

pub fill-requires-clause-free : goal.fill-requires-clause-free
fill-requires-clause-free c p e = after_one c.in-Ok-with_root.table.changes 4 0 p 1 c.in-Ok-with_root.ensures.changes apart e

pub fill-requires-2-clause-free : goal.fill-requires-2-clause-free
fill-requires-2-clause-free c p e = after_one c.fill.new.self.changes 4 0 p 1 (c.fill.ensures.changes ∙ c.in-Ok-with_root.ensures.changes) apart e

pub publish-second-requires-clause-legal : goal.publish-second-requires-clause-legal
publish-second-requires-clause-legal c =
    let one = c.fill-2.ensures.changes ∙ c.fill.ensures.changes ∙ c.in-Ok-with_root.ensures.changes in
    ((none_after_root c.fill-2.new.self.changes one, λ p e. after_one c.fill-2.new.self.changes 4 0 p 1 one apart e), tt)

pub word-word-requires-clause-mapped : goal.word-word-requires-clause-mapped
word-word-requires-clause-mapped c =
    let one = c.fill-2.ensures.changes ∙ c.fill.ensures.changes ∙ c.in-Ok-with_root.ensures.changes in
    (4, root_after_two c.publish-second.new.self.changes (c.publish-second.ensures.changes ∙ ap (λ (js : List Change). js ++ Map 0 1 ∷ []) one))

pub word-wide_word-requires-clause-mapped : goal.word-wide_word-requires-clause-mapped
word-wide_word-requires-clause-mapped c =
    let one = c.fill-2.ensures.changes ∙ c.fill.ensures.changes ∙ c.in-Ok-with_root.ensures.changes in
    (0, page_after_two c.publish-second.new.self.changes (c.publish-second.ensures.changes ∙ ap (λ (js : List Change). js ++ Map 0 1 ∷ []) one))

pub publish-third-requires-clause-legal : goal.publish-third-requires-clause-legal
publish-third-requires-clause-legal c =
    let one = c.fill-2.ensures.changes ∙ c.fill.ensures.changes ∙ c.in-Ok-with_root.ensures.changes in
    let root : root_of c.publish-second.new.self.shape ≡ 4 =
    ap root_of (c.publish-second.ensures.shape ∙ c.fill-2.ensures.shape ∙ c.fill.ensures.shape) ∙ c.in-Ok-with_root.ensures.root in (
      page_after_two c.publish-second.new.self.changes (c.publish-second.ensures.changes ∙ ap (λ (js : List Change). js ++ Map 0 1 ∷ []) one),
      λ e. absurd (omega (arith, e, root)),
    )

pub word-last_word-requires-clause-mapped : goal.word-last_word-requires-clause-mapped
word-last_word-requires-clause-mapped c =
    let one = c.fill-2.ensures.changes ∙ c.fill.ensures.changes ∙ c.in-Ok-with_root.ensures.changes in
    let two = c.publish-second.ensures.changes ∙ ap (λ (js : List Change). js ++ Map 0 1 ∷ []) one in
    (4, root_after_three c.publish-third.new.self.changes (c.publish-third.ensures.changes ∙ ap (λ (js : List Change). js ++ Unmap 0 1 ∷ []) two))

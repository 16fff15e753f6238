use Rattle.std.proofs.Common.{◌∙◌, ap, arith, length, List, [], ◌∷◌, ◌++◌}
use Rattle.std.specs.Prelude.{drop}
use Rattle.vt_journal.specs.declared.changes.Change.{Change}
use Rattle.vt_journal.specs.declared.changes.Change.TheVariants.{Map}
use Rattle.vt_swap_steps.specs.Tables.{IsPublished}
use Rattle.vt_swap_steps.proofs.Published.{if_some_on, published_filled, may_map, journal_filled}
use Rattle.vt_swap_steps.proofs.filling.fill_and_map.Goals as goal

pub note_and_publish-requires-clause-published : goal.note_and_publish-requires-clause-published
note_and_publish-requires-clause-published g c =
    if_some_on c.args.home.now (λ w. IsPublished w.desk.shown.value (drop w.behind w.log.items) c.args.front.now)
    (λ w. IsPublished w.desk.shown.value (drop w.behind w.log.items) c.fill_slot.new.front)
    (λ w h. published_filled w.desk.shown.value (drop w.behind w.log.items) c.args.front.now c.fill_slot.new.front c.args.frame c.args.page c.args.words.items
    h c.fill_slot.ensures.cache c.in_ok-before.ensures.noted) c.requires.published

pub note_and_publish-requires-clause-may : goal.note_and_publish-requires-clause-may
note_and_publish-requires-clause-may g c =
    may_map c.args.front.now c.fill_slot.new.front c.args.frame c.args.page c.args.words.items c.in_ok-before.ensures.noted c.requires.next

pub note_and_publish-requires-clause-early : goal.note_and_publish-requires-clause-early
note_and_publish-requires-clause-early g c =
    omega (
      arith,
      c.requires.early,
      ap length (journal_filled c.args.front.now c.fill_slot.new.front c.args.frame c.args.page c.args.words.items c.in_ok-before.ensures.noted),
    )

pub returns-clause-journal : goal.returns-clause-journal
returns-clause-journal g c =
    c.in_ok-note_and_publish.ensures.journal
    ∙ ap (λ (js : List Change). js ++ Map c.args.page c.args.frame ∷ [])
    (journal_filled c.args.front.now c.fill_slot.new.front c.args.frame c.args.page c.args.words.items c.in_ok-before.ensures.noted)

use Rattle.std.proofs.Common.{arith, ◌+◌, sym, ap, ◌∙◌, subst}
use Rattle.vt_table.specs.Changes.{newest, changed}
use Rattle.vt_grace.specs.declared.sizes.Sizes.{Sizes}
use Rattle.vt_grace.specs.WriterViews.{version_of}
use Rattle.vt_grace.specs.Places.{bank_of}
use Rattle.vt_grace.specs.Banks.{StandsForTable}
use Rattle.vt_streamer.proofs.Leading.{lead_any, asked_for, entered_more, rotated_next, published_by}
use Rattle.vt_streamer.proofs.banks.put_next.Goals as goal

pub publish-requires-clause-asked : goal.publish-requires-clause-asked
publish-requires-clause-asked c = let led = c.lead_on.ensures in let step = c.advance.ensures in let inside = c.requires.inside in
    let js = c.args.writer.now.view.journal in
    let stands = lead_any c.args.words.now.sizes c.args.writer.now.view _ _ (newest js) c.args.change led.of.sizes led.entered step.view
    inside.page_inside led.sound.entries led.stands in
    asked_for c.args.words.now.sizes c.args.writer.now.view _ js c.args.change step.of.sizes
    (ap (λ w. w.journal) step.view ∙ ap (λ w. w.journal) led.entered.rest)
    (ap (λ w. version_of w) step.view ∙ ap (λ w. version_of w) led.entered.rest) inside.page_inside c.requires.next stands

pub returns-clause-rotated : goal.returns-clause-rotated
returns-clause-rotated c = let led = c.lead_on.ensures in let step = c.advance.ensures in let inside = c.requires.inside in let z = c.requires.of.sizes in
    let js = c.args.writer.now.view.journal in
    let stands = lead_any c.args.words.now.sizes c.args.writer.now.view _ _ (newest js) c.args.change led.of.sizes led.entered step.view
    inside.page_inside led.sound.entries led.stands in
    rotated_next c.args.writer.now.view c.advance.new.writer.view _ c.args.change
    (entered_more _ _ _ _ _ led.entered step.view (let page = inside.page_inside in let count = ap (λ z. z.pages) led.of.sizes in omega arith))
    c.publish.ensures.view c.requires.rotated
    (subst (λ (x : Sizes). StandsForTable x c.advance.new.writer.view.entries (changed (newest js) c.args.change) (bank_of (version_of c.args.writer.now.view + 1)))
    (sym z) stands)

pub returns-clause-published : goal.returns-clause-published
returns-clause-published c = published_by _ _ _ _ _ _ c.args.change c.lead_on.ensures.entered c.advance.ensures.view c.publish.ensures.view

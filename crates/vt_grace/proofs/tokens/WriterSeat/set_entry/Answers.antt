use Rattle.std.proofs.Common.{arith, sym, ap, ◌∙◌, subst}
use Rattle.vt_grace.specs.Values.{WriterValue}
use Rattle.vt_grace.specs.WriterViews.{version_of, after_entry}
use Rattle.vt_grace.specs.Sound.{IsSound}
use Rattle.vt_grace.specs.Banks.{MayWriteNext}
use Rattle.vt_grace.proofs.WriterSteps.{enters, sees_writer, word_of_next}
use Rattle.vt_grace.proofs.tokens.WriterSeat.set_entry.Goals as goal

pub store-requires : goal.store-requires
store-requires c = let own = c.self.invariant in let same = c.self.view_is in let sizes = ap (λ v. v.view.sizes) same ∙ (c.requires.of.sizes ∙ sym (ap (λ v. v.sizes) c.words.view_is)) in (
  ap (λ v. v.table) same ∙ (c.requires.of.table ∙ sym (ap (λ v. v.table) c.words.view_is)),
  (let low = c.word_of_entry-word.ensures.inside in let wide = c.words.invariant.0 in omega arith),
  enters _ _ _ c.args.page c.args.entry _ _ own.0 (let inside = c.requires.inside in let more = ap (λ v. v.sizes.pages) c.words.view_is in let count = ap (λ z. z.pages) sizes in omega arith) (let small = c.requires.small in let more = ap (λ v. v.sizes.frames) c.words.view_is in let count = ap (λ z. z.frames) sizes in omega arith)
      (subst (λ (v : WriterValue). MayWriteNext v.view) (sym same) c.requires.floors) _ (word_of_next _ _ _ _ _ c.args.page sizes own.1 c.word_of_entry-word.ensures.word),
)

pub invariant_of-self : goal.invariant_of-self
invariant_of-self c = let own = c.self.invariant in let sizes = ap (λ v. v.view.sizes) c.self.view_is ∙ (c.requires.of.sizes ∙ sym (ap (λ v. v.sizes) c.words.view_is)) in
    let heard = c.store.ensures.2 c.args.page (word_of_next _ _ _ _ _ c.args.page sizes own.1 c.word_of_entry-word.ensures.word) in
    let seen = sees_writer _ _ heard.0 in (seen.0, own.1 ∙ sym (ap (λ w. version_of w) seen.1), own.2)

pub returns-clause-of : goal.returns-clause-of
returns-clause-of c = let same = c.self.view_is in let sizes = ap (λ v. v.view.sizes) same ∙ (c.requires.of.sizes ∙ sym (ap (λ v. v.sizes) c.words.view_is)) in
    let heard = c.store.ensures.2 c.args.page (word_of_next _ _ _ _ _ c.args.page sizes c.self.invariant.1 c.word_of_entry-word.ensures.word) in
    record { limits = c.requires.of.limits; table = c.store.ensures.0 ∙ (ap (λ v. v.table) same ∙ c.requires.of.table); sizes = ap (λ w. w.sizes) (sees_writer _ _ heard.0).1 ∙ (sizes ∙ ap (λ v. v.sizes) c.words.view_is) }

pub returns-clause-view : goal.returns-clause-view
returns-clause-view c = let same = c.self.view_is in let sizes = ap (λ v. v.view.sizes) same ∙ (c.requires.of.sizes ∙ sym (ap (λ v. v.sizes) c.words.view_is)) in
    let heard = c.store.ensures.2 c.args.page (word_of_next _ _ _ _ _ c.args.page sizes c.self.invariant.1 c.word_of_entry-word.ensures.word) in
    (sees_writer _ _ heard.0).1 ∙ ap (λ (v : WriterValue). after_entry v.view c.args.page c.args.entry) same

pub returns-clause-sound : goal.returns-clause-sound
returns-clause-sound c = let sizes = ap (λ v. v.view.sizes) c.self.view_is ∙ (c.requires.of.sizes ∙ sym (ap (λ v. v.sizes) c.words.view_is)) in
    let heard = c.store.ensures.2 c.args.page (word_of_next _ _ _ _ _ c.args.page sizes c.self.invariant.1 c.word_of_entry-word.ensures.word) in subst IsSound (sym (sees_writer _ _ heard.0).1) heard.1

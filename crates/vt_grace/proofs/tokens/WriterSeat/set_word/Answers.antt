use Rattle.std.proofs.Common.{arith, sym, ap, ◌∙◌, subst}
use Rattle.vt_grace.specs.Values.{WriterValue}
use Rattle.vt_grace.specs.WriterViews.{version_of, after_word}
use Rattle.vt_grace.specs.Places.{texel_word}
use Rattle.vt_grace.specs.Sound.{IsSound}
use Rattle.vt_grace.specs.Banks.{MayFill}
use Rattle.vt_grace.proofs.WriterSteps.{fills, sees_writer}
use Rattle.vt_grace.proofs.tokens.WriterSeat.set_word.Goals as goal

pub store-requires : goal.store-requires
store-requires c = let own = c.self.invariant in let same = c.self.view_is in let sizes = ap (λ v. v.view.sizes) same ∙ (c.requires.of.sizes ∙ sym (ap (λ v. v.sizes) c.words.view_is)) in (
  ap (λ v. v.table) same ∙ (c.requires.of.table ∙ sym (ap (λ v. v.table) c.words.view_is)),
  (let low = c.word_of_texel-at.ensures.inside in let wide = c.words.invariant.0 in omega arith),
  fills _ _ _ c.args.frame c.args.place c.args.word _ _ own.0 (let inside = c.requires.frame in let more = ap (λ v. v.sizes.frames) c.words.view_is in let count = ap (λ z. z.frames) sizes in omega arith) (let inside = c.requires.inside in let more = ap (λ v. v.sizes.texels) c.words.view_is in let count = ap (λ z. z.texels) sizes in omega arith)
      (subst (λ (v : WriterValue). MayFill v.view c.args.frame) (sym same) c.requires.unmapped) _ (c.word_of_texel-at.ensures.word ∙ ap (λ z. texel_word z c.args.frame c.args.place) (sym sizes)),
)

pub invariant_of-self : goal.invariant_of-self
invariant_of-self c = let own = c.self.invariant in let sizes = ap (λ v. v.view.sizes) c.self.view_is ∙ (c.requires.of.sizes ∙ sym (ap (λ v. v.sizes) c.words.view_is)) in
    let heard = c.store.ensures.2 c.args.frame c.args.place (let inside = c.requires.inside in let more = ap (λ v. v.sizes.texels) c.words.view_is in let count = ap (λ z. z.texels) sizes in omega arith) (c.word_of_texel-at.ensures.word ∙ ap (λ z. texel_word z c.args.frame c.args.place) (sym sizes)) in
    let seen = sees_writer _ _ heard.0 in (seen.0, own.1 ∙ sym (ap (λ w. version_of w) seen.1), own.2)

pub returns-clause-of : goal.returns-clause-of
returns-clause-of c = let same = c.self.view_is in let sizes = ap (λ v. v.view.sizes) same ∙ (c.requires.of.sizes ∙ sym (ap (λ v. v.sizes) c.words.view_is)) in
    let heard = c.store.ensures.2 c.args.frame c.args.place (let inside = c.requires.inside in let more = ap (λ v. v.sizes.texels) c.words.view_is in let count = ap (λ z. z.texels) sizes in omega arith) (c.word_of_texel-at.ensures.word ∙ ap (λ z. texel_word z c.args.frame c.args.place) (sym sizes)) in
    record { limits = c.requires.of.limits; table = c.store.ensures.0 ∙ (ap (λ v. v.table) same ∙ c.requires.of.table); sizes = ap (λ w. w.sizes) (sees_writer _ _ heard.0).1 ∙ (sizes ∙ ap (λ v. v.sizes) c.words.view_is) }

pub returns-clause-view : goal.returns-clause-view
returns-clause-view c = let same = c.self.view_is in let sizes = ap (λ v. v.view.sizes) same ∙ (c.requires.of.sizes ∙ sym (ap (λ v. v.sizes) c.words.view_is)) in
    let heard = c.store.ensures.2 c.args.frame c.args.place (let inside = c.requires.inside in let more = ap (λ v. v.sizes.texels) c.words.view_is in let count = ap (λ z. z.texels) sizes in omega arith) (c.word_of_texel-at.ensures.word ∙ ap (λ z. texel_word z c.args.frame c.args.place) (sym sizes)) in
    (sees_writer _ _ heard.0).1 ∙ ap (λ (v : WriterValue). after_word v.view c.args.frame c.args.place c.args.word) same

pub returns-clause-sound : goal.returns-clause-sound
returns-clause-sound c = let sizes = ap (λ v. v.view.sizes) c.self.view_is ∙ (c.requires.of.sizes ∙ sym (ap (λ v. v.sizes) c.words.view_is)) in
    let heard = c.store.ensures.2 c.args.frame c.args.place (let inside = c.requires.inside in let more = ap (λ v. v.sizes.texels) c.words.view_is in let count = ap (λ z. z.texels) sizes in omega arith) (c.word_of_texel-at.ensures.word ∙ ap (λ z. texel_word z c.args.frame c.args.place) (sym sizes)) in
    subst IsSound (sym (sees_writer _ _ heard.0).1) heard.1

use Rattle.std.proofs.Common.{◌≡◌, ◌∙◌, ap}
use Rattle.std.specs.Prelude.{is_some}
use Rattle.vt_journal.specs.Changes.{newest}
use Rattle.vt_grace.specs.declared.sizes.Sizes.{Sizes}
use Rattle.vt_grace.specs.declared.views.PassView.{PassView}
use Rattle.vt_tests_words.proofs.Small.{root_is_4}
use Rattle.vt_tests_words.proofs.sampler.rooted_pass.Goals as goal

pub returns-clause-rooted : goal.returns-clause-rooted
returns-clause-rooted c =
    let v = c.args.streamer.now in
    let h = c.requires.small in
    let root : v.writer.sizes.root ≡ 4 =
    ap (λ (z : Sizes). z.root) h.of.seen ∙ ap (λ (z : Sizes). z.root) h.of.sizes ∙ root_is_4 c.args.words.now 3 v h in
    ap (λ (p : PassView). p.rooted) c.give_pass.ensures.pass
    ∙ ap (λ n. is_some (newest v.writer.journal n)) root ∙ ap is_some c.if-not-is_mapped_to.ensures

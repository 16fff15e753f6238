use Rattle.std.proofs.Common.{arith, [], ◌∷◌, sym, ap, ◌∙◌, subst, length-append}
use Rattle.vt_grace.specs.Values.{WriterValue}
use Rattle.vt_grace.specs.Seats.{writer_at}
use Rattle.vt_grace.specs.WriterViews.{version_of, after_change}
use Rattle.vt_grace.specs.Sound.{IsSound}
use Rattle.vt_grace.specs.Banks.{MayPublishBank}
use Rattle.vt_grace.proofs.WriterSteps.{publishes, sees_writer}
use Rattle.vt_grace.proofs.tokens.WriterSeat.publish.Goals as goal

pub store-requires : goal.store-requires
store-requires c = let wide = c.words.invariant.0 in let own = c.self.invariant in let same = c.self.view_is in (
  ap (λ v. v.table) same ∙ (c.requires.of.table ∙ sym (ap (λ v. v.table) c.words.view_is)),
  omega arith,
  publishes _ _ _ _ _ _ _ own.0 own.1 (let room = c.requires.room in let newest = own.1 in let count = ap (λ v. version_of v.view) same in omega arith) (subst (λ (v : WriterValue). MayPublishBank v.view c.args.change) (sym same) c.requires.asked),
)

pub invariant_of-self : goal.invariant_of-self
invariant_of-self c = let same = c.self.view_is in let heard = c.store.ensures.2 c.args.change (subst (λ (v : WriterValue). MayPublishBank v.view c.args.change) (sym same) c.requires.asked) in let seen = sees_writer _ _ heard.0 in
    let was = c.self.invariant.1 in let room = c.requires.room in let count = ap (λ v. version_of v.view) same in let now = ap (λ w. version_of w) seen.1 in let more = length-append (writer_at c.self.inside.seat).journal (c.args.change ∷ []) in (seen.0, omega arith, omega arith)

pub returns-clause-of : goal.returns-clause-of
returns-clause-of c = let same = c.self.view_is in let seen = sees_writer _ _ (c.store.ensures.2 c.args.change (subst (λ (v : WriterValue). MayPublishBank v.view c.args.change) (sym same) c.requires.asked)).0 in
    record { limits = c.requires.of.limits; table = c.store.ensures.0 ∙ (ap (λ v. v.table) same ∙ c.requires.of.table); sizes = ap (λ w. w.sizes) seen.1 ∙ (ap (λ v. v.view.sizes) same ∙ c.requires.of.sizes) }

pub returns-clause-view : goal.returns-clause-view
returns-clause-view c = let same = c.self.view_is in (sees_writer _ _ (c.store.ensures.2 c.args.change (subst (λ (v : WriterValue). MayPublishBank v.view c.args.change) (sym same) c.requires.asked)).0).1 ∙ ap (λ (v : WriterValue). after_change v.view c.args.change) same

pub returns-clause-sound : goal.returns-clause-sound
returns-clause-sound c = let heard = c.store.ensures.2 c.args.change (subst (λ (v : WriterValue). MayPublishBank v.view c.args.change) (sym c.self.view_is) c.requires.asked) in subst IsSound (sym (sees_writer _ _ heard.0).1) heard.1

use Rattle.std.proofs.Common.{arith, ◌≤◌, sym, ap, ◌∙◌, subst, All}
use Rattle.vt_grace.specs.declared.views.PassView.{PassView}
use Rattle.vt_grace.specs.Values.{HeldValue}
use Rattle.vt_grace.specs.PassViews.{idle}
use Rattle.vt_grace.proofs.PassSteps.{unpins, sees_pass}
use Rattle.vt_grace.proofs.tokens.Held.unpin.Goals as goal

pub store-requires : goal.store-requires
store-requires c = let own = c.self.invariant in let same = c.self.view_is in
    let count = ap (λ z. z.samplers) (ap (λ v. v.view.sizes) same ∙ (c.requires.sizes ∙ sym (ap (λ v. v.sizes) c.words.view_is))) in let inside = own.1.inside in let wide = c.words.invariant.0 in
    (ap (λ v. v.table) same ∙ (c.requires.table ∙ sym (ap (λ v. v.table) c.words.view_is)), omega arith, unpins _ _ _ _ _ _ own.1.sampler own.0)

pub invariant_of-result : goal.invariant_of-result
invariant_of-result c = let own = c.self.invariant.1 in let seen = sees_pass _ _ c.store.ensures.2 in (
  seen.0,
  record {
    stage = ap (λ p. p.stage) seen.1;
    sampler = ap (λ p. p.sampler) seen.1 ∙ own.sampler;
    inside = let same = ap (λ p. p.sizes.samplers) seen.1 in let inside = own.inside in omega arith;
    small = subst (λ (p : PassView). All (λ n. n.entry ≤ p.sizes.frames) p.notes) (sym seen.1) own.small;
  },
)

pub returns-clause-of : goal.returns-clause-of
returns-clause-of c = let seen = sees_pass _ _ c.store.ensures.2 in let same = c.self.view_is in
    record { limits = c.requires.limits; table = c.store.ensures.0 ∙ (ap (λ v. v.table) same ∙ c.requires.table); sizes = ap (λ p. p.sizes) seen.1 ∙ (ap (λ v. v.view.sizes) same ∙ c.requires.sizes) }

pub returns-clause-view : goal.returns-clause-view
returns-clause-view c = (sees_pass _ _ c.store.ensures.2).1 ∙ ap (λ (v : HeldValue). idle v.view) c.self.view_is

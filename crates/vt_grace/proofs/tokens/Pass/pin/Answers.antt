use Rattle.std.proofs.Common.{arith, ◌≤◌, sym, refl, ap, ◌∙◌, subst, All}
use Rattle.vt_grace.specs.declared.views.Stage.{Stage}
use Rattle.vt_grace.specs.declared.views.Stage.TheVariants.{Holding}
use Rattle.vt_grace.specs.declared.views.PassView.{PassView}
use Rattle.vt_grace.specs.Values.{PassValue}
use Rattle.vt_grace.specs.Stages.{hint_of}
use Rattle.vt_grace.specs.PassViews.{holding, NoneAbove}
use Rattle.vt_grace.specs.Seats.{pass_at}
use Rattle.vt_grace.proofs.Starts.{starts_kept}
use Rattle.vt_grace.proofs.PassSteps.{hints, announces, holds, sees_pass, pins}
use Rattle.vt_grace.proofs.tokens.Pass.pin.Goals as goal

pub load-hint-requires : goal.load-hint-requires
load-hint-requires c = let wide = c.words.invariant.0 in let own = c.self.invariant in
    (ap (λ v. v.table) c.self.view_is ∙ (c.requires.table ∙ sym (ap (λ v. v.table) c.words.view_is)), omega arith, hints _ _ _ _ _ own.0 own.1.stage)

pub store-requires : goal.store-requires
store-requires c = let own = c.self.invariant.1 in let seen = sees_pass _ _ c.load-hint.ensures.2.1 in let same = c.self.view_is in
    let count = ap (λ z. z.samplers) (ap (λ v. v.view.sizes) same ∙ (c.requires.sizes ∙ sym (ap (λ v. v.sizes) c.words.view_is))) in let inside = own.inside in let wide = c.words.invariant.0 in
    (c.load-hint.ensures.0 ∙ (ap (λ v. v.table) same ∙ (c.requires.table ∙ sym (ap (λ v. v.table) c.words.view_is))), omega arith, announces _ _ _ _ _ _ _ (ap (λ p. p.sampler) seen.1 ∙ own.sampler) seen.0 (ap (λ p. p.stage) seen.1))

pub load-version-requires : goal.load-version-requires
load-version-requires c = let seen = sees_pass _ _ c.store.ensures.2 in let wide = c.words.invariant.0 in
    (c.store.ensures.0 ∙ (c.load-hint.ensures.0 ∙ (ap (λ v. v.table) c.self.view_is ∙ (c.requires.table ∙ sym (ap (λ v. v.table) c.words.view_is)))), omega arith, holds _ _ _ _ _ _ seen.0 (ap (λ p. p.stage) seen.1))

pub invariant_of-result : goal.invariant_of-result
invariant_of-result c = let own = c.self.invariant.1 in let all = pins (pass_at c.self.inside.seat) _ _ _ _ _ c.load-hint.ensures.2.1 c.store.ensures.2 c.load-version.ensures.2 in let seen = sees_pass _ _ all.is in (
  seen.0,
  record {
    stage = let at = ap (λ p. p.stage) seen.1 in at ∙ ap (λ s. Holding (hint_of s) c.load-version.result) (sym at);
    sampler = ap (λ p. p.sampler) seen.1 ∙ own.sampler;
    inside = let same = ap (λ p. p.sizes.samplers) seen.1 in let inside = own.inside in omega arith;
    small = subst (λ (p : PassView). All (λ n. n.entry ≤ p.sizes.frames) p.notes) (sym seen.1) own.small;
  },
  starts_kept _ _ _ _ _ _ (ap (λ p. p.sizes) seen.1 ∙ (ap (λ v. v.view.sizes) c.self.view_is ∙ (c.requires.sizes ∙ sym (ap (λ v. v.sizes) c.words.view_is))))
      record { entries = c.first_entry.ensures; texels = c.first_texel.ensures; counted = refl },
)

pub returns-clause-of : goal.returns-clause-of
returns-clause-of c = let all = pins (pass_at c.self.inside.seat) _ _ _ _ _ c.load-hint.ensures.2.1 c.store.ensures.2 c.load-version.ensures.2 in let seen = sees_pass _ _ all.is in let same = c.self.view_is in record {
  limits = c.requires.limits;
  table = c.load-version.ensures.0 ∙ (c.store.ensures.0 ∙ (c.load-hint.ensures.0 ∙ (ap (λ v. v.table) same ∙ c.requires.table)));
  sizes = ap (λ p. p.sizes) seen.1 ∙ (ap (λ v. v.view.sizes) same ∙ c.requires.sizes);
}

pub returns-clause-view : goal.returns-clause-view
returns-clause-view c = let all = pins (pass_at c.self.inside.seat) _ _ _ _ _ c.load-hint.ensures.2.1 c.store.ensures.2 c.load-version.ensures.2 in let seen = (sees_pass _ _ all.is).1 in
    seen ∙ (ap (λ (s : Stage). record (holding c.load-version.result (pass_at c.self.inside.seat)) { stage = s }) (sym (ap (λ p. p.stage) seen))
    ∙ ap (λ (v : PassValue). record (holding c.load-version.result v.view) { stage = (pass_at c.load-version.new.seat).stage }) c.self.view_is)

pub returns-clause-later : goal.returns-clause-later
returns-clause-later c = let all = pins (pass_at c.self.inside.seat) _ _ _ _ _ c.load-hint.ensures.2.1 c.store.ensures.2 c.load-version.ensures.2 in subst (λ (v : PassValue). NoneAbove c.load-version.result v.view.held) c.self.view_is all.held

pub returns-clause-given : goal.returns-clause-given
returns-clause-given c = let all = pins (pass_at c.self.inside.seat) _ _ _ _ _ c.load-hint.ensures.2.1 c.store.ensures.2 c.load-version.ensures.2 in subst (λ (v : PassValue). v.view.given ≤ c.load-version.result) c.self.view_is all.given

use Rattle.std.proofs.Common.{arith, ℕ, ◌≤◌, sym, refl, ap, ◌∙◌, subst, All}
use Rattle.std.proofs.lemmas.List.Elements.{All-cons}
use Rattle.vt_grace.specs.declared.views.Stage.{Stage}
use Rattle.vt_grace.specs.declared.views.Stage.TheVariants.{Holding}
use Rattle.vt_grace.specs.declared.views.PassView.{PassView}
use Rattle.vt_grace.specs.Values.{HeldValue}
use Rattle.vt_grace.specs.Seats.{pass_at}
use Rattle.vt_grace.specs.Stages.{hint_of, held_of}
use Rattle.vt_grace.specs.PassViews.{noting}
use Rattle.vt_grace.proofs.Starts.{entry_from, entry_low, starts_kept}
use Rattle.vt_grace.proofs.PassSteps.{reads, sees_pass, word_of_held}
use Rattle.vt_grace.proofs.tokens.Held.entry.Goals as goal

pub load-requires : goal.load-requires
load-requires c = let h = c.self.inside in let own = c.self.invariant in let same = c.self.view_is in let sizes = ap (λ v. v.view.sizes) same ∙ (c.requires.of.sizes ∙ sym (ap (λ v. v.sizes) c.words.view_is)) in (
  ap (λ v. v.table) same ∙ (c.requires.of.table ∙ sym (ap (λ v. v.table) c.words.view_is)),
  (let low = entry_low c.words.inside.sizes _ h.version _ _ _ c.args.page own.2 sizes (let inside = c.requires.inside in let more = ap (λ v. v.sizes.pages) c.words.view_is in omega arith) in let wide = c.words.invariant.0 in omega arith),
  reads _ _ _ c.args.page (hint_of (pass_at h.seat).stage) h.version _ (pass_at h.seat) own.0 own.1.stage (let inside = c.requires.inside in let more = ap (λ v. v.sizes.pages) c.words.view_is in let count = ap (λ z. z.pages) sizes in omega arith) _
      (entry_from _ _ _ _ _ c.args.page own.2),
)

pub invariant_of-self : goal.invariant_of-self
invariant_of-self c = let h = c.self.inside in let own = c.self.invariant.1 in let heard = c.load.ensures.2 c.args.page (word_of_held (pass_at c.self.inside.seat).sizes (pass_at c.self.inside.seat).sizes _ _ _ c.args.page _ refl c.self.invariant.1.stage (entry_from _ _ _ _ _ c.args.page c.self.invariant.2)) in let seen = sees_pass _ _ heard.now in let stage = ap (λ p. p.stage) seen.1 in (
  seen.0,
  record {
    stage = stage ∙ (own.stage ∙ ap (λ (s : Stage). Holding (hint_of s) h.version) (sym stage));
    sampler = ap (λ p. p.sampler) seen.1 ∙ own.sampler;
    inside = let same = ap (λ p. p.sizes.samplers) seen.1 in let inside = own.inside in omega arith;
    small = subst (λ (p : PassView). All (λ n. n.entry ≤ p.sizes.frames) p.notes) (sym seen.1) (All-cons (λ n. n.entry ≤ (pass_at h.seat).sizes.frames) _ (pass_at h.seat).notes heard.most own.small);
  },
  starts_kept _ _ _ _ _ _ (ap (λ p. p.sizes) seen.1) c.self.invariant.2,
)

pub returns-clause-of : goal.returns-clause-of
returns-clause-of c = let same = c.self.view_is in let heard = c.load.ensures.2 c.args.page (word_of_held (pass_at c.self.inside.seat).sizes (pass_at c.self.inside.seat).sizes _ _ _ c.args.page _ refl c.self.invariant.1.stage (entry_from _ _ _ _ _ c.args.page c.self.invariant.2)) in
    record { limits = c.requires.of.limits; table = c.load.ensures.0 ∙ (ap (λ v. v.table) same ∙ c.requires.of.table); sizes = ap (λ p. p.sizes) (sees_pass _ _ heard.now).1 ∙ (ap (λ v. v.view.sizes) same ∙ c.requires.of.sizes) }

pub returns-clause-view : goal.returns-clause-view
returns-clause-view c = let heard = c.load.ensures.2 c.args.page (word_of_held (pass_at c.self.inside.seat).sizes (pass_at c.self.inside.seat).sizes _ _ _ c.args.page _ refl c.self.invariant.1.stage (entry_from _ _ _ _ _ c.args.page c.self.invariant.2)) in (sees_pass _ _ heard.now).1 ∙ (ap (λ (u : ℕ). noting u c.args.page c.load.result (pass_at c.self.inside.seat)) (ap held_of c.self.invariant.1.stage)
    ∙ ap (λ (v : HeldValue). noting v.version c.args.page c.load.result v.view) c.self.view_is)

pub returns-clause-most : goal.returns-clause-most
returns-clause-most c = let heard = c.load.ensures.2 c.args.page (word_of_held (pass_at c.self.inside.seat).sizes (pass_at c.self.inside.seat).sizes _ _ _ c.args.page _ refl c.self.invariant.1.stage (entry_from _ _ _ _ _ c.args.page c.self.invariant.2)) in let most = heard.most in let more = ap (λ v. v.sizes.frames) c.words.view_is in let count = ap (λ z. z.frames) (ap (λ v. v.view.sizes) c.self.view_is ∙ (c.requires.of.sizes ∙ sym (ap (λ v. v.sizes) c.words.view_is))) in omega arith

pub returns-clause-root : goal.returns-clause-root
returns-clause-root c = let heard = c.load.ensures.2 c.args.page (word_of_held (pass_at c.self.inside.seat).sizes (pass_at c.self.inside.seat).sizes _ _ _ c.args.page _ refl c.self.invariant.1.stage (entry_from _ _ _ _ _ c.args.page c.self.invariant.2)) in λ at_root was. heard.root (at_root ∙ (sym (ap (λ v. v.sizes.root) c.words.view_is) ∙ sym (ap (λ z. z.root) (ap (λ v. v.view.sizes) c.self.view_is ∙ (c.requires.of.sizes ∙ sym (ap (λ v. v.sizes) c.words.view_is)))))) (ap (λ v. v.view.rooted) c.self.view_is ∙ was)

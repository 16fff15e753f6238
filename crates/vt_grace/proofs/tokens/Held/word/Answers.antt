use Rattle.std.proofs.Common.{arith, ℕ, ◌≤◌, sym, ap, ◌∙◌, subst, All}
use Rattle.vt_grace.specs.declared.views.Stage.{Stage}
use Rattle.vt_grace.specs.declared.views.Stage.TheVariants.{Holding}
use Rattle.vt_grace.specs.declared.views.PassView.{PassView}
use Rattle.vt_grace.specs.Values.{HeldValue}
use Rattle.vt_grace.specs.Seats.{pass_at}
use Rattle.vt_grace.specs.Stages.{hint_of, held_of}
use Rattle.vt_grace.specs.PassViews.{wording, HasEntry}
use Rattle.vt_grace.proofs.Starts.{texel_from, texel_low, frame_low, few_words, starts_kept}
use Rattle.vt_grace.proofs.PassSteps.{words, sees_pass}
use Rattle.vt_grace.proofs.tokens.Held.word.Goals as goal

pub overflow_mul-word : goal.overflow_mul-word
overflow_mul-word c = let same = c.self.view_is in let sizes = ap (λ v. v.view.sizes) same ∙ c.requires.of.sizes in
    let low = texel_low c.args.words.now.sizes _ _ _ _ _ c.args.frame c.args.place c.self.invariant.2 sizes (frame_low (pass_at c.self.inside.seat) c.self.inside.version c.args.frame c.self.invariant.1.small
    (subst (λ (v : HeldValue). HasEntry v.version v.view c.args.frame) (sym same) c.requires.noted))
    (let inside = c.requires.inside in let count = ap (λ z. z.texels) sizes in omega arith) in
    let few = few_words c.args.words.now.sizes c.requires.of.limits in omega arith

pub overflow_add-word : goal.overflow_add-word
overflow_add-word c = let same = c.self.view_is in let sizes = ap (λ v. v.view.sizes) same ∙ c.requires.of.sizes in
    let low = texel_low c.args.words.now.sizes _ _ _ _ _ c.args.frame c.args.place c.self.invariant.2 sizes (frame_low (pass_at c.self.inside.seat) c.self.inside.version c.args.frame c.self.invariant.1.small
    (subst (λ (v : HeldValue). HasEntry v.version v.view c.args.frame) (sym same) c.requires.noted))
    (let inside = c.requires.inside in let count = ap (λ z. z.texels) sizes in omega arith) in
    let few = few_words c.args.words.now.sizes c.requires.of.limits in omega arith

pub overflow_add-word-2 : goal.overflow_add-word-2
overflow_add-word-2 c = let same = c.self.view_is in let sizes = ap (λ v. v.view.sizes) same ∙ c.requires.of.sizes in
    let low = texel_low c.args.words.now.sizes _ _ _ _ _ c.args.frame c.args.place c.self.invariant.2 sizes (frame_low (pass_at c.self.inside.seat) c.self.inside.version c.args.frame c.self.invariant.1.small
    (subst (λ (v : HeldValue). HasEntry v.version v.view c.args.frame) (sym same) c.requires.noted))
    (let inside = c.requires.inside in let count = ap (λ z. z.texels) sizes in omega arith) in
    let few = few_words c.args.words.now.sizes c.requires.of.limits in omega arith

pub load-requires : goal.load-requires
load-requires c = let h = c.self.inside in let own = c.self.invariant in let same = c.self.view_is in let sizes = ap (λ v. v.view.sizes) same ∙ (c.requires.of.sizes ∙ sym (ap (λ v. v.sizes) c.words.view_is)) in (
  ap (λ v. v.table) same ∙ (c.requires.of.table ∙ sym (ap (λ v. v.table) c.words.view_is)),
  (let low = texel_low c.words.inside.sizes _ _ _ _ _ c.args.frame c.args.place own.2 sizes (frame_low (pass_at h.seat) h.version c.args.frame own.1.small
      (subst (λ (v : HeldValue). HasEntry v.version v.view c.args.frame) (sym same) c.requires.noted))
      (let inside = c.requires.inside in let more = ap (λ v. v.sizes.texels) c.words.view_is in let count = ap (λ z. z.texels) sizes in omega arith) in let wide = c.words.invariant.0 in omega arith),
  words _ _ _ c.args.frame c.args.place (hint_of (pass_at h.seat).stage) h.version _ (pass_at h.seat) own.0 own.1.stage (let inside = c.requires.inside in let more = ap (λ v. v.sizes.texels) c.words.view_is in let count = ap (λ z. z.texels) sizes in omega arith)
      (subst (λ (v : HeldValue). HasEntry v.version v.view c.args.frame) (sym same) c.requires.noted) _
      (texel_from _ _ _ _ _ c.args.frame c.args.place c.self.invariant.2),
)

pub invariant_of-self : goal.invariant_of-self
invariant_of-self c = let h = c.self.inside in let own = c.self.invariant.1 in let same = c.self.view_is in let sizes = ap (λ v. v.view.sizes) same ∙ (c.requires.of.sizes ∙ sym (ap (λ v. v.sizes) c.words.view_is)) in let heard = c.load.ensures.2 c.args.frame c.args.place (let inside = c.requires.inside in let more = ap (λ v. v.sizes.texels) c.words.view_is in let count = ap (λ z. z.texels) sizes in omega arith) (texel_from _ _ _ _ _ c.args.frame c.args.place c.self.invariant.2) in
    let seen = sees_pass _ _ heard in let stage = ap (λ p. p.stage) seen.1 in (
      seen.0,
      record {
        stage = stage ∙ (own.stage ∙ ap (λ (s : Stage). Holding (hint_of s) h.version) (sym stage));
        sampler = ap (λ p. p.sampler) seen.1 ∙ own.sampler;
        inside = let same = ap (λ p. p.sizes.samplers) seen.1 in let inside = own.inside in omega arith;
        small = subst (λ (p : PassView). All (λ n. n.entry ≤ p.sizes.frames) p.notes) (sym seen.1) own.small;
      },
      starts_kept _ _ _ _ _ _ (ap (λ p. p.sizes) seen.1) c.self.invariant.2,
    )

pub returns-clause-of : goal.returns-clause-of
returns-clause-of c = let same = c.self.view_is in let sizes = ap (λ v. v.view.sizes) same ∙ (c.requires.of.sizes ∙ sym (ap (λ v. v.sizes) c.words.view_is)) in let heard = c.load.ensures.2 c.args.frame c.args.place (let inside = c.requires.inside in let more = ap (λ v. v.sizes.texels) c.words.view_is in let count = ap (λ z. z.texels) sizes in omega arith) (texel_from _ _ _ _ _ c.args.frame c.args.place c.self.invariant.2) in
    record { limits = c.requires.of.limits; table = c.load.ensures.0 ∙ (ap (λ v. v.table) same ∙ c.requires.of.table); sizes = ap (λ p. p.sizes) (sees_pass _ _ heard).1 ∙ (sizes ∙ ap (λ v. v.sizes) c.words.view_is) }

pub returns-clause-view : goal.returns-clause-view
returns-clause-view c = let same = c.self.view_is in let sizes = ap (λ v. v.view.sizes) same ∙ (c.requires.of.sizes ∙ sym (ap (λ v. v.sizes) c.words.view_is)) in let heard = c.load.ensures.2 c.args.frame c.args.place (let inside = c.requires.inside in let more = ap (λ v. v.sizes.texels) c.words.view_is in let count = ap (λ z. z.texels) sizes in omega arith) (texel_from _ _ _ _ _ c.args.frame c.args.place c.self.invariant.2) in
    (sees_pass _ _ heard).1 ∙ (ap (λ (u : ℕ). wording u c.args.frame c.args.place c.load.result (pass_at c.self.inside.seat)) (ap held_of c.self.invariant.1.stage)
    ∙ ap (λ (v : HeldValue). wording v.version c.args.frame c.args.place c.load.result v.view) same)

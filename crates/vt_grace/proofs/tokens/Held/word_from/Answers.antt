use Rattle.std.proofs.Common.{arith, ◌≡◌, ℕ, ◌+◌, ◌≤◌, ◌<◌, sym, ap, ◌∙◌, subst, All}
use Rattle.std.proofs.lemmas.Nat.{mul-le}
use Rattle.std.proofs.lemmas.List.Elements.{All-contains}
use Rattle.vt_grace.specs.declared.sizes.Sizes.{Sizes}
use Rattle.vt_grace.specs.declared.views.Stage.{Stage}
use Rattle.vt_grace.specs.declared.views.Stage.TheVariants.{Holding}
use Rattle.vt_grace.specs.declared.views.PassView.{PassView}
use Rattle.vt_grace.specs.Values.{WordsValue, HeldValue}
use Rattle.vt_grace.specs.Seats.{pass_at}
use Rattle.vt_grace.specs.Stages.{hint_of, held_of}
use Rattle.vt_grace.specs.Places.{words_of, texel_word}
use Rattle.vt_grace.specs.PassViews.{wording, HasEntry}
use Rattle.vt_grace.proofs.Starts.{starts_kept}
use Rattle.vt_grace.proofs.PassSteps.{words, sees_pass}
use Rattle.vt_grace.proofs.tokens.Held.word_from.Goals as goal

-- a place after the first word of a frame
at_place : (z : Sizes) (start frame place : ℕ) → start ≡ texel_word z frame 0 → start + place ≡ texel_word z frame place
at_place z start frame place is = omega (arith, is)

-- and it is one of the words
in_words : (z : Sizes) (start frame place n : ℕ) → start ≡ texel_word z frame 0 → place < z.texels → frame < z.frames → n ≡ words_of z → start + place < n
in_words z start frame place n is inside low wide = omega (arith, is, wide, mul-le (frame + 1) z.texels z.frames z.texels (omega arith) (omega arith))

-- a frame whose entry was noted is one of the frames
low_frame : (frames frame : ℕ) (h : HeldValue) → All (λ n. n.entry ≤ frames) h.view.notes → HasEntry h.version h.view frame → frame < frames
low_frame frames frame h small noted = let low = All-contains (λ n. n.entry ≤ frames) h.view.notes noted.0 small noted.1 in let entry = noted.3 in omega arith

pub load-requires : goal.load-requires
load-requires c =
    let h = c.self.inside in
    let z : Sizes = c.args.words.now.sizes in
    let own = c.self.invariant in
    let same = c.self.view_is in
    let sizes : (pass_at h.seat).sizes ≡ z = ap (λ (v : HeldValue). v.view.sizes) same ∙ c.requires.of.sizes in
    let small = subst (λ (y : Sizes). All (λ n. n.entry ≤ y.frames) c.args.self.now.view.notes) c.requires.of.sizes
    (subst (λ (v : HeldValue). All (λ n. n.entry ≤ v.view.sizes.frames) v.view.notes) same own.1.small) in (
      ap (λ (v : HeldValue). v.table) same ∙ (c.requires.of.table ∙ sym (ap (λ (v : WordsValue). v.table) c.words.view_is)),
      in_words z c.args.start c.args.frame c.args.place _ c.requires.start c.requires.inside
          (low_frame z.frames c.args.frame c.args.self.now small c.requires.noted)
          (c.words.invariant.0 ∙ ap (λ (v : WordsValue). words_of v.sizes) c.words.view_is),
      words _ _ _ c.args.frame c.args.place (hint_of (pass_at h.seat).stage) h.version _ (pass_at h.seat) own.0 own.1.stage
          (let inside = c.requires.inside in let count = ap (λ (y : Sizes). y.texels) sizes in omega arith)
          (subst (λ (v : HeldValue). HasEntry v.version v.view c.args.frame) (sym same) c.requires.noted) _
          (at_place z c.args.start c.args.frame c.args.place c.requires.start ∙ ap (λ (y : Sizes). texel_word y c.args.frame c.args.place) (sym sizes)),
    )

pub invariant_of-self : goal.invariant_of-self
invariant_of-self c =
    let h = c.self.inside in
    let z : Sizes = c.args.words.now.sizes in
    let own = c.self.invariant.1 in
    let sizes : (pass_at h.seat).sizes ≡ z = ap (λ (v : HeldValue). v.view.sizes) c.self.view_is ∙ c.requires.of.sizes in
    let heard = c.load.ensures.2 c.args.frame c.args.place
    (let inside = c.requires.inside in let count = ap (λ (y : Sizes). y.texels) sizes in omega arith)
    (at_place z c.args.start c.args.frame c.args.place c.requires.start ∙ ap (λ (y : Sizes). texel_word y c.args.frame c.args.place) (sym sizes)) in
    let seen = sees_pass _ _ heard in
    let stage = ap (λ (p : PassView). p.stage) seen.1 in (
      seen.0,
      record {
        stage = stage ∙ (own.stage ∙ ap (λ (s : Stage). Holding (hint_of s) h.version) (sym stage));
        sampler = ap (λ (p : PassView). p.sampler) seen.1 ∙ own.sampler;
        inside = let same = ap (λ (p : PassView). p.sizes.samplers) seen.1 in let inside = own.inside in omega arith;
        small = subst (λ (p : PassView). All (λ n. n.entry ≤ p.sizes.frames) p.notes) (sym seen.1) own.small;
      },
      starts_kept _ _ _ _ _ _ (ap (λ (p : PassView). p.sizes) seen.1) c.self.invariant.2,
    )

pub returns-clause-of : goal.returns-clause-of
returns-clause-of c =
    let h = c.self.inside in
    let z : Sizes = c.args.words.now.sizes in
    let sizes : (pass_at h.seat).sizes ≡ z = ap (λ (v : HeldValue). v.view.sizes) c.self.view_is ∙ c.requires.of.sizes in
    let heard = c.load.ensures.2 c.args.frame c.args.place
    (let inside = c.requires.inside in let count = ap (λ (y : Sizes). y.texels) sizes in omega arith)
    (at_place z c.args.start c.args.frame c.args.place c.requires.start ∙ ap (λ (y : Sizes). texel_word y c.args.frame c.args.place) (sym sizes)) in
    record {
      limits = c.requires.of.limits;
      table = c.load.ensures.0 ∙ (ap (λ (v : HeldValue). v.table) c.self.view_is ∙ c.requires.of.table);
      sizes = ap (λ (p : PassView). p.sizes) (sees_pass _ _ heard).1 ∙ sizes;
    }

pub returns-clause-view : goal.returns-clause-view
returns-clause-view c =
    let h = c.self.inside in
    let z : Sizes = c.args.words.now.sizes in
    let sizes : (pass_at h.seat).sizes ≡ z = ap (λ (v : HeldValue). v.view.sizes) c.self.view_is ∙ c.requires.of.sizes in
    let heard = c.load.ensures.2 c.args.frame c.args.place
    (let inside = c.requires.inside in let count = ap (λ (y : Sizes). y.texels) sizes in omega arith)
    (at_place z c.args.start c.args.frame c.args.place c.requires.start ∙ ap (λ (y : Sizes). texel_word y c.args.frame c.args.place) (sym sizes)) in
    (sees_pass _ _ heard).1 ∙ (ap (λ (u : ℕ). wording u c.args.frame c.args.place c.load.result (pass_at h.seat)) (ap held_of c.self.invariant.1.stage)
    ∙ ap (λ (v : HeldValue). wording v.version c.args.frame c.args.place c.load.result v.view) c.self.view_is)

-- What a step of one seat leaves true of the others.
use Rattle.std.proofs.Common.{◌≡◌, ◌≢◌, ℕ, ◌+◌, ◌*◌, ◌<◌, ◌≤◌, true, false, List, [], ◌∷◌, length, get_or, set, sym, refl, ap, ◌∙◌, subst, ⊎_elim, arith}
use mathlib.Core.Logic.{dite}
use mathlib.Core.Option.{some, some-injective}
use native.Mathlib.Decide.{ℕ_discrete}
use lib.ListN.{get_elem?}
use Rattle.atomic_table.specs.Table.{State}
use Rattle.atomic_table.proofs.Lists.{at_set, set_here, set_else}
use Rattle.vt_grace.specs.declared.sizes.Sizes.{Sizes}
use Rattle.vt_grace.specs.declared.views.Stage.{Stage}
use Rattle.vt_grace.specs.declared.views.Stage.TheVariants.{Idle, Hinted, Announced, Holding}
use Rattle.vt_grace.specs.declared.views.PassView.{PassView}
use Rattle.vt_grace.specs.declared.views.WriterView.{WriterView}
use Rattle.vt_grace.specs.declared.views.View.{View}
use Rattle.vt_grace.specs.declared.views.View.TheVariants.{Writing, Passing, Spent}
use Rattle.vt_grace.specs.Stages.{announcement, IsStageIn}
use Rattle.vt_grace.specs.WriterViews.{version_of, floor_of, is_out}
use Rattle.vt_grace.specs.Sound.{IsSound}
use Rattle.vt_grace.specs.Rules.{WordsAgree, IsSeatedPass, IsSeated, IsRuledBy}

-- a number for one place, and for the others what they had
abbrev pick : {P : Type 0} → Dec P → ℕ → ℕ → ℕ
pick (yes _) a b = a
pick (no _) a b = b

pub put : (ℕ → ℕ) → ℕ → ℕ → ℕ → ℕ
put f i c j = pick (ℕ_discrete j i) c (f j)

pub put_here : (f : ℕ → ℕ) (i c : ℕ) → put f i c i ≡ c
unfolding put
put_here f i c = go (ℕ_discrete i i)
  where
    go : (d : Dec (i ≡ i)) → pick d c (f i) ≡ c
    go (yes _) = refl
    go (no n) = absurd (n refl)

pub put_else : (f : ℕ → ℕ) (i c j : ℕ) → j ≢ i → put f i c j ≡ f j
unfolding put
put_else f i c j other = go (ℕ_discrete j i)
  where
    go : (d : Dec (j ≡ i)) → pick d c (f j) ≡ f j
    go (yes e) = absurd (other e)
    go (no _) = refl

pub true≢false : true ≡ false → ⊥
true≢false e = cc

abbrev writer_of : WriterView → View → WriterView
writer_of d (Writing w) = w
writer_of d v = d

-- the one writer's view is the one that the rule speaks of
pub same_writer : (key : Sizes) (w x : WriterView) (owner : ℕ → ℕ) (s : State (Unit {0}) View) (id : ℕ) → IsRuledBy key x owner s → get_elem? s.views id ≡ some (Writing w)
    → (id ≡ 0) × (x ≡ w)
same_writer key w x owner s id r at = let here : id ≡ 0 = r.seats id (Writing w) at in
    (here, ap (writer_of x) (some-injective (Writing x) (Writing w) (sym r.writer ∙ (ap (get_elem? s.views) (sym here) ∙ at))))

-- what holds of each seat after one has a new view
pub seats_stay : (K L : ℕ → View → Type 0) (vs : List View) (me : ℕ) (v : View) → L me v → ((j : ℕ) (x : View) → j ≢ me → get_elem? vs j ≡ some x → L j x)
    → (j : ℕ) (x : View) → get_elem? (set vs me v) j ≡ some x → L j x
seats_stay K L vs me v mine others j x e = ⊎_elim (λ (t : (j ≡ me) × (v ≡ x)). subst (λ (z : ℕ × View). L z.0 z.1) (λ i. (sym t.0 i, t.1 i)) mine)
    (λ (t : (j ≢ me) × (get_elem? vs j ≡ some x)). others j x t.0 t.1) (at_set vs me j v x e)

-- a pass whose own word stays is seated as before
pub sits_still : (w : WriterView) (words words' : List ℕ) (owner : ℕ → ℕ) (j : ℕ) (v : View) → ((p : PassView) → v ≡ Passing p → get_or words' (1 + p.sampler) 0 ≡ get_or words (1 + p.sampler) 0)
    → IsSeated w words owner j v → IsSeated w words' owner j v
sits_still w words words' owner j (Writing x) same sat = sat
sits_still w words words' owner j (Passing p) same sat = record { owned = sat.owned; is_out = sat.is_out; word = same p refl ∙ sat.word; sound = sat.sound }
sits_still w words words' owner j Spent same sat = tt

pub word_low : (v f : ℕ) (stage : Stage) → IsStageIn v f stage → announcement stage ≤ v + 1
word_low v f Idle h = omega arith
word_low v f (Hinted k) h = omega arith
word_low v f (Announced k) h = omega arith
word_low v f (Holding k u) h = let a = h.0 in let b = h.2 in omega arith

-- a step of a pass, at which no word but its own changes
pub pass_step : (key : Sizes) (w : WriterView) (owner : ℕ → ℕ) (s : State (Unit {0}) View) (id : ℕ) (p p' : PassView) (words' : List ℕ)
    → IsRuledBy key w owner s → get_elem? s.views id ≡ some (Passing p) → p'.sampler ≡ p.sampler → length words' ≡ length s.words
    → ((i : ℕ) → i ≢ 1 + p.sampler → get_or words' i 0 ≡ get_or s.words i 0)
    → IsSeatedPass w words' owner id p'
    → IsRuledBy key w owner record { words = words'; homes = s.homes; views = set s.views id (Passing p') }
pass_step key w owner s id p p' words' r at same as_wide others mine = let before : IsSeatedPass w s.words owner id p = r.seats id (Passing p) at in record {
  sizes = r.sizes;
  writer = set_else s.views id 0 (Passing p') (λ e. not_writer (subst (λ (j : ℕ). get_elem? s.views j ≡ some (Passing p)) (sym e) at)) ∙ r.writer;
  wide = as_wide ∙ r.wide;
  agrees = record {
    version = others 0 (λ e. omega arith) ∙ r.agrees.version;
    absent = λ k inside gone. others (1 + k) (λ e. let same : k ≡ p.sampler = omega arith in true≢false (sym before.is_out ∙ (ap (is_out w) (sym same) ∙ gone))) ∙ r.agrees.absent k inside gone;
    announced = λ k inside. dite (ℕ_discrete k p.sampler)
        (λ e. subst (λ (x : ℕ). x ≤ version_of w + 1) (sym (ap (λ i. get_or words' (1 + i) 0) (e ∙ sym same) ∙ mine.word)) (word_low (version_of w) (floor_of w p'.sampler) p'.stage mine.sound.stage))
        (λ other. subst (λ (x : ℕ). x ≤ version_of w + 1) (sym (others (1 + k) (λ e. other (omega arith)))) (r.agrees.announced k inside));
    entries = λ i inside. others (1 + w.sizes.samplers + i) (λ e. let low = before.sound.inside in omega arith) ∙ r.agrees.entries i inside;
    texels = λ i inside. others (1 + w.sizes.samplers + 4 * w.sizes.pages + i) (λ e. let low = before.sound.inside in omega arith) ∙ r.agrees.texels i inside;
  };
  sound = r.sound;
  seats = seats_stay (IsSeated w s.words owner) (IsSeated w words' owner) s.views id (Passing p') mine
      (λ j x other there. sits_still w s.words words' owner j x
      (λ q is. others (1 + q.sampler) (λ e. let same : q.sampler ≡ p.sampler = omega arith in other (sym (subst (IsSeated w s.words owner j) is (r.seats j x there)).owned ∙ (ap owner same ∙ before.owned))))
      (r.seats j x there));
}
  where
    not_writer : get_elem? s.views 0 ≡ some (Passing p) → ⊥
    not_writer e = apart (some-injective (Writing w) (Passing p) (sym r.writer ∙ e))
      where
        apart : Writing w ≡ Passing p → ⊥
        apart e = cc

-- a step of the writer
pub writer_step : (key : Sizes) (w w' : WriterView) (owner : ℕ → ℕ) (s : State (Unit {0}) View) (words' : List ℕ)
    → IsRuledBy key w owner s → w'.sizes ≡ w.sizes → length words' ≡ length s.words → WordsAgree w' words' → IsSound w'
    → ((j : ℕ) (p : PassView) → IsSeatedPass w s.words owner j p → IsSeatedPass w' words' owner j p)
    → IsRuledBy key w' owner record { words = words'; homes = s.homes; views = set s.views 0 (Writing w') }
writer_step key w w' owner s words' r same as_wide agrees sound passes = record {
  sizes = same ∙ r.sizes;
  writer = set_here s.views 0 (Writing w') (there s.views (Writing w) r.writer);
  wide = as_wide ∙ r.wide;
  agrees = agrees;
  sound = sound;
  seats = seats_stay (IsSeated w s.words owner) (IsSeated w' words' owner) s.views 0 (Writing w') refl
      (λ j x other at. move j x (r.seats j x at));
}
  where
    there : (vs : List View) (v : View) → get_elem? vs 0 ≡ some v → 0 < length vs
    there [] v e = cc
    there (x ∷ xs) v e = omega arith

    move : (j : ℕ) (x : View) → IsSeated w s.words owner j x → IsSeated w' words' owner j x
    move j (Writing y) sat = sat
    move j (Passing p) sat = passes j p sat
    move j Spent sat = tt

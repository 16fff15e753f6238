-- The hold rule: what holds of the words and of all that is known, between any two steps.
use Rattle.std.specs.Prelude.{◌≡◌, ℕ, ◌+◌, ◌*◌, ◌<◌, ◌≤◌, true, false, List, length, slice_index}
use mathlib.Core.Option.{some}
use lib.ListN.{get_elem?}
use Rattle.atomic_table.specs.Table.{State}
use Rattle.vt_grace.specs.declared.sizes.Sizes.{Sizes}
use Rattle.vt_grace.specs.declared.views.PassView.{PassView}
use Rattle.vt_grace.specs.declared.views.WriterView.{WriterView}
use Rattle.vt_grace.specs.declared.views.View.{View}
use Rattle.vt_grace.specs.declared.views.View.TheVariants.{Writing, Passing, Spent}
use Rattle.vt_grace.specs.Places.{words_of}
use Rattle.vt_grace.specs.Stages.{announcement}
use Rattle.vt_grace.specs.WriterViews.{version_of, floor_of, is_out}
use Rattle.vt_grace.specs.Sound.{IsSoundPass, IsSound}

-- the words agree with the writer's view
pub record WordsAgree (w : WriterView) (words : List ℕ) : Type 0 where
  pub version : slice_index words 0 ≡ version_of w
  pub absent : (k : ℕ) → k < w.sizes.samplers → is_out w k ≡ false → slice_index words (1 + k) ≡ 0
  pub announced : (k : ℕ) → k < w.sizes.samplers → slice_index words (1 + k) ≤ version_of w + 1
  pub entries : (i : ℕ) → i < 4 * w.sizes.pages → slice_index words (1 + w.sizes.samplers + i) ≡ slice_index w.entries i
  pub texels : (i : ℕ) → i < w.sizes.frames * w.sizes.texels → slice_index words (1 + w.sizes.samplers + 4 * w.sizes.pages + i) ≡ slice_index w.texels i

-- the seat j has the one pass of its sampler, whose word agrees with it
pub record IsSeatedPass (w : WriterView) (words : List ℕ) (owner : ℕ → ℕ) (j : ℕ) (p : PassView) : Type 0 where
  pub owned : owner p.sampler ≡ j
  pub is_out : is_out w p.sampler ≡ true
  pub word : slice_index words (1 + p.sampler) ≡ announcement p.stage
  pub sound : IsSoundPass w.sizes w.journal w.contents (floor_of w p.sampler) p

-- what is true of the seat j, by its view: the writer has seat 0
abbrev pub IsSeated : WriterView → List ℕ → (ℕ → ℕ) → ℕ → View → Type 0
IsSeated w words owner j (Writing x) = j ≡ 0
IsSeated w words owner j (Passing p) = IsSeatedPass w words owner j p
IsSeated w words owner j Spent = Unit {0}

-- the rule for a writer's view and a seat of each sampler's pass: the table has the key's sizes, seat 0 is the writer's, and the words agree with it
pub record IsRuledBy (key : Sizes) (w : WriterView) (owner : ℕ → ℕ) (s : State (Unit {0}) View) : Type 0 where
  pub sizes : w.sizes ≡ key
  pub writer : get_elem? s.views 0 ≡ some (Writing w)
  pub wide : length s.words ≡ words_of key
  pub agrees : WordsAgree w s.words
  pub sound : IsSound w
  pub seats : (j : ℕ) (v : View) → get_elem? s.views j ≡ some v → IsSeated w s.words owner j v

-- the rule of a table of these sizes
pub record Ruled (key : Sizes) (s : State (Unit {0}) View) : Type 0 where
  pub w : WriterView
  pub owner : ℕ → ℕ
  pub is : IsRuledBy key w owner s

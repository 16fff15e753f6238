-- What is true of what the writer knows, and of what a pass knows.
use Rattle.std.specs.Prelude.{◌≡◌, ◌≢◌, ℕ, ◌*◌, ◌<◌, ◌≤◌, true, List, length, All, None}
use Rattle.vt_journal.specs.Limits.{most_versions}
use Rattle.vt_journal.specs.declared.changes.Change.{Change}
use Rattle.vt_journal.specs.Changes.{at}
use Rattle.vt_grace.specs.declared.sizes.Sizes.{Sizes}
use Rattle.vt_grace.specs.declared.views.Returned.{Returned}
use Rattle.vt_grace.specs.declared.views.PassView.{PassView}
use Rattle.vt_grace.specs.declared.views.WriterView.{WriterView}
use Rattle.vt_grace.specs.Changes.{AreInTurnKeeping}
use Rattle.vt_grace.specs.Contents.{backed}
use Rattle.vt_grace.specs.Places.{bank_of}
use Rattle.vt_grace.specs.Stages.{IsStageIn, IsSince}
use Rattle.vt_grace.specs.PassViews.{NoneAbove, NeverFell}
use Rattle.vt_grace.specs.WriterViews.{version_of, floor_of}
use Rattle.vt_grace.specs.Notes.{IsTrueNote, IsTrueWord}
use Rattle.vt_grace.specs.Banks.{AreFilled, StandsForTable, IsInWindow}

-- what is true of a pass, under the floor of its sampler
pub record IsSoundPass (z : Sizes) (journal : List Change) (contents : List (List ℕ)) (floor : ℕ) (p : PassView) : Type 0 where
  pub sizes : p.sizes ≡ z
  pub inside : p.sampler < z.samplers
  pub stage : IsStageIn (length journal) floor p.stage
  pub since : IsSince p.given p.stage
  pub given : p.given ≤ length journal
  pub rooted : p.rooted ≡ true → (v : ℕ) → p.given ≤ v → v ≤ length journal → at journal v z.root ≢ None
  pub rose : NeverFell p.given p.held
  pub held : NoneAbove (length journal) p.held
  pub notes : All (IsTrueNote z journal) p.notes
  pub word_notes : All (IsTrueWord journal contents) p.word_notes

-- a pass that was taken back
pub record IsSoundReturn (version : ℕ) (r : Returned) : Type 0 where
  pub given : r.given ≤ version
  pub rose : NeverFell r.given r.held
  pub held : NoneAbove version r.held

-- what is true of the writer's view
pub record IsSound (w : WriterView) : Type 0 where
  pub legal : AreInTurnKeeping w.sizes.root w.journal
  pub most : version_of w ≤ most_versions
  pub floors : length w.floors ≡ w.sizes.samplers
  pub low : (k : ℕ) → k < w.sizes.samplers → floor_of w k ≤ version_of w
  pub outs : length w.out ≡ w.sizes.samplers
  pub returned : All (IsSoundReturn (version_of w)) w.returned
  pub entries : length w.entries ≡ 4 * w.sizes.pages
  pub small : All (λ e. e ≤ w.sizes.frames) w.entries
  pub window : (v : ℕ) → IsInWindow w v → StandsForTable w.sizes w.entries (at w.journal v) (bank_of v)
  pub notes : All (IsTrueNote w.sizes w.journal) w.notes
  pub contents : length w.contents ≡ length w.journal
  pub texels : length w.texels ≡ w.sizes.frames * w.sizes.texels
  pub filled : (v : ℕ) → IsInWindow w v → AreFilled w.sizes w.texels (backed w.journal w.contents v)
  pub word_notes : All (IsTrueWord w.journal w.contents) w.word_notes

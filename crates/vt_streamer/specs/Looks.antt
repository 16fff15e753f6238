-- The looks that a call of the writer makes at the samplers, and whom it waits for.
use Rattle.std.specs.Prelude.{◌≡◌, ℕ, ◌+◌, ◌<◌, ◌≤◌, List, [], ◌∷◌, ◌++◌}
use Rattle.vt_grace.specs.declared.views.Look.{Look}
use Rattle.vt_grace.specs.declared.views.WriterView.{WriterView}
use Rattle.vt_grace.specs.WriterViews.{floor_of, after_look}

-- what the writer knows after looks, the newest first
abbrev pub after_all : WriterView → List Look → WriterView
after_all v [] = v
after_all v (look ∷ before) = after_look (after_all v before) look.sampler look.word

-- only looks were made: no floor rose without one, and none fell
pub record HasOnlyLooked (v w : WriterView) : Type 0 where
  pub more : List Look
  pub after : w ≡ after_all v more
  pub rest : w ≡ record v { floors = w.floors; looks = w.looks }
  pub up : (k : ℕ) → floor_of v k ≤ floor_of w k
  pub looks : w.looks ≡ more ++ v.looks

-- a look that was made since, the newest, found that a sampler announced a version below the least one, and its floor is still below that
pub record IsBehind (v w : WriterView) (least sampler holds : ℕ) : Type 0 where
  pub below : holds < least
  pub low : floor_of w sampler < least
  pub before : List Look
  pub looks : w.looks ≡ record { sampler = sampler; word = holds + 1 } ∷ (before ++ v.looks)

-- it is the least sampler whose floor is below the least version
pub record IsFirstBehind (v w : WriterView) (least sampler holds : ℕ) : Type 0 where
  pub inside : sampler < v.sizes.samplers
  pub behind : IsBehind v w least sampler holds
  pub others : (k : ℕ) → k < sampler → least ≤ floor_of w k

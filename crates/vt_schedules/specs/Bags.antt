-- What a caller says of a bag and its passes.
use Rattle.std.specs.Prelude.{ℕ, ◌<◌, List, [], ◌∷◌}
use Rattle.crossbeam_deque.specs.Injected.{injector_view, IsInjectorPassOf}
use Rattle.vt_queue.specs.declared.views.PassView.{PassView}
use Rattle.vt_schedules.specs.declared.bag.RowJob.{RowJob}
use Rattle.vt_schedules.specs.declared.bag.RowBag.{RowBag}
use Rattle.vt_schedules.specs.declared.bag.BagPass.{BagPass}

-- a step of exactly one item, of which P holds
abbrev pub OfOne : {V I : Type 0} → (V → I → V → Type 0) → V → List I → V → Type 0
OfOne P v [] w = ⊥
OfOne P v (x ∷ []) w = P v x w
OfOne P v (x ∷ (y ∷ ys)) w = ⊥

-- what a pass knows
abbrev pub view_of : BagPass → PassView RowJob
view_of p = injector_view p.pass

-- how often it may be split
abbrev pub splits_of : BagPass → ℕ
splits_of p = p.splits

-- it is a pass of this bag, with more shares than it may be split.
pub record IsPassOfBag (q : RowBag) (p : BagPass) : Type 0 where
  pub bag : IsInjectorPassOf q.rows p.pass
  pub splits : splits_of p < (view_of p).shares

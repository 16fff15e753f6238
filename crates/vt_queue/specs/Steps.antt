-- What a pass learns of its queue at a step, and what a put and a take do.
use Rattle.std.specs.Prelude.{◌≡◌, ℕ, ◌<◌, ◌≤◌, List, [], ◌∷◌, ◌++◌, length, All, Contains, IsPermutation}
use Rattle.vt_queue.specs.declared.views.PassView.{PassView}
use Rattle.vt_queue.specs.PassViews.{pass_view, all_shares}
use Rattle.vt_queue.specs.Orders.{placed}

-- At a step at which these items are left in the queue, others were taken before: what the pass knows and put is in the
-- order of both, what it took is among those taken, and if it is whole, that is all that was put and taken.
pub record IsAtStep {I : Type 0} (v : PassView I) (left : List I) : Type 0 where
  pub gone : List I
  pub knows : All (Contains (placed 0 (gone ++ left))) v.known
  pub puts : All (Contains (placed 0 (gone ++ left))) v.put
  pub takes : All (Contains (placed 0 gone)) v.took
  pub few : v.shares ≤ all_shares
  pub all_puts : v.shares ≡ all_shares → IsPermutation (placed 0 (gone ++ left)) v.put
  pub all_takes : v.shares ≡ all_shares → IsPermutation (placed 0 gone) v.took

-- One more item was put: it is last in the queue, and behind all that the pass knew and had put.
pub record Puts {I : Type 0} (v : PassView I) (x : I) (w : PassView I) : Type 0 where
  pub place : ℕ
  pub is : w ≡ pass_view v.shares v.known (v.put ++ (place, x) ∷ []) v.took
  pub after_known : All (λ (entry : ℕ × I). entry.0 < place) v.known
  pub after_put : All (λ (entry : ℕ × I). entry.0 < place) v.put
  pub ahead : List I
  pub at_step : IsAtStep w (ahead ++ x ∷ [])
  pub at_end : place ≡ length (at_step.gone ++ ahead)

-- One more item was taken: it was first in the queue, and behind all that the pass had taken.
pub record Takes {I : Type 0} (v : PassView I) (x : I) (w : PassView I) : Type 0 where
  pub place : ℕ
  pub is : w ≡ pass_view v.shares v.known v.put (v.took ++ (place, x) ∷ [])
  pub after_took : All (λ (entry : ℕ × I). entry.0 < place) v.took
  pub left : List I
  pub at_step : IsAtStep w left
  pub before : List I
  pub first : at_step.gone ≡ before ++ x ∷ []
  pub counts : place ≡ length before

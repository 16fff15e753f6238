-- The steps of a bag keep the rule of a queue.
use Rattle.std.proofs.Common.{ℕ, suc, ◌<◌, [], ◌∷◌, length, arith}
use Rattle.crossbeam_deque.specs.Tasks.{Pushes, Takes, Finds}
use Rattle.vt_queue.specs.declared.views.PassView.{PassView}
use Rattle.vt_queue.specs.Steps as steps
use Rattle.vt_queue.specs.Rules.{IsQueueKept}
use Rattle.vt_queue.proofs.Keeping as keeping
use Rattle.vt_schedules.specs.Bags.{OfOne}

module _ {I : Type 0} where
  pub puts : (port : ℕ) (v : PassView I) (x : I) → 0 < v.shares → Pushes IsQueueKept port v (x ∷ []) (OfOne steps.Puts v (x ∷ []))
  puts port v x live items views k at = keeping.puts (suc (length items)) port v x live items views (omega arith) k at

  pub takes : (port : ℕ) (v : PassView I) → 0 < v.shares → Takes IsQueueKept port v 1 (OfOne steps.Takes v)
  takes port v live [] items views more few k at = absurd (omega (arith, more))
  takes port v live (x ∷ []) items views more few k at = keeping.takes port v live x items views k at
  takes port v live (x ∷ (y ∷ ys)) items views more few k at = absurd (omega (arith, few))

  pub finds : (port : ℕ) (v : PassView I) → Finds IsQueueKept port v (steps.IsAtStep v [])
  finds port v views k at = keeping.learns port v [] views k at

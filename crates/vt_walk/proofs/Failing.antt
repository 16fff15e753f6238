-- A walk that failed has its cause.
use Rattle.std.proofs.Common.{ℕ, ◌+◌, ◌≤◌, inr, List, ◌∷◌, ◌++◌, length, length-append, sum, Option, Some, None, arith}
use Rattle.vt_outside.specs.Counts.{added, Rose, RoseBy, RoseTogetherBy}
use Rattle.vt_outside.specs.declared.place.Place.{Place}
use Rattle.vt_evict.specs.PlanTypes.batches.Planned.{Planned}
use Rattle.vt_walk.specs.Walks.{WalkGiven}
use Rattle.vt_walk.specs.States.{WalkState}
use Rattle.vt_walk.specs.Reads.{AreAskedFor, OnKnown}
use Rattle.vt_walk.specs.Causes.{HasBroken, reads_lost}
use Rattle.vt_walk.specs.WalkSteps.{IsGiven}
use Rattle.vt_walk.proofs.Asking.{planned_both}
use Rattle.vt_walk.proofs.Asks.{known_more, known_twice, faults_rise}
use Rattle.vt_walk.proofs.LostReads.{FailsAtMostFor, lost_reads_most}

few_lost : (g : WalkGiven) (lost : List Planned) (a b : Option (List Place)) → IsGiven g
    → OnKnown (FailsAtMostFor g.scene.shape g.scene.depth lost) a b → reads_lost g a b ≤ length lost
few_lost g lost None None given fails = omega arith
few_lost g lost None (Some b) given fails = omega arith
few_lost g lost (Some a) None given fails = omega arith
few_lost g lost (Some a) (Some b) given fails =
    omega (arith, lost_reads_most g.scene.shape g.scene.depth g.setup.pinned lost a b given.limits given.depth fails)

-- the folder's count rose by more than the entries by which reads failed at most
broken_most : (g : WalkGiven) (lost : List Planned) (first now : WalkState) → IsGiven g
    → OnKnown (FailsAtMostFor g.scene.shape g.scene.depth lost) first.asked now.asked
    → RoseBy (length lost + 1) first.faults now.faults → HasBroken g first now
broken_most g lost first now given fails rose =
    let few = few_lost g lost first.asked now.asked given fails in
    inr (omega (arith, few, rose))

-- the folder's count rose by more than the lost entries
pub has_broken : (g : WalkGiven) (planned lost : List Planned) (first now : WalkState) → IsGiven g
    → OnKnown (AreAskedFor g.scene.shape g.scene.depth g.setup.pinned planned lost) first.asked now.asked
    → RoseBy (length lost + 1) first.faults now.faults → HasBroken g first now
has_broken g planned lost first now given asked rose =
    broken_most g lost first now given
    (known_more (AreAskedFor g.scene.shape g.scene.depth g.setup.pinned planned lost) (FailsAtMostFor g.scene.shape g.scene.depth lost) first.asked now.asked
    (λ x y one at len. omega (arith, one.failed at len)) asked) rose

-- it did while one more pass was under way
pub broken_ahead : (g : WalkGiven) (planned lost more : List Planned) (first was now : WalkState) → IsGiven g
    → OnKnown (AreAskedFor g.scene.shape g.scene.depth g.setup.pinned planned lost) first.asked was.asked
    → OnKnown (FailsAtMostFor g.scene.shape g.scene.depth more) was.asked now.asked
    → RoseBy (length lost + length more + 1) first.faults now.faults → HasBroken g first now
broken_ahead g planned lost more first was now given asked fails rose =
    let count = length-append lost more in
    broken_most g (lost ++ more) first now given
    (known_twice (AreAskedFor g.scene.shape g.scene.depth g.setup.pinned planned lost) (FailsAtMostFor g.scene.shape g.scene.depth more)
    (FailsAtMostFor g.scene.shape g.scene.depth (lost ++ more)) first.asked was.asked now.asked
    (λ x y z one two at len. omega (arith, one.failed at len, two at len, planned_both g.scene.shape g.scene.depth at len lost more)) asked fails)
    (omega (arith, count, rose))

-- a folder's count rose besides those of the files
pub faults_rise_more : (n f k kept : ℕ) (old new : List ℕ) → RoseTogetherBy n old new → Rose f k
    → RoseBy (n + 1) (added f (sum (kept ∷ old))) (added k (sum (kept ∷ new)))
faults_rise_more n f k kept old new together rose = let more = faults_rise n f kept old new together in omega (arith, more, rose)

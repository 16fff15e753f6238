-- A walk that began with fewer faults.
use Rattle.std.proofs.Common.{ℕ, ◌≤◌, inl, inr, List, ◌∷◌, Result, Ok, Err, arith}
use Rattle.std.specs.Prelude.{MatchResult}
use Rattle.vt_walk_decisions.specs.declared.error.WalkError.{WalkError}
use Rattle.vt_walk_decisions.specs.declared.error.WalkError.TheVariants.{TooFewFrames, DoesNotFit, Failed, NoMemory}
use Rattle.vt_walk.specs.DrawnBy.{PictureDrawn}
use Rattle.vt_walk.specs.Runs.{WalkPass}
use Rattle.vt_walk.specs.Walks.{WalkGiven}
use Rattle.vt_walk.specs.States.{WalkState}
use Rattle.vt_walk.specs.Standing.{Stands, Finished}
use Rattle.vt_walk.specs.Leaving.{Left}
use Rattle.vt_walk.specs.Causes.{HasFailed, IsCausedBy}
use Rattle.vt_walk.specs.WalkSteps.{LeftByRefusal}

module _ (drawn : PictureDrawn) (g : WalkGiven) (first now : WalkState) (fewer : ℕ) (few : fewer ≤ first.faults) where
  -- what was there before
  abbrev earlier : WalkState
  earlier = record first { faults = fewer }

  stands_from : (run : List WalkPass) (pictures : List (List ℕ)) (at : WalkState) → Stands drawn g run pictures first at
      → Stands drawn g run pictures earlier at
  stands_from run pictures at s = record {
    is_run = s.is_run;
    reached = s.reached;
    written = s.written;
    files = s.files;
    there = s.there;
    held = s.held;
    asked = s.asked;
    faults = let rose = s.faults in omega (arith, rose, few);
    out_faults = s.out_faults;
  }

  finished_from : Finished drawn g first now → Finished drawn g earlier now
  finished_from f = record {
    run = f.run;
    is_run = f.is_run;
    whole = f.whole;
    judged = f.judged;
    fits = f.fits;
    legal = f.legal;
    pinned = f.pinned;
    pictures = f.pictures;
    all = f.all;
    written = f.written;
    files = f.files;
    held = f.held;
    asked = f.asked;
    faults = let rose = f.faults in omega (arith, rose, few);
  }

  left_from : Left drawn g first now → Left drawn g earlier now
  left_from (inl l) = inl (record {
    files = l.files;
    held = l.held;
    asked = l.asked;
    faults = let rose = l.faults in omega (arith, rose, few);
    out_faults = l.out_faults;
  })
  left_from (inr l) = inr (record { run = l.run; pictures = l.pictures; mid = l.mid; stands = stands_from l.run l.pictures l.mid l.stands; front = l.front })

  failed_from : HasFailed drawn g first now → HasFailed drawn g earlier now
  failed_from (inl (inl rose)) = inl (inl rose)
  failed_from (inl (inr rose)) = inl (inr (omega (arith, rose, few)))
  failed_from (inr lost) = inr (record {
    settled = lost.settled;
    pass = lost.pass;
    before = lost.before;
    some = lost.some;
    pictures = lost.pictures;
    stands = stands_from (lost.pass ∷ lost.before) lost.pictures now lost.stands;
    rose = let rose = lost.rose in omega (arith, rose, few);
  })

  caused_from : (error : WalkError) → IsCausedBy drawn g first now error → IsCausedBy drawn g earlier now error
  caused_from (TooFewFrames frames needed) c = record {
    frames_are = c.frames_are;
    needed_are = c.needed_are;
    few = c.few;
    none = record { files = c.none.files; held = c.none.held };
  }
  caused_from (DoesNotFit picture needed room) c = record {
    settled = c.settled;
    room_is = c.room_is;
    unfit = c.unfit;
    earlier = c.earlier;
    pass = c.pass;
    before = c.before;
    of_picture = c.of_picture;
    first_pass = c.first_pass;
    pictures = c.pictures;
    all = c.all;
    stands = stands_from (c.pass ∷ c.before) c.pictures now c.stands;
  }
  caused_from Failed c = failed_from c
  caused_from NoMemory c = tt

  -- a walk ended as it did
  pub ends_from : {T : Type 0} (r : Result T WalkError) → MatchResult r (λ _. Finished drawn g first now) (LeftByRefusal drawn g first now)
      → MatchResult r (λ _. Finished drawn g earlier now) (LeftByRefusal drawn g earlier now)
  ends_from (Ok x) f = finished_from f
  ends_from (Err error) l = (left_from l.0, caused_from error l.1)

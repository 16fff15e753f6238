-- A walk whose next pass was run or drawn before it is journaled.
use Rattle.std.proofs.Common.{◌≡◌, ℕ, ◌-◌, inl, inr, List, ◌∷◌, Option, refl, sym, ◌∙◌, subst, arith}
use Rattle.vt_outside.specs.Files.{Files, Asked}
use Rattle.vt_evict.specs.PlanTypes.batches.Planned.{Planned}
use Rattle.vt_plan.specs.Views.{RecencyView}
use Rattle.vt_walk_decisions.specs.Requests.{FileState, ArePartlyReadFor}
use Rattle.vt_walk_decisions.specs.Machines.{MachineState}
use Rattle.vt_walk_decisions.specs.declared.error.WalkError.TheVariants as walk_error
use Rattle.vt_walk_decisions.specs.declared.steps.WalkStep.{WalkStep}
use Rattle.vt_walk_decisions.specs.declared.steps.Drawn.{Drawn}
use Rattle.vt_walk_decisions.specs.declared.steps.Next.{Next}
use Rattle.vt_walk_decisions.specs.declared.steps.Next.TheVariants as next
use Rattle.vt_walk.specs.DrawnBy.{PictureDrawn}
use Rattle.vt_walk.specs.declared.walk_steps.Walked.{Walked}
use Rattle.vt_walk.specs.Counts.{HasCounts}
use Rattle.vt_walk.specs.Runs.{WalkPass}
use Rattle.vt_walk.specs.Walks.{WalkGiven}
use Rattle.vt_walk.specs.States.{WalkState}
use Rattle.vt_walk.specs.WalkSteps.{StandsAtStep, HasDrawnPass, LeftByRefusal}
use Rattle.vt_walk.specs.Following.{MayStep, DrawsNext, StandsEnd, StandsNext}
use Rattle.vt_walk.proofs.Advancing.{read_partly}
use Rattle.vt_walk.proofs.Passing.{state_of, pass_broke}
use Rattle.vt_walk.proofs.Rounds.{is_whole}

module _ (drawn : PictureDrawn) (g : WalkGiven) (first : WalkState) where
  -- the next pass is at its step, if there is one
  pub may_turn : (number : ℕ) (t : WalkStep) (now : WalkState) (m : MachineState) (v : RecencyView) → (s : StandsAtStep drawn g number t first now m v)
      → MayStep g s.run number t m v
  may_turn number t now m v s = record { given = s.given; at_run = s.at_run; step = s.step }

  -- a run is whole
  end_stands : (number reads : ℕ) (t : WalkStep) (now : WalkState) (m : MachineState) (v : RecencyView) → StandsAtStep drawn g number t first now m v
      → t.picture ≡ g.setup.pictures → reads ≡ t.reads → StandsEnd drawn g number reads first now
  end_stands number reads t now m v s all are = record {
    last = record {
      run = s.run;
      pictures = s.pictures;
      given = s.given;
      stands = s.stands;
      whole = is_whole g.setup s.run t.picture s.stands.is_run s.step.step all;
      all = sym s.count ∙ all;
      reads_are = are ∙ s.step.reads;
    };
    number_is = s.step.number_is;
  }

  -- the next pass was drawn, if there is one
  pub next_stands : (number : ℕ) (t : WalkStep) (at : List FileState → WalkState) (m n : MachineState) (v u : RecencyView)
      → (s : StandsAtStep drawn g number t first (at m.files) m v) → (x : Next) → DrawsNext drawn g s.run t m n u x
      → StandsNext drawn g number x first at n u
  next_stands number t at m n v u s (next.Pass d) is =
      record { step = t; before = m; recency = v; stands = s; more = is.0; has_drawn = is.1 }
  next_stands number t at m n v u s (next.End reads) is =
      subst (λ (x : MachineState). StandsEnd drawn g number reads first (at x.files)) (sym is.2)
      (end_stands number reads t (at m.files) m v s is.0 is.1)

  -- the counts of a whole run
  pub end_counts : (number reads : ℕ) (now : WalkState) (walked : Walked) → StandsEnd drawn g number reads first now → walked.passes ≡ number - 1
      → walked.reads ≡ reads → HasCounts g.setup walked
  end_counts number reads now walked s passes are = record {
    run = s.last.run;
    is_run = s.last.stands.is_run;
    whole = s.last.whole;
    passes = let n = s.number_is in omega (arith, n, passes);
    reads = are ∙ s.last.reads_are;
  }

  -- a pass that was drawn was read for
  drawn_read : (t : WalkStep) (m n : MachineState) (u : RecencyView) (run : List WalkPass) (d : Drawn) → HasDrawnPass drawn g run t m n u d
      → ArePartlyReadFor g.scene.shape g.scene.depth t.batch.elements m.files n.files
  drawn_read t m n u run d h =
      subst (λ (batch : List Planned). ArePartlyReadFor g.scene.shape g.scene.depth batch m.files n.files) h.batch
      (read_partly g.scene.shape g.scene.depth h.pass.batch h.pass.losses m.files n.files h.next.outcome.reported h.read)

  -- the walk ends before a pass that was drawn is journaled
  pub next_left : (number : ℕ) (x : Next) (store : List ℕ) (kept : FileState) (held : Option (List ℕ)) (out_faults : ℕ) (files : Option Files)
      (asked : Option Asked) (faults : ℕ) (m : MachineState) (v : RecencyView)
      → StandsNext drawn g number x first (λ opened. state_of files asked faults store (kept ∷ opened) held out_faults) m v
      → LeftByRefusal drawn g first (state_of files asked faults store (kept ∷ m.files) held out_faults) walk_error.NoMemory
  next_left number (next.Pass d) store kept held out_faults files asked faults m v s =
      pass_broke drawn g number s.step first store kept held out_faults files asked faults s.before m s.recency v s.stands s.more
      (drawn_read s.step s.before m v s.stands.run d s.has_drawn) walk_error.NoMemory refl
  next_left number (next.End reads) store kept held out_faults files asked faults m v s = (
    inr (record {
      run = s.last.run;
      pictures = s.last.pictures;
      mid = state_of files asked faults store (kept ∷ m.files) held out_faults;
      stands = s.last.stands;
      front = inl (record { files = refl; held = refl }, record { asked = refl; faults = omega arith; out_faults = omega arith });
    }),
    tt,
  )

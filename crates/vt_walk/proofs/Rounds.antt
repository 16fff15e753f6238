-- The first step, the last one, and the end of a walk.
use Rattle.std.proofs.Common.{◌≡◌, ℕ, ◌+◌, ◌<◌, ◌≤◌, ◌⊎◌, inl, inr, List, [], ◌∷◌, ◌++◌, length, Option, refl, sym, ap, ◌∙◌, subst, take, arith}
use Rattle.std.specs.Prelude.{option_map}
use Rattle.std.proofs.lemmas.Bool.{cases_lt}
use Rattle.vt_outside.specs.Counts.{Rose}
use Rattle.vt_outside.specs.Files.{gained}
use Rattle.vt_outside.specs.declared.answers.OutsideError.{OutsideError}
use Rattle.vt_outside.specs.declared.answers.OutsideError.TheVariants.{Failed, NoMemory}
use Rattle.vt_plan.specs.Views.{RecencyView}
use Rattle.vt_walk_decisions.specs.Machines.{MachineState}
use Rattle.vt_walk_decisions.specs.declared.error.WalkError.{WalkError}
use Rattle.vt_walk_decisions.specs.declared.steps.WalkStep.{WalkStep}
use Rattle.vt_walk_decisions.specs.Refusals.{walk_refusal_by}
use Rattle.vt_walk_decisions.specs.declared.mode.Mode.{Mode}
use Rattle.vt_walk_decisions.specs.declared.mode.Mode.TheVariants.{Settled}
use Rattle.vt_walk.specs.DrawnBy.{PictureDrawn}
use Rattle.vt_walk.specs.Fits.{WalkSetup, PictureFits}
use Rattle.vt_walk.specs.Runs.{WalkPass, IsWalkRun, IsStepOf, IsWhole, WalkGoesOn}
use Rattle.vt_walk.specs.Logs.{end_line, reads_of, picture_lines}
use Rattle.vt_walk.specs.Walks.{WalkGiven}
use Rattle.vt_walk.specs.States.{WalkState}
use Rattle.vt_walk.specs.Standing.{Finished}
use Rattle.vt_walk.specs.Causes.{IsCausedBy}
use Rattle.vt_walk_decisions.specs.Tallies.{no_passes}
use Rattle.vt_walk.specs.WalkSteps.{StandsFirst, StandsAtStep, StandsLast, LeftByRefusal}
use Rattle.vt_walk.proofs.Steps.{known_gained}
use Rattle.vt_walk.proofs.Stepping.{earlier_fit}
use Rattle.vt_walk.proofs.RunContents.{run_is_legal, run_is_pinned}

-- nothing more is to follow
pub is_whole : (w : WalkSetup) (run : List WalkPass) (picture : ℕ) → IsWalkRun w run → IsStepOf w run picture → picture ≡ w.pictures → IsWhole w run
is_whole w [] picture is_run step all = sym all ∙ step
is_whole w (p ∷ run) picture is_run step all = (step.0, (either step.1).0, (either step.1).1) where
  either : {F : Type 0} → (F × (picture ≡ p.picture + 1)) ⊎ ((F → ⊥) × (picture ≡ p.picture)) → F × (p.picture + 1 ≡ w.pictures)
  either (inl next) = (next.0, sym next.1 ∙ all)
  either (inr same) = absurd (let inside = is_run.1.of_path in let e = same.1 in omega (arith, inside, e, all))

-- each picture of a whole settled run fits
pub each_fits : (w : WalkSetup) (run : List WalkPass) → w.mode ≡ Settled → IsWalkRun w run → IsWhole w run → (picture : ℕ) → picture < w.pictures → PictureFits w picture
each_fits w [] settled is_run none picture below = absurd (omega (arith, none, below))
each_fits w (p ∷ run) settled is_run whole picture below = pick (cases_lt picture p.picture) where
  pick : (picture < p.picture) ⊎ (p.picture ≤ picture) → PictureFits w picture
  pick (inl before) = earlier_fit w p run picture settled is_run before
  pick (inr not_before) =
      let same : p.picture ≡ picture = let last = whole.2 in omega (arith, last, below, not_before) in
      subst (PictureFits w) same (subst (λ (m : Mode). WalkGoesOn m w p) settled whole.0).1

module _ (drawn : PictureDrawn) (g : WalkGiven) (first now : WalkState) where
  -- the first step
  pub first_at : (m : MachineState) (v : RecencyView) (t : WalkStep) → StandsFirst drawn g first now m v → t.picture ≡ 0 → t.batch.elements ≡ []
      → t.tally ≡ no_passes
      → t.reads ≡ g.setup.pinned → StandsAtStep drawn g 1 t first now m v
  first_at m v t s picture batch tally reads = record {
    run = [];
    pictures = [];
    count = picture;
    given = s.given;
    stands = s.stands;
    at_run = s.at_run;
    step = record {
      inside = omega (arith, picture);
      step = picture;
      batch = batch;
      tally = tally;
      reads = omega (arith, reads);
      number_is = refl;
    };
    all_known = s.all_known;
  }

  abbrev with_text : Option (List ℕ) → ℕ → WalkState
  with_text held out_faults = record { files = now.files; held = held; faults = now.faults; out_faults = out_faults; asked = now.asked }

  end_is : (run : List WalkPass) (pictures reads : ℕ) → pictures ≡ g.setup.pictures → reads ≡ reads_of g.setup run
      → end_line pictures reads ≡ end_line g.setup.pictures (reads_of g.setup run)
  end_is run pictures reads all are = ap (λ k. end_line k reads) all ∙ ap (end_line g.setup.pictures) are

  -- the last line is whole
  pub last_done : (reads pictures : ℕ) (held : Option (List ℕ)) (out_faults : ℕ) → StandsLast drawn g reads first now → pictures ≡ g.setup.pictures
      → held ≡ option_map (gained (end_line pictures reads)) now.held → Finished drawn g first (with_text held out_faults)
  last_done reads pictures held out_faults s count text = record {
    run = s.run;
    is_run = s.stands.is_run;
    whole = s.whole;
    judged = s.given.setup.enough_frames;
    fits = λ settled. each_fits g.setup s.run settled s.stands.is_run s.whole;
    legal = run_is_legal g.setup s.run s.given.setup s.stands.is_run;
    pinned = run_is_pinned g.setup s.run s.given.setup s.stands.is_run;
    pictures = s.pictures;
    all = s.all;
    written = s.stands.written;
    files = s.stands.files;
    held = text ∙ ap (λ (l : List ℕ). option_map (gained l) now.held) (end_is s.run pictures reads count s.reads_are)
        ∙ ap (option_map (gained (end_line g.setup.pictures (reads_of g.setup s.run)))) s.stands.held
        ∙ known_gained (picture_lines s.run (length s.pictures)) (end_line g.setup.pictures (reads_of g.setup s.run)) first.held
        ∙ ap (λ k. option_map (gained (picture_lines s.run k ++ end_line g.setup.pictures (reads_of g.setup s.run))) first.held) s.all;
    asked = s.stands.asked;
    faults = s.stands.faults;
  }

  -- the output ends with a prefix of the last line
  pub last_broke : (reads pictures : ℕ) (held : Option (List ℕ)) (out_faults : ℕ) (error : OutsideError) (e : WalkError) → StandsLast drawn g reads first now
      → pictures ≡ g.setup.pictures → (k : ℕ) × (held ≡ option_map (gained (take k (end_line pictures reads))) now.held) → now.out_faults ≤ out_faults
      → (error ≡ Failed → Rose now.out_faults out_faults) → e ≡ walk_refusal_by error → LeftByRefusal drawn g first (with_text held out_faults) e
  last_broke reads pictures held out_faults error e s count part risen failed is = (
    inr (record {
      run = s.run;
      pictures = s.pictures;
      mid = now;
      stands = s.stands;
      front = inr (inr (inr (inr (inr (record {
        whole = s.whole;
        all = s.all;
        files = refl;
        count = part.0;
        held = part.1 ∙ ap (λ (l : List ℕ). option_map (gained (take part.0 l)) now.held) (end_is s.run pictures reads count s.reads_are);
        none = record { asked = refl; faults = omega arith; out_faults = risen };
      })))));
    }),
    subst (IsCausedBy drawn g first (with_text held out_faults)) (sym is) (cause error failed),
  ) where
    cause : (error : OutsideError) → (error ≡ Failed → Rose now.out_faults out_faults) → IsCausedBy drawn g first (with_text held out_faults) (walk_refusal_by error)
    cause NoMemory failed = tt
    cause Failed failed = inl (inl (let r = failed refl in let o = s.stands.out_faults in omega (arith, r, o)))

-- A picture that is written while the next one's first pass is run.
use Rattle.std.proofs.Common.{◌≡◌, ℕ, ◌+◌, ◌<◌, ◌≤◌, ◌⊎◌, inr, List, ◌∷◌, length, Option, Result, Ok, Err, refl, sym, ap, subst, take, arith}
use Rattle.std.specs.Prelude.{option_map}
use Rattle.std.specs.List.{concat}
use Rattle.vt_outside.specs.Counts.{Rose}
use Rattle.vt_outside.specs.Files.{with_bytes, gained}
use Rattle.vt_outside.specs.declared.answers.OutsideError.{OutsideError}
use Rattle.vt_outside.specs.declared.answers.OutsideError.TheVariants.{Failed}
use Rattle.vt_outside.specs.declared.outside.Folder.{Ghosts as FolderMeanings}
use Rattle.vt_pages.specs.Pages.{IsWithinLimits}
use Rattle.vt_ppm.specs.Picture.{picture_bytes}
use Rattle.vt_pictures.specs.Names.{picture_name}
use Rattle.vt_journal.specs.Changes.{Table}
use Rattle.vt_tiles.specs.StoreViews.{IsStore}
use Rattle.vt_plan.specs.Views.{RecencyView}
use Rattle.vt_walk_decisions.specs.Scenes.{Scene}
use Rattle.vt_walk_decisions.specs.Jobs.{Job}
use Rattle.vt_walk_decisions.specs.MachineTypes.crew.PassReport.{PassReport}
use Rattle.vt_walk_decisions.specs.Drawings.{Drawing}
use Rattle.vt_walk_decisions.specs.Requests.{FileState, ArePartlyReadFor}
use Rattle.vt_walk_decisions.specs.Machines.{MachineState}
use Rattle.vt_walk_decisions.specs.Passes.{MapsNeeded, MayPrepare, IsJobFor, Ran}
use Rattle.vt_walk_decisions.specs.declared.error.WalkError.{WalkError}
use Rattle.vt_walk_decisions.specs.declared.error.WalkError.TheVariants as walk_error
use Rattle.vt_walk_decisions.specs.declared.input.WalkInput.{WalkInput}
use Rattle.vt_walk_decisions.specs.declared.steps.Drawn.{Drawn}
use Rattle.vt_walk_decisions.specs.declared.steps.Passed.{Passed}
use Rattle.vt_walk_decisions.specs.declared.steps.WalkStep.{WalkStep}
use Rattle.vt_walk_decisions.specs.Judging.{MayGoOn, IsFollowed}
use Rattle.vt_walk_decisions.specs.Refusals.{walk_refusal_by}
use Rattle.vt_walk_decisions.specs.Reported.{next_step}
use Rattle.vt_walk_decisions.specs.Tallies.{no_passes}
use Rattle.vt_walk.specs.DrawnBy.{PictureDrawn, AnyRow}
use Rattle.vt_walk.specs.Tallies.{numbers_line}
use Rattle.vt_walk.specs.Walks.{WalkGiven, names_of}
use Rattle.vt_walk.specs.States.{WalkState, walk_state}
use Rattle.vt_walk.specs.WalkInputs.{given_of, input_scene, IsWalkInput}
use Rattle.vt_walk.specs.Writing.{WritesFile}
use Rattle.vt_walk.specs.WalkSteps.{MayTakeStep, HasDrawnPass, StandsAtStep, StandsAfter, LeftByRefusal}
use Rattle.vt_walk.specs.Following.{StandsRan, StandsDrawn}
use Rattle.vt_walk.proofs.Advancing.{may_prepare, is_job, read_at_most}
use Rattle.vt_walk.proofs.Ending.{stays, next_may, next_picture, picture_broke, line_broke}
use Rattle.vt_walk.proofs.Going.{room_left}
use Rattle.vt_walk.proofs.Passing.{may_draw, pass_broke}

-- the same by an equal step and an equal start
pub ran_as : (drawn : PictureDrawn) (g : WalkGiven) (number : ℕ) (t u : WalkStep) (start begun : ℕ) (r : PassReport)
    (first : WalkState) (at : List FileState → WalkState) (n : MachineState) (v : RecencyView) → u ≡ t → begun ≡ start
    → StandsRan drawn g number t start r first at n v → StandsRan drawn g number u begun r first at n v
ran_as drawn g number t u start begun r first at n v steps starts s =
    subst (λ (x : WalkStep × ℕ). StandsRan drawn g number x.0 x.1 r first at n v) (λ i. (sym steps i, sym starts i)) s

-- a pass that was run could not be planned after, or was
module _ (draws : Drawing) (drawn : PictureDrawn) (t : WalkInput) (known : Option (List ℕ))
    {D F : Type 0} (d : FolderMeanings D F) (store : List ℕ) (kept : FileState) (held : Option (List ℕ)) (out_faults : ℕ) (folder : D)
    (number start : ℕ) (step : WalkStep) (r : PassReport) (first : WalkState) (n : MachineState) (v u : RecencyView)
    (s : StandsRan drawn (given_of draws t known) number step start r first (λ files. walk_state d store folder (kept ∷ files) held out_faults) n v) where
  pub plan_broke : (e : WalkError) → e ≡ walk_error.NoMemory
      → LeftByRefusal drawn (given_of draws t known) first (walk_state d store folder (kept ∷ n.files) held out_faults) e
  plan_broke e is =
      pass_broke drawn (given_of draws t known) number step first store kept held out_faults (d.files folder) (d.asked folder) (d.faults folder)
      s.before n v u s.stands s.has_run.may.more
      (read_at_most draws t known AnyRow s.stands.run number step s.before n v r s.has_run.may s.has_run.ran) e is

  pub is_drawn : (x : Drawn) → HasDrawnPass drawn (given_of draws t known) s.stands.run step s.before n u x
      → StandsDrawn drawn (given_of draws t known) number x first (λ files. walk_state d store folder (kept ∷ files) held out_faults) n u
  is_drawn x is = record { step = step; before = s.before; recency = v; stands = s.stands; more = s.has_run.may.more; has_drawn = is }

module _ (draws : Drawing) (drawn : PictureDrawn)
    (law : (scene : Scene) (b : List ℕ) (m : Table) (i x y : ℕ) → IsWithinLimits scene.shape → IsStore b scene.shape scene.depth
    → i < length scene.path.cameras → x < scene.path.width → y < scene.path.height → MapsNeeded scene.shape m (draws.needs scene i)
    → draws.shows scene b m i x y ≡ draws.whole scene b i x y)
    (t : WalkInput) (known : Option (List ℕ)) (number : ℕ) (p : Passed) (first : WalkState) (m : MachineState) (v : RecencyView)
    (input : IsWalkInput t) where
  abbrev given : WalkGiven
  given = given_of draws t known

  pub left_after : (was : WalkState) → StandsAfter drawn given number p first was m v → (e : WalkError) → e ≡ walk_error.NoMemory
      → LeftByRefusal drawn given first was e
  left_after was s e is = stays draws drawn law (input_scene t) t.settings t.mode known (names_of t.names) number p first m v was s e is

  module _ (goes_on : MayGoOn t p) (followed : IsFollowed t p) where
    may_next : (was : WalkState) → (s : StandsAfter drawn given number p first was m v)
        → MayTakeStep given (s.pass ∷ s.run) (number + 1) (next_step p) m v
    may_next was s = next_may draws drawn law (input_scene t) t.settings t.mode known (names_of t.names) number p first m v was s goes_on.none_lost
        (room_left t p input goes_on) followed.ends followed.more

    pub may_prepare_next : (was : WalkState) → StandsAfter drawn given number p first was m v → number + 1 < 4294967296
        → MayPrepare m p.next_plan.plan.elements
    may_prepare_next was s below = may_prepare draws t known (s.pass ∷ s.run) (number + 1) (next_step p) m v input below (may_next was s)

    abbrev job : Job
    job = record { scene = input_scene t; picture = p.picture + 1; batch = p.next_plan.plan.elements }

    pub is_next_job : (was : WalkState) → StandsAfter drawn given number p first was m v → IsJobFor m.setup job
    is_next_job was s = is_job draws t known (s.pass ∷ s.run) (number + 1) (next_step p) m v (may_next was s)

    module _ {D F T : Type 0} (d : FolderMeanings D F) (store : List ℕ) (kept : FileState) (held : Option (List ℕ)) (out_faults : ℕ) (before after : D)
        (name bytes : List ℕ) (r : Result T OutsideError) (n : MachineState)
        (named : name ≡ picture_name t.names.prefix.now p.picture)
        (encoded : bytes ≡ picture_bytes t.depth t.path.now.width t.path.now.height (concat m.rows))
        (writes : WritesFile d name bytes r before after)
        (read : ArePartlyReadFor t.geometry.now t.depth p.next_plan.plan.elements m.files n.files)
        (s : StandsAfter drawn given number p first (walk_state d store before (kept ∷ m.files) held out_faults) m v) where
      -- the picture could not be written
      pub picture_left : (error : OutsideError) (e : WalkError) → r ≡ Err error → e ≡ walk_refusal_by error
          → LeftByRefusal drawn given first (walk_state d store after (kept ∷ n.files) held out_faults) e
      picture_left error e is gives =
          let w : WritesFile d name bytes (Err error) before after = subst (λ (x : Result T OutsideError). WritesFile d name bytes x before after) is writes in
          picture_broke draws drawn law (input_scene t) t.settings t.mode known (names_of t.names) number p first m v store kept
          (d.files before) (d.files after) (d.asked before) (d.asked after) (d.faults before) (d.faults after) held held out_faults out_faults
          n.files (inr (followed.more, read)) error e s goes_on.none_lost (room_left t p input goes_on) followed.ends
          (subst (λ (x : List ℕ × List ℕ). (d.files after ≡ d.files before)
          ⊎ ((k : ℕ) × (d.files after ≡ option_map (with_bytes x.0 (take k x.1)) (d.files before)))) (λ i. (named i, encoded i)) w.part)
          refl w.asked w.faults (omega arith) (λ failed. w.failed (ap Err failed)) gives

      whole : (x : T) → r ≡ Ok x → WritesFile d name bytes (Ok x) before after
      whole x is = subst (λ (y : Result T OutsideError). WritesFile d name bytes y before after) is writes

      holds : (x : T) → r ≡ Ok x → d.files after ≡ option_map (with_bytes (picture_name t.names.prefix.now p.picture)
          (picture_bytes t.depth t.path.now.width t.path.now.height (concat m.rows))) (d.files before)
      holds x is = subst (λ (y : List ℕ × List ℕ). d.files after ≡ option_map (with_bytes y.0 y.1) (d.files before)) (λ i. (named i, encoded i))
          (whole x is).whole

      -- its line could not be put
      pub line_left : (x : T) → r ≡ Ok x → (held' : Option (List ℕ)) (out_faults' : ℕ) (error : OutsideError) (e : WalkError)
          → (k : ℕ) × (held' ≡ option_map (gained (take k (numbers_line p.picture p.next_plan.wanted p.tally))) held)
          → out_faults ≤ out_faults' → (error ≡ Failed → Rose out_faults out_faults') → e ≡ walk_refusal_by error
          → LeftByRefusal drawn given first (walk_state d store after (kept ∷ n.files) held' out_faults') e
      line_left x is held' out_faults' error e part risen failed gives =
          line_broke draws drawn law (input_scene t) t.settings t.mode known (names_of t.names) number p first m v store kept
          (d.files before) (d.files after) (d.asked before) (d.asked after) (d.faults before) (d.faults after) held held' out_faults out_faults'
          n.files (inr (followed.more, read)) error e s goes_on.none_lost (room_left t p input goes_on) followed.ends
          (holds x is) part (whole x is).asked (whole x is).faults risen failed gives

      module _ (x : T) (is : r ≡ Ok x) (held' : Option (List ℕ)) (out_faults' : ℕ)
          (line : held' ≡ option_map (gained (numbers_line p.picture p.next_plan.wanted p.tally)) held) (risen : out_faults ≤ out_faults') where
        -- the next picture is next
        stands_next : StandsAtStep drawn given (number + 1) (next_step p) first (walk_state d store after (kept ∷ m.files) held' out_faults') m v
        stands_next = next_picture draws drawn law (input_scene t) t.settings t.mode known (names_of t.names) number p first m v store kept
            (d.files before) (d.files after) (d.asked before) (d.asked after) (d.faults before) (d.faults after) held held' out_faults out_faults'
            s goes_on.none_lost (room_left t p input goes_on) followed.ends
            (holds x is) line (whole x is).asked (whole x is).faults risen no_passes refl

        -- its first pass could not be run
        pub pass_left : (e : WalkError) → e ≡ walk_error.NoMemory
            → LeftByRefusal drawn given first (walk_state d store after (kept ∷ n.files) held' out_faults') e
        pass_left e gives = pass_broke drawn given (number + 1) (next_step p) first store kept held' out_faults' (d.files after) (d.asked after)
            (d.faults after) m n v v stands_next followed.more read e gives

        -- its first pass was run
        pub pass_ran : (report : PassReport) → Ran draws AnyRow job report m n → drawn n job.scene.path job.picture report.rows.elements
            → StandsRan drawn given (number + 1) (next_step p) (length m.journal) report first
            (λ files. walk_state d store after (kept ∷ files) held' out_faults') n v
        pass_ran report ran by = record {
          before = m;
          stands = stands_next;
          has_run = record {
            may = may_draw drawn given (number + 1) (next_step p) first (walk_state d store after (kept ∷ m.files) held' out_faults') m v stands_next
                followed.more;
            start_is = refl;
            ran = ran;
            by = by;
          };
        }

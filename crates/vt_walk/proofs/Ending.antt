-- The step after a pass.
use Rattle.std.proofs.Common.{◌≡◌, ℕ, ◌+◌, ◌<◌, ◌≤◌, ◌≢◌, ◌⊎◌, inl, inr, Bool, List, [], ◌∷◌, length, Option, refl, sym, ap, ◌∙◌, subst, take, arith}
use Rattle.std.specs.Prelude.{option_map, IsSome, IsTrue, ◌↔◌, if◌then◌else◌}
use Rattle.std.specs.List.{concat}
use Rattle.vt_outside.specs.Counts.{Rose}
use Rattle.vt_outside.specs.Files.{Files, Asked, with_bytes, gained}
use Rattle.vt_outside.specs.declared.answers.OutsideError.{OutsideError}
use Rattle.vt_outside.specs.declared.answers.OutsideError.TheVariants.{Failed, NoMemory}
use Rattle.vt_pages.specs.Pages.{IsWithinLimits}
use Rattle.vt_ppm.specs.Picture.{picture_bytes}
use Rattle.vt_pictures.specs.Names.{picture_name}
use Rattle.vt_journal.specs.Changes.{Table}
use Rattle.vt_tiles.specs.StoreViews.{IsStore}
use Rattle.vt_evict.specs.PlanTypes.batches.Planned.{Planned}
use Rattle.vt_plan.specs.Views.{RecencyView, pages_needed}
use Rattle.vt_walk_decisions.specs.Scenes.{Scene}
use Rattle.vt_walk_decisions.specs.Drawings.{Drawing}
use Rattle.vt_walk_decisions.specs.Outcomes.{lost_count}
use Rattle.vt_walk_decisions.specs.Requests.{FileState, AllKnown, ArePartlyReadFor, counts_of}
use Rattle.vt_walk_decisions.specs.Machines.{MachineState}
use Rattle.vt_walk_decisions.specs.Passes.{MapsNeeded}
use Rattle.vt_walk_decisions.specs.declared.error.WalkError.{WalkError}
use Rattle.vt_walk_decisions.specs.declared.error.WalkError.TheVariants as walk_error
use Rattle.vt_walk_decisions.specs.declared.mode.Mode.{Mode}
use Rattle.vt_walk_decisions.specs.declared.mode.Mode.TheVariants.{Live, Settled}
use Rattle.vt_walk_decisions.specs.declared.settings.Settings.{Settings}
use Rattle.vt_walk_decisions.specs.declared.tallies.Tally.{Tally}
use Rattle.vt_walk_decisions.specs.declared.steps.Passed.{Passed}
use Rattle.vt_walk_decisions.specs.Refusals.{walk_refusal_by}
use Rattle.vt_walk.specs.DrawnBy.{PictureDrawn}
use Rattle.vt_walk.specs.Fits.{WalkSetup, room_beside_pinned, DoesNotFit, NeedsFrames}
use Rattle.vt_walk.specs.Runs.{WalkPass, IsWalkSetup, IsWalkRun, Finishes, WalkGoesOn, plan_after, recency_after, planned_in, lost_in}
use Rattle.vt_walk.specs.Logs.{passes_of, picture_line, wanted_in}
use Rattle.vt_walk.specs.Walks.{WalkGiven, WalkNames, given_by}
use Rattle.vt_walk.specs.States.{WalkState}
use Rattle.vt_walk.specs.Reads.{AreAskedFor, AreAskedAtMostFor, OnKnown}
use Rattle.vt_walk.specs.Written.{IsWritten}
use Rattle.vt_walk.specs.Leaving.{Left, AsksAhead}
use Rattle.vt_walk.specs.Causes.{HasBroken, IsCausedBy}
use Rattle.vt_walk_decisions.specs.Tallies.{no_passes}
use Rattle.vt_walk_decisions.specs.Reported.{next_step}
use Rattle.vt_walk.specs.Tallies.{tally_of, numbers_line}
use Rattle.vt_walk_decisions.specs.Judging.{IsEnd}
use Rattle.vt_walk.specs.WalkSteps.{IsStep, MayTakeStep, StandsAtStep, StandsAfter, LeftByRefusal}
use Rattle.vt_walk.proofs.Asking.{losses_more}
use Rattle.vt_walk.proofs.Asks.{with_open, pass_asks_most, pass_fails_most, faults_rise}
use Rattle.vt_walk.proofs.Drawing.{picture_written}
use Rattle.vt_walk.proofs.Failing.{has_broken, broken_ahead, faults_rise_more}
use Rattle.vt_walk.proofs.LostReads.{FailsAtMostFor}
use Rattle.vt_walk.proofs.Passing.{state_of}
use Rattle.vt_walk.proofs.Running.{run_kept}
use Rattle.vt_walk.proofs.Showing.{other_number, self_number}
use Rattle.vt_walk.proofs.Steps.{picture_journaled}
use Rattle.vt_walk.proofs.Stepping.{earlier_fit, unfit_first}
use Rattle.vt_walk.proofs.Wholeness.{needs_of}

-- a run has no pass of a picture after its newest one's
before_it : (w : WalkSetup) (p q : WalkPass) (run : List WalkPass) → IsWalkRun w (p ∷ q ∷ run) → q.picture ≤ p.picture
before_it w p q run is_run = either is_run.1.step.1 where
  either : {F : Type 0} → (F × (p.picture ≡ q.picture + 1)) ⊎ ((F → ⊥) × (p.picture ≡ q.picture)) → q.picture ≤ p.picture
  either (inl next) = omega (arith, next.1)
  either (inr same) = omega (arith, same.1)

none_after : (w : WalkSetup) (p : WalkPass) (run : List WalkPass) (k : ℕ) → IsWalkRun w (p ∷ run) → p.picture < k → passes_of k (p ∷ run) ≡ []
none_after w p [] k is_run before =
    let other : p.picture ≢ k = λ same. absurd (omega (arith, same, before)) in
    ap (λ (b : Bool). if b then p ∷ passes_of k [] else passes_of k []) (other_number p.picture k other)
none_after w p (q ∷ run) k is_run before =
    let other : p.picture ≢ k = λ same. absurd (omega (arith, same, before)) in
    ap (λ (b : Bool). if b then p ∷ passes_of k (q ∷ run) else passes_of k (q ∷ run)) (other_number p.picture k other)
    ∙ none_after w q run k is_run.0 (let e = before_it w p q run is_run in omega (arith, e, before))

-- the pages that a run's newest picture needs
needs_frames : (w : WalkSetup) (p : WalkPass) (run : List WalkPass) (h : IsWalkSetup w) → IsWalkRun w (p ∷ run)
    → NeedsFrames w p.picture (pages_needed (recency_after w (p ∷ run)) p.wants)
needs_frames w p run h is_run =
    let kept = run_kept w (p ∷ run) h is_run in
    needs_of w (recency_after w (p ∷ run)) p.picture p.wants kept.shape kept.pinned is_run.1.wanted

-- a walk may go on
may_go : (mode : Mode) (w : WalkSetup) (p : WalkPass) (needed : ℕ) → (mode ≡ Settled → lost_count p.losses ≡ 0) → (mode ≡ Settled → needed ≤ room_beside_pinned w)
    → NeedsFrames w p.picture needed → WalkGoesOn mode w p
may_go Live w p needed none fits pages = tt
may_go Settled w p needed none fits pages = (none refl, record { needed = needed; pages = pages; room = fits refl })

-- by what is known of a pass it has finished its picture, or not
end_of : (mode : Mode) (p : WalkPass) (loads_nothing : Bool) (plan next : List Planned) → IsTrue loads_nothing ↔ (p.batch ≡ []) → plan ≡ next
    → IsEnd mode loads_nothing plan ↔ Finishes mode p.batch next
end_of Live p loads_nothing plan next batch is = (λ e. tt, λ e. tt)
end_of Settled p loads_nothing plan next batch is = (λ e. (batch.0 e.0, sym is ∙ e.1), λ e. (batch.1 e.0, is ∙ e.1))

line_of : (p : WalkPass) (run : List WalkPass) → passes_of p.picture (p ∷ run) ≡ p ∷ passes_of p.picture run
line_of p run = ap (λ (b : Bool). if b then p ∷ passes_of p.picture run else passes_of p.picture run) (self_number p.picture)

-- the line of a picture by what was counted
line_is : (p : WalkPass) (run : List WalkPass) (picture wanted : ℕ) (t : Tally) → picture ≡ p.picture → wanted ≡ length p.wants
    → t ≡ tally_of (passes_of p.picture (p ∷ run))
    → numbers_line picture wanted t ≡ picture_line (p ∷ run) p.picture
unfolding picture_line
line_is p run picture wanted t same wants tally =
    ap (λ k. numbers_line k wanted t) same ∙ ap (λ k. numbers_line p.picture k t) wants ∙ ap (numbers_line p.picture (length p.wants)) tally
    ∙ ap (λ k. numbers_line p.picture k (tally_of (passes_of p.picture (p ∷ run)))) (ap wanted_in (sym (line_of p run)))

module _ (draws : Drawing)
    (drawn : PictureDrawn)
    (law : (scene : Scene) (b : List ℕ) (m : Table) (i x y : ℕ) → IsWithinLimits scene.shape → IsStore b scene.shape scene.depth
    → i < length scene.path.cameras → x < scene.path.width → y < scene.path.height → MapsNeeded scene.shape m (draws.needs scene i)
    → draws.shows scene b m i x y ≡ draws.whole scene b i x y)
    (scene : Scene) (settings : Settings) (mode : Mode) (known : Option (List ℕ)) (names : WalkNames) (number : ℕ) (p : Passed) (first : WalkState)
    (m : MachineState) (v : RecencyView) where
  abbrev given : WalkGiven
  given = given_by draws scene settings mode known names

  goes : (was : WalkState) (s : StandsAfter drawn given number p first was m v) → (mode ≡ Settled → p.lost ≡ 0)
      → (mode ≡ Settled → p.next_plan.needed ≤ room_beside_pinned given.setup)
      → WalkGoesOn mode given.setup s.pass
  goes was s none fits =
      may_go mode given.setup s.pass p.next_plan.needed (λ is. sym s.passed.lost ∙ none is) fits
      (subst (NeedsFrames given.setup s.pass.picture) (sym s.passed.needed) (needs_frames given.setup s.pass s.run s.given.setup s.at_run.is_run))

  -- the same picture has another pass
  pub same_picture : (was : WalkState) (s : StandsAfter drawn given number p first was m v) → (mode ≡ Settled → p.lost ≡ 0)
      → (mode ≡ Settled → p.next_plan.needed ≤ room_beside_pinned given.setup) → (IsEnd mode p.loads_nothing p.next_plan.plan.elements → ⊥)
      → StandsAtStep drawn given (number + 1) (record { picture = p.picture; batch = p.next_plan.plan; tally = p.tally; reads = p.reads }) first was m v
  same_picture was s none fits unfinished =
      let same : p.picture ≡ s.pass.picture = s.passed.picture in
      let finish = end_of mode s.pass p.loads_nothing p.next_plan.plan.elements (plan_after given.setup (s.pass ∷ s.run)) s.passed.loads_nothing s.passed.plan in
      record {
        run = s.pass ∷ s.run;
        pictures = s.pictures;
        count = same ∙ s.count;
        given = s.given;
        stands = s.stands;
        at_run = s.at_run;
        step = record {
          inside = let i = s.passed.inside in omega (arith, i, same);
          step = (goes was s none fits, inr (λ finished. unfinished (finish.1 finished), same));
          batch = s.passed.plan;
          tally = s.passed.tally ∙ ap (λ k. tally_of (passes_of k (s.pass ∷ s.run))) (sym same);
          reads = s.passed.reads;
          number_is = let n = s.number_is in omega (arith, n);
        };
        all_known = s.all_known;
      }

  finished : (was : WalkState) (s : StandsAfter drawn given number p first was m v) → IsEnd mode p.loads_nothing p.next_plan.plan.elements
      → Finishes mode s.pass.batch (plan_after given.setup (s.pass ∷ s.run))
  finished was s end =
      (end_of mode s.pass p.loads_nothing p.next_plan.plan.elements (plan_after given.setup (s.pass ∷ s.run)) s.passed.loads_nothing s.passed.plan).0 end

  -- the next picture's first pass is next
  turn_is : (was : WalkState) (s : StandsAfter drawn given number p first was m v) → (mode ≡ Settled → p.lost ≡ 0)
      → (mode ≡ Settled → p.next_plan.needed ≤ room_beside_pinned given.setup) → IsEnd mode p.loads_nothing p.next_plan.plan.elements
      → (t : Tally) → t ≡ no_passes
      → IsStep given (s.pass ∷ s.run) (number + 1) (record { picture = p.picture + 1; batch = p.next_plan.plan; tally = t; reads = p.reads })
  turn_is was s none fits end t empty = record {
    inside = let i = s.passed.inside in let e = s.passed.picture in omega (arith, i, e);
    step = (goes was s none fits, inl (finished was s end, ap (λ k. k + 1) s.passed.picture));
    batch = s.passed.plan;
    tally = empty ∙ ap tally_of (sym (none_after given.setup s.pass s.run (p.picture + 1) s.at_run.is_run
        (let e = s.passed.picture in omega (arith, e))));
    reads = s.passed.reads;
    number_is = let n = s.number_is in omega (arith, n);
  }

  -- a machine may draw the next picture's first pass
  pub next_may : (was : WalkState) (s : StandsAfter drawn given number p first was m v) → (mode ≡ Settled → p.lost ≡ 0)
      → (mode ≡ Settled → p.next_plan.needed ≤ room_beside_pinned given.setup) → IsEnd mode p.loads_nothing p.next_plan.plan.elements
      → p.picture + 1 < length scene.path.cameras → MayTakeStep given (s.pass ∷ s.run) (number + 1) (next_step p) m v
  next_may was s none fits end more =
      record { given = s.given; at_run = s.at_run; step = turn_is was s none fits end no_passes refl; more = more }

  -- the walk stops after the pass, of which all is there
  stops : (was : WalkState) → StandsAfter drawn given number p first was m v → Left drawn given first was
  stops was s = inr (record {
    run = s.pass ∷ s.run;
    pictures = s.pictures;
    mid = was;
    stands = s.stands;
    front = inl (record { files = refl; held = refl }, record { asked = refl; faults = omega arith; out_faults = omega arith });
  })

  -- memory was refused after the pass
  pub stays : (was : WalkState) → StandsAfter drawn given number p first was m v → (e : WalkError) → e ≡ walk_error.NoMemory
      → LeftByRefusal drawn given first was e
  stays was s e is = (stops was s, subst (IsCausedBy drawn given first was) (sym is) tt)

  -- a tile of a settled walk was lost
  pub tile_lost : (was : WalkState) → StandsAfter drawn given number p first was m v → mode ≡ Settled → 1 ≤ p.lost
      → LeftByRefusal drawn given first was walk_error.Failed
  tile_lost was s settled lost =
      let n = losses_more given.setup s.pass s.run s.at_run.is_run in
      let e = s.passed.lost in
      let f = s.stands.faults in (
        stops was s,
        inr (record {
          settled = settled;
          pass = s.pass;
          before = s.run;
          some = omega (arith, e, lost);
          pictures = s.pictures;
          stands = s.stands;
          rose = omega (arith, n, e, f, lost);
        }),
      )

  -- the picture does not fit
  pub no_room : (was : WalkState) → StandsAfter drawn given number p first was m v → mode ≡ Settled → (picture wanted room : ℕ)
      → picture ≡ p.picture → wanted ≡ p.next_plan.needed → room ≡ room_beside_pinned given.setup → room < wanted
      → LeftByRefusal drawn given first was (walk_error.DoesNotFit picture wanted room)
  no_room was s settled picture wanted room of_picture are is over =
      let same : picture ≡ s.pass.picture = of_picture ∙ s.passed.picture in
      let pages : NeedsFrames given.setup s.pass.picture wanted =
      subst (NeedsFrames given.setup s.pass.picture) (sym (are ∙ s.passed.needed)) (needs_frames given.setup s.pass s.run s.given.setup s.at_run.is_run) in
      let unfit : DoesNotFit given.setup s.pass.picture wanted = record { pages = pages; no_room = omega (arith, is, over) } in (
        stops was s,
        record {
          settled = settled;
          room_is = is;
          unfit = subst (λ k. DoesNotFit given.setup k wanted) (sym same) unfit;
          earlier = λ i before. earlier_fit given.setup s.pass s.run i settled s.at_run.is_run (omega (arith, before, same));
          pass = s.pass;
          before = s.run;
          of_picture = sym same;
          first_pass = ap (λ k. passes_of k s.run) same ∙ unfit_first given.setup s.pass s.run wanted settled s.at_run.is_run unfit;
          pictures = s.pictures;
          all = sym (same ∙ s.count);
          stands = s.stands;
        },
      )

  -- the bytes of the picture
  abbrev bytes : List ℕ
  bytes = picture_bytes scene.depth scene.path.width scene.path.height (concat m.rows)

  is_written : (was : WalkState) (s : StandsAfter drawn given number p first was m v) → (mode ≡ Settled → p.lost ≡ 0)
      → (mode ≡ Settled → p.next_plan.needed ≤ room_beside_pinned given.setup) → IsEnd mode p.loads_nothing p.next_plan.plan.elements
      → IsWritten drawn given (s.pass ∷ s.run) s.pass.picture bytes
  is_written was s none fits end =
      picture_written draws drawn law scene settings mode known names s.run s.pass m s.given s.at_run.is_run s.has_run
      s.at_run.journal (goes was s none fits) (finished was s end)

  module _ (store : List ℕ) (kept : FileState) (files files' : Option Files) (asked asked' : Option Asked) (faults faults' : ℕ) (held held' : Option (List ℕ))
      (out_faults out_faults' : ℕ) where
    abbrev was : WalkState
    was = state_of files asked faults store (kept ∷ m.files) held out_faults

    abbrev now : WalkState
    now = state_of files' asked' faults' store (kept ∷ m.files) held' out_faults'

    -- the picture and its line are whole
    pub next_picture : (s : StandsAfter drawn given number p first was m v) → (mode ≡ Settled → p.lost ≡ 0)
        → (mode ≡ Settled → p.next_plan.needed ≤ room_beside_pinned given.setup) → IsEnd mode p.loads_nothing p.next_plan.plan.elements
        → files' ≡ option_map (with_bytes (picture_name names.prefix p.picture) bytes) files
        → held' ≡ option_map (gained (numbers_line p.picture p.next_plan.wanted p.tally)) held
        → asked' ≡ asked → faults ≤ faults' → out_faults ≤ out_faults' → (t : Tally) → t ≡ no_passes
        → StandsAtStep drawn given (number + 1) (record { picture = p.picture + 1; batch = p.next_plan.plan; tally = t; reads = p.reads }) first now m v
    next_picture s none fits end written line same risen out_risen t empty =
        let picture : p.picture ≡ length s.pictures = s.passed.picture ∙ s.count in
        record {
          run = s.pass ∷ s.run;
          pictures = bytes ∷ s.pictures;
          count = omega (arith, picture);
          given = s.given;
          stands = picture_journaled drawn given s.pass s.run s.pictures bytes first was now s.stands (finished was s end) s.count
              (subst (λ k. IsWritten drawn given (s.pass ∷ s.run) k bytes) s.count (is_written was s none fits end))
              (written ∙ ap (λ k. option_map (with_bytes (picture_name names.prefix k) bytes) files) picture)
              (line ∙ ap (λ (l : List ℕ). option_map (gained l) held)
              (line_is s.pass s.run p.picture p.next_plan.wanted p.tally s.passed.picture s.passed.wanted s.passed.tally
              ∙ ap (picture_line (s.pass ∷ s.run)) s.count))
              (ap (with_open store (kept ∷ m.files)) same) (omega (arith, risen)) out_risen;
          at_run = s.at_run;
          step = turn_is was s none fits end t empty;
          all_known = subst (λ (a : Option Asked). IsSome (with_open store (kept ∷ m.files) a) → AllKnown m.files) (sym same) s.all_known;
        }

    -- what is there then, with the files that are open
    abbrev later : List FileState → WalkState
    later opened = state_of files' asked' faults' store (kept ∷ opened) held' out_faults'

    -- the files are as they were, or the next picture's first pass was under way
    abbrev pub AreAhead : List FileState → Type 0
    AreAhead opened = (opened ≡ m.files)
        ⊎ ((p.picture + 1 < length scene.path.cameras) × ArePartlyReadFor scene.shape scene.depth p.next_plan.plan.elements m.files opened)

    -- the folder failed after a pass
    fails : (s : StandsAfter drawn given number p first was m v) → asked' ≡ asked → Rose faults faults' → (opened : List FileState) → AreAhead opened
        → HasBroken given first (later opened)
    fails s same rose opened (inl none) =
        subst (λ (files : List FileState). HasBroken given first (later files)) (sym none)
        (has_broken given (planned_in (s.pass ∷ s.run)) (lost_in (s.pass ∷ s.run)) first now s.given
        (subst (λ (a : Option Asked). OnKnown (AreAskedFor scene.shape scene.depth given.setup.pinned (planned_in (s.pass ∷ s.run))
        (lost_in (s.pass ∷ s.run))) first.asked (with_open store (kept ∷ m.files) a))
        (sym same) s.stands.asked) (let f = s.stands.faults in omega (arith, f, rose)))
    fails s same rose opened (inr (more, read)) =
        broken_ahead given (planned_in (s.pass ∷ s.run)) (lost_in (s.pass ∷ s.run)) read.lost first was (later opened) s.given s.stands.asked
        (subst (λ (a : Option Asked). OnKnown (FailsAtMostFor scene.shape scene.depth read.lost) was.asked (with_open store (kept ∷ opened) a))
        (sym same) (pass_fails_most scene.shape scene.depth p.next_plan.plan.elements store kept m.files opened asked s.all_known read))
        (let f = s.stands.faults in
        omega (arith, f, faults_rise_more (length read.lost) faults faults' kept.faults (counts_of m.files) (counts_of opened) read.faults rose))

    -- nothing was asked but by the next picture's first pass
    asks_ahead : (s : StandsAfter drawn given number p first was m v) → (mode ≡ Settled → p.lost ≡ 0)
        → (mode ≡ Settled → p.next_plan.needed ≤ room_beside_pinned given.setup) → IsEnd mode p.loads_nothing p.next_plan.plan.elements
        → asked' ≡ asked → faults ≤ faults' → out_faults ≤ out_faults' → (opened : List FileState) → AreAhead opened
        → AsksAhead given (s.pass ∷ s.run) (length s.pictures) was (later opened)
    asks_ahead s none fits end same risen out_risen opened (inl unread) =
        subst (λ (files : List FileState). AsksAhead given (s.pass ∷ s.run) (length s.pictures) was (later files)) (sym unread)
        (record { asked = inl (ap (with_open store (kept ∷ m.files)) same); faults = omega (arith, risen); out_faults = out_risen })
    asks_ahead s none fits end same risen out_risen opened (inr (more, read)) =
        let picture : p.picture ≡ length s.pictures = s.passed.picture ∙ s.count in
        let rise = faults_rise (length read.lost) faults kept.faults (counts_of m.files) (counts_of opened) read.faults in
        record {
          asked = inr (record {
            step = (goes was s none fits, inl (finished was s end, ap (λ k. k + 1) (sym s.count)));
            of_path = omega (arith, more, picture);
            asked = subst (λ (a : Option Asked). OnKnown (AreAskedAtMostFor scene.shape scene.depth 0 (plan_after given.setup (s.pass ∷ s.run))) was.asked
                (with_open store (kept ∷ opened) a)) (sym same)
                (subst (λ (batch : List Planned). OnKnown (AreAskedAtMostFor scene.shape scene.depth 0 batch) was.asked (with_open store (kept ∷ opened) asked))
                s.passed.plan (pass_asks_most scene.shape scene.depth p.next_plan.plan.elements store kept m.files opened asked s.all_known read));
          });
          faults = omega (arith, rise, risen);
          out_faults = out_risen;
        }

    -- a prefix of the picture is there
    pub picture_broke : (opened : List FileState) → AreAhead opened → (error : OutsideError) (e : WalkError) (s : StandsAfter drawn given number p first was m v)
        → (mode ≡ Settled → p.lost ≡ 0)
        → (mode ≡ Settled → p.next_plan.needed ≤ room_beside_pinned given.setup) → IsEnd mode p.loads_nothing p.next_plan.plan.elements
        → (files' ≡ files) ⊎ ((k : ℕ) × (files' ≡ option_map (with_bytes (picture_name names.prefix p.picture) (take k bytes)) files))
        → held' ≡ held → asked' ≡ asked → faults ≤ faults' → out_faults ≤ out_faults' → (error ≡ Failed → Rose faults faults') → e ≡ walk_refusal_by error
        → LeftByRefusal drawn given first (later opened) e
    picture_broke opened ahead error e s none fits end part line same risen out_risen failed is =
        let picture : p.picture ≡ length s.pictures = s.passed.picture ∙ s.count in (
          inr (record {
            run = s.pass ∷ s.run;
            pictures = s.pictures;
            mid = was;
            stands = s.stands;
            front = inr (inr (inr (inl (record {
              finished = (finished was s end, s.count);
              bytes = bytes;
              written = subst (λ k. IsWritten drawn given (s.pass ∷ s.run) k bytes) s.count (is_written was s none fits end);
              files = subst (λ n. (files' ≡ files) ⊎ ((k : ℕ)
                  × (files' ≡ option_map (with_bytes (picture_name names.prefix n) (take k bytes)) files))) picture part;
              held = line;
              ahead = asks_ahead s none fits end same risen out_risen opened ahead;
            }))));
          }),
          subst (IsCausedBy drawn given first (later opened)) (sym is) (cause error failed),
        ) where
          cause : (error : OutsideError) → (error ≡ Failed → Rose faults faults') → IsCausedBy drawn given first (later opened) (walk_refusal_by error)
          cause NoMemory failed = tt
          cause Failed failed = inl (fails s same (failed refl) opened ahead)

    -- a prefix of the line was put
    pub line_broke : (opened : List FileState) → AreAhead opened → (error : OutsideError) (e : WalkError) (s : StandsAfter drawn given number p first was m v)
        → (mode ≡ Settled → p.lost ≡ 0)
        → (mode ≡ Settled → p.next_plan.needed ≤ room_beside_pinned given.setup) → IsEnd mode p.loads_nothing p.next_plan.plan.elements
        → files' ≡ option_map (with_bytes (picture_name names.prefix p.picture) bytes) files
        → (k : ℕ) × (held' ≡ option_map (gained (take k (numbers_line p.picture p.next_plan.wanted p.tally))) held)
        → asked' ≡ asked → faults ≤ faults' → out_faults ≤ out_faults' → (error ≡ Failed → Rose out_faults out_faults') → e ≡ walk_refusal_by error
        → LeftByRefusal drawn given first (later opened) e
    line_broke opened ahead error e s none fits end written part same risen out_risen failed is =
        let picture : p.picture ≡ length s.pictures = s.passed.picture ∙ s.count in (
          inr (record {
            run = s.pass ∷ s.run;
            pictures = s.pictures;
            mid = was;
            stands = s.stands;
            front = inr (inr (inr (inr (inl (record {
              finished = (finished was s end, s.count);
              bytes = bytes;
              written = subst (λ k. IsWritten drawn given (s.pass ∷ s.run) k bytes) s.count (is_written was s none fits end);
              files = written ∙ ap (λ k. option_map (with_bytes (picture_name names.prefix k) bytes) files) picture;
              count = part.0;
              held = part.1 ∙ ap (λ (l : List ℕ). option_map (gained (take part.0 l)) held)
                  (line_is s.pass s.run p.picture p.next_plan.wanted p.tally s.passed.picture s.passed.wanted s.passed.tally
                  ∙ ap (picture_line (s.pass ∷ s.run)) s.count);
              ahead = asks_ahead s none fits end same risen out_risen opened ahead;
            })))));
          }),
          subst (IsCausedBy drawn given first (later opened)) (sym is) (cause error failed),
        ) where
          cause : (error : OutsideError) → (error ≡ Failed → Rose out_faults out_faults') → IsCausedBy drawn given first (later opened) (walk_refusal_by error)
          cause NoMemory failed = tt
          cause Failed failed = inl (inl (let r = failed refl in let o = s.stands.out_faults in omega (arith, r, o)))

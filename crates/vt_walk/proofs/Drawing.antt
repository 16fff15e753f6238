-- The picture of a machine that has run a picture's last pass is what is to be written of it.
use Rattle.std.proofs.Common.{◌≡◌, ℕ, ◌<◌, true, List, [], ◌∷◌, length, Option, Some, None, refl, sym, ap, ◌∙◌, subst}
use Rattle.std.specs.Prelude.{IfSome, All}
use Rattle.std.specs.List.{concat}
use Rattle.vt_pages.specs.Pages.{IsWithinLimits}
use Rattle.vt_ppm.specs.Picture.{picture_bytes}
use Rattle.vt_journal.specs.declared.changes.Change.{Change}
use Rattle.vt_journal.specs.Changes.{Table, newest}
use Rattle.vt_tiles.specs.StoreViews.{IsStore}
use Rattle.vt_walk_decisions.specs.Scenes.{Scene}
use Rattle.vt_walk_decisions.specs.Drawings.{Drawing}
use Rattle.vt_walk_decisions.specs.Machines.{Setup, MachineState}
use Rattle.vt_walk_decisions.specs.Replays.{IsPictureOf, IsFull}
use Rattle.vt_walk_decisions.specs.Passes.{IsPictured, IsJobFor, MapsNeeded}
use Rattle.vt_walk_decisions.proofs.Settled.{settled}
use Rattle.vt_walk_decisions.specs.declared.settings.Settings.{Settings}
use Rattle.vt_walk_decisions.specs.declared.mode.Mode.{Mode}
use Rattle.vt_walk_decisions.specs.declared.mode.Mode.TheVariants.{Settled}
use Rattle.vt_walk.specs.DrawnBy.{PictureDrawn, AnyRow}
use Rattle.vt_walk.specs.Runs.{WalkPass, IsWalkRun, IsFinished, WalkGoesOn, Finishes, journal_after, plan_after}
use Rattle.vt_walk.specs.Shown.{last_rows, IsRunPicture}
use Rattle.vt_walk.specs.Walks.{WalkGiven, WalkNames, setup_of_walk, given_by}
use Rattle.vt_walk.specs.Written.{IsWritten}
use Rattle.vt_walk.specs.WalkSteps.{IsGiven, HasRun, job_for}
use Rattle.vt_walk.proofs.Showing.{picture_drawn, rows_after, through_after, self_number}
use Rattle.vt_walk.proofs.Wholeness.{finished_maps_needed}

-- a settled picture is finished by a pass that loads nothing
no_batch : (mode : Mode) (p : WalkPass) (plan : List _) → mode ≡ Settled → Finishes mode p.batch plan → p.batch ≡ []
no_batch mode p plan is finishes = (subst (λ m. Finishes m p.batch plan) is finishes).0

module _ (draws : Drawing)
    (drawn : PictureDrawn)
    (law : (scene : Scene) (b : List ℕ) (m : Table) (i x y : ℕ) → IsWithinLimits scene.shape → IsStore b scene.shape scene.depth
    → i < length scene.path.cameras → x < scene.path.width → y < scene.path.height → MapsNeeded scene.shape m (draws.needs scene i)
    → draws.shows scene b m i x y ≡ draws.whole scene b i x y)
    (scene : Scene) (settings : Settings) (mode : Mode) (known : Option (List ℕ)) (names : WalkNames) where
  abbrev given : WalkGiven
  given = given_by draws scene settings mode known names

  pub picture_written : (run : List WalkPass) (p : WalkPass) (m : MachineState) → IsGiven given → IsWalkRun given.setup (p ∷ run)
      → HasRun drawn given run p m → m.journal ≡ journal_after given.setup (p ∷ run)
      → WalkGoesOn mode given.setup p → IsFinished given.setup p run
      → IsWritten drawn given (p ∷ run) p.picture (picture_bytes scene.depth scene.path.width scene.path.height (concat m.rows))
  picture_written run p m is_given is_run r journal goes_on finished =
      let setup : m.setup ≡ setup_of_walk given = r.ran.setup ∙ r.setup in
      let pictured : IsPictured draws AnyRow (job_for given p) p.rows m =
      subst (λ lines. IsPictured draws AnyRow (job_for given p) lines m) r.rows_are r.ran.picture in
      let own : last_rows (p ∷ run) p.picture ≡ p.rows = rows_after true p run p.picture (self_number p.picture) in
      record {
        samples = concat m.rows;
        encoded = refl;
        replay = replayed known refl setup pictured;
        plain = λ settled_mode. plain_picture known refl settled_mode;
        from_draws = record {
          machine = m;
          setup = setup;
          journal = journal ∙ ap (journal_after given.setup) (sym (through_after true p run p.picture (self_number p.picture)));
          joined = refl;
          count = pictured.count ∙ ap (λ (s : Setup). s.height) setup;
          full = subst (λ (s : Setup). All (IsFull s.depth s.width) m.rows) setup pictured.full;
          lines = ap length own ∙ is_run.1.in_order.of_picture.count;
          drawn_by = subst (drawn m scene.path p.picture) (r.rows_are ∙ sym own) r.by;
        };
      } where
        replayed : (o : Option (List ℕ)) → known ≡ o → m.setup ≡ setup_of_walk given → IsPictured draws AnyRow (job_for given p) p.rows m
            → IfSome o (λ b. IsRunPicture given.setup (p ∷ run) scene.depth scene.path.width (draws.shows scene b) p.picture (concat m.rows))
        replayed None is setup pictured = tt
        replayed (Some b) is setup pictured =
            subst (λ (s : Setup). IsRunPicture given.setup (p ∷ run) s.depth s.width (draws.shows scene b) p.picture (concat m.rows)) setup
            (picture_drawn given.setup p run draws AnyRow (job_for given p) m b pictured (ap (λ (s : Setup). s.bytes) setup ∙ is)
            (ap (λ (s : Setup). s.height) setup) journal refl)

        plain_picture : (o : Option (List ℕ)) → known ≡ o → mode ≡ Settled
            → IfSome o (λ b. IsPictureOf scene.depth scene.path.width scene.path.height (λ x y. draws.whole scene b p.picture x y) (concat m.rows))
        plain_picture None is settled_mode = tt
        plain_picture (Some b) is settled_mode =
            let none = no_batch mode p (plan_after given.setup (p ∷ run)) settled_mode finished in
            let job : IsJobFor r.before.setup (job_for given p) = subst (λ (s : Setup). IsJobFor s (job_for given p)) (sym r.setup)
            (record { shape = refl; depth = refl; width = refl; height = refl; picture = is_run.1.of_path }) in
            let needed = finished_maps_needed given.setup p run is_given.setup is_run settled_mode goes_on finished in
            let at_table = subst (λ (js : List Change). MapsNeeded scene.shape (newest js) (draws.needs scene p.picture)) (sym r.journal) needed in
            subst (λ (s : Setup). IsPictureOf s.depth s.width s.height (λ x y. draws.whole scene b p.picture x y) (concat m.rows)) r.setup
            (settled draws AnyRow law (job_for given p) r.report r.before m b r.ran none is_given.setup.limits job
            (ap (λ (s : Setup). s.bytes) r.setup ∙ is) (is_given.store.each b is) at_table)

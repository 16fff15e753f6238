use Rattle.std.proofs.Common.{◌≡◌, ℕ, ◌<◌, ◌≤◌, [], ◌∷◌, Err, ap, sym, ◌∙◌, subst, arith}
use Rattle.std.specs.Prelude.{MatchResult, option_map}
use Rattle.vt_ppm.specs.Depths.{IsDepth}
use Rattle.vt_pages.specs.Limits.{most_pictures}
use Rattle.vt_outside.specs.Counts.{added}
use Rattle.vt_outside.specs.Files.{with_places}
use Rattle.vt_pages.specs.Shape.{Shape}
use Rattle.vt_pages.specs.Pages.{pinned_of}
use Rattle.vt_walk_decisions.specs.Scenes.{scene_of}
use Rattle.vt_walk_decisions.specs.Machines.{file_state}
use Rattle.vt_walk_decisions.specs.declared.error.WalkError.TheVariants.{TooFewFrames}
use Rattle.vt_walk_decisions.specs.declared.mode.Mode.{Mode}
use Rattle.vt_walk.specs.Walks.{WalkGiven, given_by, mode_of, names_of, AreSettings}
use Rattle.vt_walk.specs.States.{walk_state}
use Rattle.vt_walk.specs.Standing.{Finished}
use Rattle.vt_walk.specs.WalkSteps.{LeftByRefusal}
use Rattle.vt_walk.specs.DrawnBy.{IsDrawnBySome}
use Rattle.vt_walk.proofs.Closings.{others_closed}
use Rattle.vt_walk.proofs.Concluding.{others_chain, store_closed}
use Rattle.vt_walk.proofs.WalkInputLaws.{some_pinned}
use Rattle.vt_walk.proofs.walk.walk_counted.Goals as goal

pub walk_store-walked-requires-clause-input : goal.walk_store-walked-requires-clause-input
walk_store-walked-requires-clause-input g c κs within =
    let settings = subst (λ (s : Shape). AreSettings s c.args.settings.now) (sym c.geometry-geometry.ensures.shape) c.requires.settings in
    record {
      limits = c.page_count.ensures.limits;
      depth = subst IsDepth (sym c.depth.ensures.value) c.depth.ensures.lawful;
      settings = settings;
      pages = c.pinned_count.ensures.count;
      some = subst (λ n. 1 ≤ n) (sym c.pinned_count.ensures.count)
          (some_pinned c.geometry-geometry.result c.args.settings.now.pinned c.page_count.ensures.limits settings.some_level);
      enough = c.pinned_count.ensures.most;
      pictures = subst (λ n. n ≤ most_pictures) c.pictures.ensures.value c.pictures.ensures.high;
    }

pub returns-clause-walked : goal.returns-clause-walked
returns-clause-walked g c =
    let drawn = IsDrawnBySome g.M.PassMachine in
    let name = c.args.names.now.store.now in
    let known = g.D.File.File.bytes c.args.store.file in
    let given = λ (s : Shape) (d : ℕ) (m : Mode). given_by g.M.PassMachine.drawing
    (scene_of s d c.args.path.now) c.args.settings.now m known (names_of c.args.names.now) in
    let first = walk_state g.D.Folder name c.args.folder.now (file_state g.D.File.File c.args.store.file ∷ []) (g.O.Sink.held c.args.out.now)
    (g.O.Sink.faults c.args.out.now) in
    let last = walk_state g.D.Folder name c.close.new.self [] (g.O.Sink.held c.walk_store-walked.new.out) (g.O.Sink.faults c.walk_store-walked.new.out) in
    let same : given c.geometry-geometry.result c.depth.result c.mode_of.result ≡ given c.args.store.shape c.args.store.depth (mode_of c.args.settled) =
    ap (λ (s : Shape). given s c.depth.result c.mode_of.result) c.geometry-geometry.ensures.shape
    ∙ ap (λ (d : ℕ). given c.args.store.shape d c.mode_of.result) c.depth.ensures.value
    ∙ ap (λ (m : Mode). given c.args.store.shape c.args.store.depth m) c.mode_of.ensures in
    let closed = subst (λ f. g.D.Folder.asked c.close.new.self ≡ option_map (with_places (g.D.File.File.name f) (g.D.File.File.asked f))
    (g.D.Folder.asked c.walk_store-walked.new.folder)) c.into_file.ensures c.close.ensures.asked in
    let faults = subst (λ f. g.D.Folder.faults c.close.new.self ≡ added (g.D.Folder.faults c.walk_store-walked.new.folder)
    (g.D.File.File.faults f)) c.into_file.ensures c.close.ensures.faults in
    subst (λ (walk : WalkGiven). MatchResult c.walk_store-walked.result (λ _. Finished drawn walk first last) (LeftByRefusal drawn walk first last)) same
    (store_closed g.D.Folder name drawn (given c.geometry-geometry.result c.depth.result c.mode_of.result) c.walk_store-walked.result first
    (file_state g.D.File.File c.walk_store-walked.new.store.file) c.walk_store-walked.new.folder c.close.new.self
    (g.O.Sink.held c.walk_store-walked.new.out) (g.O.Sink.faults c.walk_store-walked.new.out) c.walk_store-walked.ensures.closed.opened
    closed faults c.close.ensures.files c.walk_store-walked.ensures.walked)

pub returns-clause-others : goal.returns-clause-others
returns-clause-others g c =
    let name = c.args.names.now.store.now in
    let mid = g.D.Folder.asked c.walk_store-walked.new.folder in
    let closed = subst (λ f. g.D.Folder.asked c.close.new.self ≡ option_map (with_places (g.D.File.File.name f)
    (g.D.File.File.asked f)) mid) c.into_file.ensures c.close.ensures.asked in
    others_chain name (g.D.Folder.asked c.args.folder.now) mid (g.D.Folder.asked c.close.new.self) c.walk_store-walked.ensures.closed.others
    (others_closed name 1 (file_state g.D.File.File c.walk_store-walked.new.store.file ∷ []) mid (g.D.Folder.asked c.close.new.self)
    c.walk_store-walked.ensures.closed.opened closed)

pub returns-clause-few : goal.returns-clause-few
returns-clause-few g c = λ low.
    let count : c.pinned_count.result ≡ pinned_of c.args.store.shape c.args.settings.now.pinned =
    c.pinned_count.ensures.count ∙ ap (λ (s : Shape). pinned_of s c.args.settings.now.pinned) c.geometry-geometry.ensures.shape in
    c.walk_store-walked.ensures.few (subst (λ n. c.args.settings.now.frames < n) (sym count) low)
    ∙ ap (λ (n : ℕ). Err (TooFewFrames c.args.settings.now.frames n)) count

pub returns-clause-faults : goal.returns-clause-faults
returns-clause-faults g c = omega (arith, c.walk_store-walked.ensures.closed.faults, c.close.ensures.kept)

pub returns-clause-out_faults : goal.returns-clause-out_faults
returns-clause-out_faults g c = c.walk_store-walked.ensures.closed.out_faults

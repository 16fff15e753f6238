-- What the journal of a walk replays to.
use Rattle.std.proofs.Common.{◌≡◌, ℕ, zero, suc, ◌+◌, ◌-◌, ◌<◌, ◌≤◌, ◌==◌, ◌⊎◌, inl, inr, Bool, true, false, List, [], ◌∷◌, ◌++◌, length, Option, Some, None, refl, sym, ap, ◌∙◌, subst, arith}
use Rattle.std.specs.Prelude.{slice_get, if◌then◌else◌, IfSome, option_map}
use Rattle.std.proofs.lemmas.List.FromFn.{map-range_with_len_more}
use Rattle.std.specs.Str.{bytes_eq}
use Rattle.std.proofs.lemmas.Slice.Eq.{bytes_eq-Decides}
use mathlib.Core.Path.{fun_ext}
use Rattle.vt_machine.specs.Files.{Files, with_bytes}
use Rattle.vt_replay.specs.Picture.{picture_bytes}
use Rattle.vt_machine.specs.Shape.{Shape}
use Rattle.vt_machine.specs.Pages.{levels_of, pages_below, pages_of, index_at, root_of, pinned_of, IsWithinLimits}
use Rattle.vt_machine.proofs.Counts.{pages_below_le}
use Rattle.vt_replay.specs.Names.{picture_name}
use Rattle.vt_machine.specs.Format.{stored}
use Rattle.vt_replay.specs.Expectations.{ExpectedFile, with_files}
use Rattle.vt_replay.specs.Pictures.{expected_picture, expected_pictures}
use Rattle.vt_machine.specs.JournalTypes.changes.Change.{Change}
use Rattle.vt_machine.specs.JournalTypes.changes.RowLine.{RowLine}
use Rattle.vt_machine.specs.Changes.{Table}
use Rattle.vt_replay.specs.JournalFlaws.{IsLawfulJournal}
use Rattle.vt_machine.specs.JournalText.{Pass, Content, content_changes, journal_text}
use Rattle.vt_machine.proofs.Contents.{content_unique}
use Rattle.vt_machine.specs.Replays.{IsReplayOf}
use Rattle.vt_machine.specs.Scenes.{Scene}
use Rattle.vt_walk.specs.DrawnBy.{PictureDrawn}
use Rattle.vt_walk.specs.Fits.{WalkSetup}
use Rattle.vt_walk.specs.Folders.{with_pictures, with_walk, IsApart}
use Rattle.vt_walk.specs.Runs.{WalkPass, IsWalkSetup, IsWalkRun, IsWhole, IsPictureAfter, journal_after, content_pass, content_passes, run_content, run_text}
use Rattle.vt_walk.specs.Shown.{last_rows, IsRunPicture}
use Rattle.vt_walk.specs.Standing.{HasReached, Stands, Finished}
use Rattle.vt_walk.specs.States.{WalkState}
use Rattle.vt_machine.specs.Drawings.{Drawing}
use Rattle.vt_walk.specs.WalkDecisionsTypes.mode.Mode.{Mode}
use Rattle.vt_walk.specs.WalkDecisionsTypes.settings.Settings.{Settings}
use Rattle.vt_walk.specs.Walks.{WalkGiven, WalkNames, AreSettings, walk_setup}
use Rattle.vt_walk.proofs.Agreeing.{root_last}
use Rattle.vt_walk.proofs.Apart.{other_name}
use Rattle.vt_walk.specs.Written.{IsWritten, AreWritten}
use Rattle.vt_walk.proofs.Showing.{rows_after}
use Rattle.vt_walk.proofs.RunContents.{spelled_changes, run_is_lawful}
use Rattle.vt_replay.specs.Outcomes.{IsReplayable}
use Rattle.vt_replay.specs.Trying.{Under}
use Rattle.vt_replay.specs.Replayed.{replayed_rows, lines_after, last_lines, pictures_after, pictures_of, replay_file, expected_replay}
use Rattle.vt_walk_laws.specs.Walked.{IsOfStore, named_pictures}
use Rattle.vt_replay.proofs.Rows.{replay_is_one}

-- a pass more

lines_more : (lines : List RowLine) (passes : List Pass) (p : Pass) (picture : ℕ)
    → lines_after lines (passes ++ p ∷ []) picture ≡ (if p.picture == picture then p.rows else lines_after lines passes picture)
lines_more lines [] p picture = refl
lines_more lines (q ∷ passes) p picture = lines_more (if q.picture == picture then q.rows else lines) passes p picture

count_more : (count : ℕ) (passes : List Pass) (p : Pass) → pictures_after count (passes ++ p ∷ []) ≡ p.picture + 1
count_more count [] p = refl
count_more count (q ∷ passes) p = count_more (q.picture + 1) passes p

-- the rows of the last pass of a picture, in the run and in its journal
pub last_content : (w : WalkSetup) (run : List WalkPass) (picture : ℕ) → last_lines (content_passes w run) picture ≡ last_rows run picture
last_content w [] picture = refl
last_content w (p ∷ run) picture =
    lines_more [] (content_passes w run) (content_pass w run p) picture
    ∙ ap (λ (rows : List RowLine). if p.picture == picture then p.rows else rows) (last_content w run picture)

pub count_content : (w : WalkSetup) (p : WalkPass) (run : List WalkPass) → pictures_of (content_passes w (p ∷ run)) ≡ p.picture + 1
count_content w p run = count_more 0 (content_passes w run) (content_pass w run p)

pub count_whole : (w : WalkSetup) (run : List WalkPass) → IsWhole w run → pictures_of (content_passes w run) ≡ w.pictures
count_whole w [] whole = sym whole
count_whole w (p ∷ run) whole = count_content w p run ∙ whole.2

-- a journal tells of each picture before the one that its run has reached
reached_content : (w : WalkSetup) (run : List WalkPass) (picture : ℕ) → HasReached w run picture → picture ≤ pictures_of (content_passes w run)
reached_content w [] picture reached = omega (arith, reached)
reached_content w (p ∷ run) picture reached = let count = count_content w p run in elim reached [
  | inl same ↦ omega (arith, same, count)
  | inr next ↦ omega (arith, next.1, count)
]

-- the last pass of a picture to which a run has come has a row for each row of the picture
rows_full : (w : WalkSetup) (run : List WalkPass) (picture : ℕ) → IsWalkRun w run → picture < pictures_of (content_passes w run)
    → length (last_rows run picture) ≡ w.height
rows_full w [] picture run low = absurd (omega (arith, low))
rows_full w (p ∷ []) picture run low = pick (p.picture == picture) refl where
  pick : (b : Bool) → (p.picture == picture) ≡ b → length (last_rows (p ∷ []) picture) ≡ w.height
  pick true same = ap length (rows_after true p [] picture same) ∙ run.1.in_order.of_picture.count
  pick false other =
      let count = count_content w p [] in
      let first = run.1.step in
      let same : p.picture ≡ picture = omega (arith, low, count, first) in
      absurd (grind (arith, same, other))
rows_full w (p ∷ q ∷ passes) picture run low = pick (p.picture == picture) refl (turned run.1.step.1) (rows_full w (q ∷ passes) picture run.0) where
  count : pictures_of (content_passes w (p ∷ q ∷ passes)) ≡ p.picture + 1
  count = count_content w p (q ∷ passes)

  before : pictures_of (content_passes w (q ∷ passes)) ≡ q.picture + 1
  before = count_content w q passes

  turned : {F : Type 0} → IsPictureAfter F q.picture p.picture → p.picture ≤ q.picture + 1
  turned (inl next) = omega (arith, next.1)
  turned (inr same) = omega (arith, same.1)

  pick : (b : Bool) → (p.picture == picture) ≡ b → p.picture ≤ q.picture + 1
      → (picture < pictures_of (content_passes w (q ∷ passes)) → length (last_rows (q ∷ passes) picture) ≡ w.height)
      → length (last_rows (p ∷ q ∷ passes) picture) ≡ w.height
  pick true same most earlier = ap length (rows_after true p (q ∷ passes) picture same) ∙ run.1.in_order.of_picture.count
  pick false other most earlier =
      let apart : p.picture ≡ picture → ⊥ = λ same. grind (arith, same, other) in
      ap length (rows_after false p (q ∷ passes) picture other) ∙ earlier (grind (arith, low, count, before, most, apart))

-- what was written of a picture is the file of the replay of the run's journal
pub written_again : (under : Under) (drawn : PictureDrawn) (g : WalkGiven) (b : List ℕ) (run : List WalkPass) (picture : ℕ) (bytes : List ℕ)
    → IsOfStore under g b → IsWalkRun g.setup run → picture < pictures_of (content_passes g.setup run) → IsWritten drawn g run picture bytes
    → bytes ≡ replay_file under (stored b) g.scene (content_changes g.scene.shape (run_content g.setup run)) (content_passes g.setup run) picture
unfolding replay_file
written_again under drawn g b run picture bytes store is_run low written =
    let width = g.scene.path.width in
    let height = g.scene.path.height in
    let rows = last_rows run picture in
    let shown : IsRunPicture g.setup run g.scene.depth width (g.draws.shows g.scene b) picture written.samples =
    subst (λ (o : Option (List ℕ)). IfSome o (λ bs. IsRunPicture g.setup run g.scene.depth width (g.draws.shows g.scene bs) picture written.samples)) store.known
    written.replay in
    let of_store : IsRunPicture g.setup run g.scene.depth width (under (stored b) g.scene) picture written.samples =
    subst (λ (pixel : Table → ℕ → ℕ → ℕ → List ℕ). IsRunPicture g.setup run g.scene.depth width pixel picture written.samples) store.shows shown in
    let replayed : IsReplayOf g.scene.depth width height (λ m x y. under (stored b) g.scene m picture x y)
    (journal_after g.setup run) rows written.samples =
    subst (λ (n : ℕ). IsReplayOf g.scene.depth width n (λ m x y. under (stored b) g.scene m picture x y) (journal_after g.setup run) rows written.samples)
    store.height of_store in
    let one = replay_is_one under (stored b) g.scene (journal_after g.setup run) rows picture written.samples
    (rows_full g.setup run picture is_run low ∙ store.height) replayed in
    let changes : journal_after g.setup run ≡ content_changes g.scene.shape (run_content g.setup run) =
    sym (spelled_changes g.setup run) ∙ ap (λ (s : Shape). content_changes s (run_content g.setup run)) store.shape in
    written.encoded ∙ ap (λ (samples : List ℕ). picture_bytes g.scene.depth width height samples)
    (one ∙ ap (λ (cs : List Change). replayed_rows under (stored b) g.scene cs rows picture height) changes
    ∙ ap (λ (ls : List RowLine). replayed_rows under (stored b) g.scene (content_changes g.scene.shape (run_content g.setup run)) ls picture height)
    (sym (last_content g.setup run picture)))

-- the pictures that were written, by their numbers
named_again : (under : Under) (drawn : PictureDrawn) (g : WalkGiven) (b prefix : List ℕ) (run : List WalkPass) (pictures : List (List ℕ))
    → IsOfStore under g b → IsWalkRun g.setup run → length pictures ≤ pictures_of (content_passes g.setup run) → AreWritten drawn g run pictures
    → expected_pictures prefix (replay_file under (stored b) g.scene (content_changes g.scene.shape (run_content g.setup run)) (content_passes g.setup run)) (length pictures)
    ≡ named_pictures prefix pictures
named_again under drawn g b prefix run [] store is_run most written = refl
named_again under drawn g b prefix run (bytes ∷ pictures) store is_run most written =
    let file : ℕ → List ℕ = replay_file under (stored b) g.scene (content_changes g.scene.shape (run_content g.setup run)) (content_passes g.setup run) in
    let more : length (bytes ∷ pictures) ≡ length pictures + 1 = omega arith in
    ap (expected_pictures prefix file) more
    ∙ map-range_with_len_more (expected_picture prefix file) 0 (length pictures) (length pictures) (omega arith)
    ∙ ap (λ (fs : List ExpectedFile). fs ++ expected_picture prefix file (length pictures) ∷ [])
    (named_again under drawn g b prefix run pictures store is_run (omega (arith, most)) written.0)
    ∙ ap (λ (bs : List ℕ). named_pictures prefix pictures ++ expected_picture prefix (λ _. bs) (length pictures) ∷ [])
    (sym (written_again under drawn g b run (length pictures) bytes store is_run (omega (arith, most)) written.1))

-- the files of the replay of a whole run are its pictures
expected_again : (under : Under) (drawn : PictureDrawn) (g : WalkGiven) (b prefix : List ℕ) (run : List WalkPass) (pictures : List (List ℕ))
    → IsOfStore under g b → IsWalkRun g.setup run → IsWhole g.setup run → length pictures ≡ g.setup.pictures → AreWritten drawn g run pictures
    → expected_replay under g.scene.shape g.scene.depth b g.scene.path prefix (run_content g.setup run) ≡ named_pictures prefix pictures
expected_again under drawn g b prefix run pictures store is_run whole all written =
    let count : pictures_of (content_passes g.setup run) ≡ length pictures = count_whole g.setup run whole ∙ sym all in
    ap (expected_pictures prefix (replay_file under (stored b) g.scene (content_changes g.scene.shape (run_content g.setup run)) (content_passes g.setup run))) count
    ∙ named_again under drawn g b prefix run pictures store is_run (omega (arith, count)) written

run_lawful : (under : Under) (g : WalkGiven) (b : List ℕ) (run : List WalkPass) → IsOfStore under g b → IsWalkSetup g.setup → IsWalkRun g.setup run
    → IsLawfulJournal g.scene.shape g.scene.path.height (run_content g.setup run)
run_lawful under g b run store h is_run =
    subst (λ (n : ℕ). IsLawfulJournal g.scene.shape n (run_content g.setup run)) store.height
    (subst (λ (s : Shape). IsLawfulJournal s g.setup.height (run_content g.setup run)) store.shape (run_is_lawful g.setup run h is_run))

run_spelled : (under : Under) (g : WalkGiven) (b : List ℕ) (run : List WalkPass) → IsOfStore under g b → run_text g.setup run ≡ journal_text g.scene.shape (run_content g.setup run)
run_spelled under g b run store = ap (λ (s : Shape). journal_text s (run_content g.setup run)) store.shape

-- a content that is read from the journal's text of a run is what the run told
content_is : (under : Under) (g : WalkGiven) (b : List ℕ) (run : List WalkPass) (content : Content) → IsOfStore under g b → IsWalkSetup g.setup → IsWalkRun g.setup run
    → IsReplayable g.scene.shape g.scene.path (run_text g.setup run) content → run_content g.setup run ≡ content
content_is under g b run content store h is_run read =
    let tile : 1 ≤ g.scene.shape.tile = subst (λ (s : Shape). 1 ≤ s.tile) store.shape (omega (arith, h.limits.least_tile)) in
    content_unique g.scene.shape g.scene.path.height (run_content g.setup run) content tile (run_lawful under g b run store h is_run) read.lawful
    (sym (run_spelled under g b run store) ∙ read.spelled)

-- the last element of a list, or one before it
one_of : {X : Type 0} (xs : List X) (x y : X) (i : ℕ) → slice_get (xs ++ x ∷ []) i ≡ Some y → (slice_get xs i ≡ Some y) ⊎ (x ≡ y)
one_of [] x y zero is = inr cc
one_of [] x y (suc i) is = cc
one_of (z ∷ xs) x y zero is = inl is
one_of (z ∷ xs) x y (suc i) is = one_of xs x y i is

content_inside : (w : WalkSetup) (run : List WalkPass) → IsWalkRun w run → (i : ℕ) (pass : Pass) → slice_get (content_passes w run) i ≡ Some pass
    → pass.picture < w.pictures
content_inside w [] is_run i pass is = cc
content_inside w (p ∷ run) is_run i pass is = elim (one_of (content_passes w run) (content_pass w run p) pass i is) [
  | inl before ↦ content_inside w run is_run.0 i pass before
  | inr last ↦ subst (λ (q : Pass). q.picture < w.pictures) last is_run.1.of_path
]

-- a replay of the journal's text of a run is not refused
pub run_replayable : (under : Under) (g : WalkGiven) (b : List ℕ) (run : List WalkPass) → IsOfStore under g b → IsWalkSetup g.setup → IsWalkRun g.setup run
    → IsReplayable g.scene.shape g.scene.path (run_text g.setup run) (run_content g.setup run)
run_replayable under g b run store h is_run = record {
  lawful = run_lawful under g b run store h is_run;
  spelled = run_spelled under g b run store;
  in_path = λ i pass is. subst (λ (n : ℕ). pass.picture < n) store.pictures (content_inside g.setup run is_run i pass is);
}

pub count_read : (under : Under) (g : WalkGiven) (b : List ℕ) (run : List WalkPass) (content : Content) → IsOfStore under g b → IsWalkSetup g.setup → IsWalkRun g.setup run
    → IsWhole g.setup run
    → IsReplayable g.scene.shape g.scene.path (run_text g.setup run) content → pictures_of content.passes ≡ g.setup.pictures
count_read under g b run content store h is_run whole read =
    subst (λ (c : Content). pictures_of c.passes ≡ g.setup.pictures) (content_is under g b run content store h is_run read) (count_whole g.setup run whole)

pub expected_read : (under : Under) (drawn : PictureDrawn) (g : WalkGiven) (b prefix : List ℕ) (run : List WalkPass) (pictures : List (List ℕ))
    (content : Content)
    → IsOfStore under g b → IsWalkSetup g.setup → IsWalkRun g.setup run → IsWhole g.setup run → length pictures ≡ g.setup.pictures → AreWritten drawn g run pictures
    → IsReplayable g.scene.shape g.scene.path (run_text g.setup run) content
    → expected_replay under g.scene.shape g.scene.depth b g.scene.path prefix content ≡ named_pictures prefix pictures
expected_read under drawn g b prefix run pictures content store h is_run whole all written read =
    subst (λ (c : Content). expected_replay under g.scene.shape g.scene.depth b g.scene.path prefix c ≡ named_pictures prefix pictures)
    (content_is under g b run content store h is_run read) (expected_again under drawn g b prefix run pictures store is_run whole all written)

file_last : (files : List ExpectedFile) (file : ExpectedFile) (before : Files)
    → with_files (files ++ file ∷ []) before ≡ with_bytes file.name file.bytes (with_files files before)
file_last [] file before = refl
file_last (f ∷ files) file before = file_last files file (with_bytes f.name f.bytes before)

-- a folder with the pictures as files
pub named_stand : (prefix : List ℕ) (pictures : List (List ℕ)) (before : Files)
    → with_files (named_pictures prefix pictures) before ≡ with_pictures prefix pictures before
named_stand prefix [] before = refl
named_stand prefix (bytes ∷ pictures) before =
    file_last (named_pictures prefix pictures) (record { name = picture_name prefix (length pictures); bytes = bytes }) before
    ∙ ap (with_bytes (picture_name prefix (length pictures)) bytes) (named_stand prefix pictures before)

-- a name is that of one of the pictures, and holds the same whatever it held before; or it holds what it held
held_after : (prefix : List ℕ) (pictures : List (List ℕ)) (q : List ℕ)
    → ((k : ℕ) × (q ≡ picture_name prefix k) × ((held : Option (List ℕ)) × ((before : Files) → with_pictures prefix pictures before q ≡ held)))
    ⊎ ((before : Files) → with_pictures prefix pictures before q ≡ before q)
held_after prefix [] q = inr (λ before. refl)
held_after prefix (bytes ∷ pictures) q = pick (bytes_eq q name) refl (held_after prefix pictures q) where
  name : List ℕ
  name = picture_name prefix (length pictures)

  written : (b : Bool) → bytes_eq q name ≡ b → (before : Files)
      → with_pictures prefix (bytes ∷ pictures) before q ≡ (if b then Some bytes else with_pictures prefix pictures before q)
  written b is before = ap (λ (t : Bool). if t then Some bytes else with_pictures prefix pictures before q) is

  pick : (b : Bool) → bytes_eq q name ≡ b
      → ((k : ℕ) × (q ≡ picture_name prefix k) × ((held : Option (List ℕ)) × ((before : Files) → with_pictures prefix pictures before q ≡ held)))
      ⊎ ((before : Files) → with_pictures prefix pictures before q ≡ before q)
      → ((k : ℕ) × (q ≡ picture_name prefix k) × ((held : Option (List ℕ)) × ((before : Files) → with_pictures prefix (bytes ∷ pictures) before q ≡ held)))
      ⊎ ((before : Files) → with_pictures prefix (bytes ∷ pictures) before q ≡ before q)
  pick true is earlier = inl (length pictures, (bytes_eq-Decides q name).0 is, (Some bytes, λ before. written true is before))
  pick false is (inl h) = inl (h.0, h.1, (h.2.0, λ before. written false is before ∙ h.2.1 before))
  pick false is (inr h) = inr (λ before. written false is before ∙ h before)

-- the pictures of a walk, written once more
stand_again : (names : WalkNames) (text : List ℕ) (pictures : List (List ℕ)) (before : Files) → IsApart names
    → with_pictures names.prefix pictures (with_walk names text pictures before) ≡ with_walk names text pictures before
stand_again names text pictures before apart = fun_ext (λ q. pick q (held_after names.prefix pictures q)) where
  walked : Files
  walked = with_walk names text pictures before

  other : (q : List ℕ) (k : ℕ) → q ≡ picture_name names.prefix k → (b : Bool) → bytes_eq q names.journal ≡ b → bytes_eq q names.journal ≡ false
  other q k is true same = absurd (other_name names k apart (sym ((bytes_eq-Decides q names.journal).0 same) ∙ is))
  other q k is false same = same

  pick : (q : List ℕ)
      → ((k : ℕ) × (q ≡ picture_name names.prefix k) × ((held : Option (List ℕ)) × ((files : Files) → with_pictures names.prefix pictures files q ≡ held)))
      ⊎ ((files : Files) → with_pictures names.prefix pictures files q ≡ files q)
      → with_pictures names.prefix pictures walked q ≡ walked q
  pick q (inl h) =
      h.2.1 walked ∙ sym (h.2.1 before)
      ∙ sym (ap (λ (b : Bool). if b then Some text else with_pictures names.prefix pictures before q) (other q h.0 h.1 (bytes_eq q names.journal) refl))
  pick q (inr h) = h walked

known_again : (names : WalkNames) (text : List ℕ) (pictures : List (List ℕ)) (expected : List ExpectedFile) (first last : Option Files) → IsApart names
    → expected ≡ named_pictures names.prefix pictures → last ≡ option_map (with_walk names text pictures) first → option_map (with_files expected) last ≡ last
known_again names text pictures expected None last apart is left = rw left refl
known_again names text pictures expected (Some files) last apart is left =
    ap (λ (o : Option Files). option_map (with_files expected) o) left
    ∙ ap (λ (fs : List ExpectedFile). Some (with_files fs (with_walk names text pictures files))) is
    ∙ ap Some (named_stand names.prefix pictures (with_walk names text pictures files) ∙ stand_again names text pictures files apart)
    ∙ sym left

-- a replay in the folder of a finished walk leaves what it holds
pub left_again : (under : Under) (drawn : PictureDrawn) (g : WalkGiven) (b : List ℕ) (first last : WalkState) (content : Content)
    → IsOfStore under g b → IsWalkSetup g.setup → (walk : Finished drawn g first last) → IsReplayable g.scene.shape g.scene.path (run_text g.setup walk.run) content
    → IsApart g.names → option_map (with_files (expected_replay under g.scene.shape g.scene.depth b g.scene.path g.names.prefix content)) last.files ≡ last.files
left_again under drawn g b first last content store h walk read apart =
    known_again g.names (run_text g.setup walk.run) walk.pictures (expected_replay under g.scene.shape g.scene.depth b g.scene.path g.names.prefix content)
    first.files last.files apart
    (expected_read under drawn g b g.names.prefix walk.run walk.pictures content store h walk.is_run walk.whole walk.all walk.written read) (walk.files apart)

-- the pictures of a run's beginning are those of the replay of its journal
pub standing_again : (under : Under) (drawn : PictureDrawn) (g : WalkGiven) (b prefix : List ℕ) (run : List WalkPass) (pictures : List (List ℕ))
    (first now : WalkState)
    → IsOfStore under g b → Stands drawn g run pictures first now
    → expected_pictures prefix (replay_file under (stored b) g.scene (content_changes g.scene.shape (run_content g.setup run)) (content_passes g.setup run)) (length pictures)
    ≡ named_pictures prefix pictures
standing_again under drawn g b prefix run pictures first now store stands =
    named_again under drawn g b prefix run pictures store stands.is_run (reached_content g.setup run (length pictures) stands.reached) stands.written

-- some page is pinned where some level is
some_pinned : (s : Shape) (n : ℕ) → IsWithinLimits s → 1 ≤ n → 1 ≤ pinned_of s n
unfolding pinned_of root_of index_at
some_pinned s n limits some =
    let few = pages_below_le s (levels_of s - n) (levels_of s - 1) (omega (arith, some)) in
    let last : pages_below s (levels_of s - 1) + 1 ≡ pages_of s = omega (arith, root_last s limits) in
    omega (arith, few, last)

most_pinned : (s : Shape) (n : ℕ) → pinned_of s n ≤ pages_of s
unfolding pinned_of
most_pinned s n = omega arith

-- the numbers of a walk are within their limits, where the scene and the settings are, and there are frames for the pinned pages
pub settings_fit : (draws : Drawing) (scene : Scene) (settings : Settings) (mode : Mode)
    → IsWithinLimits scene.shape → AreSettings scene.shape settings → pinned_of scene.shape settings.pinned ≤ settings.frames
    → IsWalkSetup (walk_setup draws scene settings mode)
settings_fit draws scene settings mode limits are enough = record {
  limits = limits;
  most_frames = are.frames.few;
  some_pinned = some_pinned scene.shape settings.pinned limits are.some_level;
  enough_frames = enough;
  enough_pages = most_pinned scene.shape settings.pinned;
  few_samplers = are.crew.few_samplers;
  some_entry = are.crew.some_entry;
}

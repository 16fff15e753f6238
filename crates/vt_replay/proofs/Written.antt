-- What is written of a journal's pictures, from what was written of each.
use Rattle.std.proofs.Common.{◌≡◌, ◌≢◌, ◌⊎◌, ℕ, zero, suc, ◌+◌, ◌-◌, ◌<◌, ◌≤◌, ◌==◌, inl, inr, Bool, true, false, T, eqb→eq, List, [], ◌∷◌, length, Option, Some, None, Ok, Err, refl, sym, ap, ◌∙◌, subst, arith}
use Rattle.std.specs.Prelude.{slice_get, if◌then◌else◌, MatchOption, Result}
use Rattle.std.proofs.lemmas.Option.{slice_get_within, slice_get-get_or}
use Rattle.vt_outside.specs.Files.{Files}
use Rattle.vt_outside.specs.declared.answers.OutsideError.{OutsideError}
use Rattle.vt_outside.specs.declared.answers.OutsideError.TheVariants.{NoMemory}
use Rattle.vt_definitions.specs.Texels.{Source}
use Rattle.vt_ppm.specs.Picture.{picture_bytes}
use Rattle.vt_journal.specs.declared.changes.Change.{Change}
use Rattle.vt_journal.specs.declared.changes.RowLine.{RowLine}
use Rattle.vt_journal.specs.JournalText.{Pass}
use Rattle.vt_outside.specs.Effects.{FolderState, FolderEffect}
use Rattle.vt_outside.specs.Expectations.{ExpectedFile, IsPart, AsksNone, Writes}
use Rattle.vt_replay_rows.specs.Pictures.{expected_picture, expected_pictures}
use Rattle.vt_outside.proofs.Writing.{part_none}
use Rattle.vt_replay_rows.proofs.WrittenPictures.{HasPictures, more_pictures, stopped_pictures}
use Rattle.vt_pages.specs.Shape.{Shape}
use Rattle.vt_camera.specs.Paths.{PathView}
use Rattle.vt_replay_rows.specs.Scenes.{Scene, scene_of}
use Rattle.vt_replay.specs.Playing.{HasWritten, AreRowsWithin, ArePlayed}
use Rattle.vt_replay_rows.specs.Trying.{Under}
use Rattle.vt_replay.specs.Replayed.{replayed_rows, lines_after, last_lines, pictures_after, pictures_of, replay_file}

pub has_written : {T : Type 0} (expected : List ExpectedFile) (p : FolderEffect) (r : Result T OutsideError) → Writes expected p r → HasWritten expected p.before.files p.after.files r
has_written expected p (Ok x) h = h.1
has_written expected p (Err e) h = h.1

-- a picture of samples that are known was written
pub samples_written : (prefix : List ℕ) (d width height number : ℕ) (given : List ℕ) (shown : ℕ → List ℕ) (p : FolderEffect) (r : Result (Unit {0}) OutsideError)
    → given ≡ shown number → Writes (expected_picture prefix (λ _. picture_bytes d width height given) number ∷ []) p r
    → HasWritten (expected_picture prefix (λ picture. picture_bytes d width height (shown picture)) number ∷ []) p.before.files p.after.files r
samples_written prefix d width height number given shown p r same h =
    subst (λ (samples : List ℕ). HasWritten (expected_picture prefix (λ _. picture_bytes d width height samples) number ∷ []) p.before.files p.after.files r) same
    (has_written (expected_picture prefix (λ _. picture_bytes d width height given) number ∷ []) p r h)

pub nothing_written : (expected : List ExpectedFile) (known : Option Files) (e : OutsideError) → HasWritten {T = Unit {0}} expected known known (Err e)
nothing_written expected known e = part_none expected known known refl

-- rows of passes among which the picture is not
lines_stay : (lines : List RowLine) (ps : List Pass) (picture : ℕ) → ((i : ℕ) (q : Pass) → slice_get ps i ≡ Some q → q.picture ≢ picture)
    → lines_after lines ps picture ≡ lines
lines_stay lines [] picture none = refl
lines_stay lines (q ∷ ps) picture none =
    ap (λ (ls : List RowLine). lines_after ls ps picture) (other (q.picture == picture) refl)
    ∙ lines_stay lines ps picture (λ i p is. none (suc i) p is)
  where
    other : (b : Bool) → (q.picture == picture) ≡ b → (if q.picture == picture then q.rows else lines) ≡ lines
    other true same = absurd (none 0 q refl (eqb→eq q.picture picture (subst T (sym same) tt)))
    other false is = ap (λ (b : Bool). if b then q.rows else lines) is

lines_at : (lines : List RowLine) (ps : List Pass) (i : ℕ) (p : Pass) → slice_get ps i ≡ Some p
    → ((j : ℕ) (q : Pass) → i < j → slice_get ps j ≡ Some q → q.picture ≢ p.picture) → lines_after lines ps p.picture ≡ p.rows
lines_at lines [] i p is later = cc
lines_at lines (q ∷ ps) zero p is later =
    let same : q ≡ p = cc in
    ap (λ (ls : List RowLine). lines_after ls ps p.picture) (own (q.picture == p.picture) refl same)
    ∙ lines_stay p.rows ps p.picture (λ j r at. later (suc j) r (omega arith) at)
  where
    own : (b : Bool) → (q.picture == p.picture) ≡ b → q ≡ p → (if q.picture == p.picture then q.rows else lines) ≡ p.rows
    own true so same = ap (λ (b : Bool). if b then q.rows else lines) so ∙ ap (λ (x : Pass). x.rows) same
    own false other same = let e : q.picture ≡ p.picture = ap (λ (x : Pass). x.picture) same in absurd (grind (arith, e, other))
lines_at lines (q ∷ ps) (suc i) p is later =
    lines_at (if q.picture == p.picture then q.rows else lines) ps i p is (λ j r low at. later (suc j) r (omega (arith, low)) at)

-- later passes have later pictures, where the next one has
later_pictures : (height pinned last : ℕ) (passes : List Pass) (i : ℕ) (p : Pass) → ArePlayed height pinned last passes → slice_get passes i ≡ Some p
    → ((q : Pass) → slice_get passes (i + 1) ≡ Some q → q.picture ≢ p.picture)
    → (n : ℕ) (q : Pass) → slice_get passes (i + 1 + n) ≡ Some q → p.picture < q.picture
later_pictures height pinned last passes i p all is next zero q at =
    let e : i + 1 + 0 ≡ i + 1 = omega arith in
    let follow : slice_get passes (i + 1) ≡ Some q = ap (slice_get passes) (sym e) ∙ at in
    elim (all.pictures i p q is follow) [
      | inl same ↦ absurd (next q follow same)
      | inr more ↦ omega (arith, more)
    ]
later_pictures height pinned last passes i p all is next (suc n) q at =
    let k = i + 1 + n in
    let e : i + 1 + suc n ≡ k + 1 = omega arith in
    let follow : slice_get passes (k + 1) ≡ Some q = ap (slice_get passes) (sym e) ∙ at in
    let within : k + 1 < length passes = slice_get_within passes (k + 1) q follow in
    let before = slice_get-get_or passes k q (omega (arith, within)) in
    let low = later_pictures height pinned last passes i p all is next n _ before in
    elim (all.pictures k _ q before follow) [
      | inl same ↦ omega (arith, low, same)
      | inr more ↦ omega (arith, low, more)
    ]

-- the file of the replay of a picture is that of its last pass
pub file_is : (under : Under) (src : Source) (scene : Scene) (changes : List Change) (height pinned last : ℕ) (passes : List Pass) (i : ℕ) (p : Pass)
    → ArePlayed height pinned last passes → slice_get passes i ≡ Some p
    → ((q : Pass) → slice_get passes (i + 1) ≡ Some q → q.picture ≢ p.picture)
    → picture_bytes scene.depth scene.path.width scene.path.height (replayed_rows under src scene changes p.rows p.picture scene.path.height)
    ≡ replay_file under src scene changes passes p.picture
unfolding replay_file
file_is under src scene changes height pinned last passes i p all is next =
    let rows : last_lines passes p.picture ≡ p.rows = lines_at [] passes i p is (λ j q low at e.
    (let n : j ≡ i + 1 + (j - (i + 1)) = omega (arith, low) in
    let more = later_pictures height pinned last passes i p all is next (j - (i + 1)) q (ap (slice_get passes) (sym n) ∙ at) in
    absurd (omega (arith, more, e)))) in
    ap (λ (ls : List RowLine). picture_bytes scene.depth scene.path.width scene.path.height
    (replayed_rows under src scene changes ls p.picture scene.path.height)) (sym rows)

-- how many pictures there are, by the last pass
count_at : (count : ℕ) (ps : List Pass) (i : ℕ) (p : Pass) → slice_get ps i ≡ Some p → slice_get ps (suc i) ≡ None → pictures_after count ps ≡ p.picture + 1
count_at count [] i p is end = cc
count_at count (q ∷ []) zero p is end = let same : q ≡ p = cc in ap (λ (x : Pass). x.picture + 1) same
count_at count (q ∷ r ∷ ps) zero p is end = cc
count_at count (q ∷ ps) (suc i) p is end = count_at (q.picture + 1) ps i p is end

pub count_is : (passes : List Pass) (i : ℕ) (p : Pass) → slice_get passes i ≡ Some p → slice_get passes (i + 1) ≡ None → pictures_of passes ≡ p.picture + 1
count_is passes i p is end = count_at 0 passes i p is (ap (slice_get passes) (let e : suc i ≡ i + 1 = omega arith in e) ∙ end)

none_left : (count : ℕ) (ps : List Pass) (i : ℕ) → slice_get ps i ≡ None → i ≡ 0 → pictures_after count ps ≡ count
none_left count [] i end first = refl
none_left count (q ∷ ps) zero end first = cc
none_left count (q ∷ ps) (suc i) end first = absurd (omega (arith, first))

-- where there is no pass there is no picture
pub no_pass_no_picture : (passes : List Pass) → slice_get passes 0 ≡ None → pictures_of passes ≡ 0
no_pass_no_picture passes end = none_left 0 passes 0 end refl

-- each picture is below the number of pictures
pub picture_counted : (count : ℕ) (ps : List Pass) (height pinned last : ℕ) → ArePlayed height pinned last ps → (i : ℕ) (p : Pass) → slice_get ps i ≡ Some p
    → (n : ℕ) → length ps ≡ i + 1 + n → p.picture < pictures_after count ps
picture_counted count ps height pinned last all i p is zero size =
    let end = past_end ps (suc i) (omega (arith, size)) in
    let e = count_at count ps i p is end in omega (arith, e)
  where
    past_end : (xs : List Pass) (k : ℕ) → length xs ≤ k → slice_get xs k ≡ None
    past_end [] k h = refl
    past_end (x ∷ xs) zero h = absurd (omega arith)
    past_end (x ∷ xs) (suc k) h = past_end xs k (omega arith)
picture_counted count ps height pinned last all i p is (suc n) size =
    let next = slice_get-get_or ps (i + 1) p (omega (arith, size)) in
    let more = picture_counted count ps height pinned last all (i + 1) _ next n (omega (arith, size)) in
    elim (all.pictures i p _ is next) [
      | inl same ↦ omega (arith, more, same)
      | inr later ↦ omega (arith, more, later)
    ]

-- one more picture was written
pub one_more : (prefix : List ℕ) (file shown : ℕ → List ℕ) (count : ℕ) (before mid after : FolderState) → shown count ≡ file count
    → HasPictures prefix file count before mid → AsksNone (record { before = mid; after = after })
    → HasWritten {T = Unit {0}} (expected_picture prefix shown count ∷ []) mid.files after.files (Ok tt) → HasPictures prefix file (count + 1) before after
one_more prefix file shown count before mid after same h asks more =
    more_pictures prefix file count before mid after h (
      asks,
      subst (λ (bytes : List ℕ). HasWritten {T = Unit {0}} (expected_picture prefix (λ _. bytes) count ∷ []) mid.files after.files (Ok tt)) same more,
    )

-- the next picture was not written whole
pub one_stopped : (prefix : List ℕ) (file shown : ℕ → List ℕ) (count all : ℕ) (before mid after : FolderState) (error : OutsideError)
    → count < all → shown count ≡ file count
    → HasPictures prefix file count before mid → AsksNone (record { before = mid; after = after })
    → HasWritten {T = Unit {0}} (expected_picture prefix shown count ∷ []) mid.files after.files (Err error)
    → IsPart (expected_pictures prefix file all) before.files after.files
one_stopped prefix file shown count all before mid after error low same h asks part =
    (stopped_pictures prefix file count all before mid after NoMemory low h (
      asks,
      subst (λ (bytes : List ℕ). IsPart (expected_picture prefix (λ _. bytes) count ∷ []) mid.files after.files) same part,
      tt,
    )).1

-- which picture comes next, by the pass at a place
abbrev pub HasTurn : List Pass → ℕ → ℕ → ℕ → Type 0
HasTurn passes i done version = MatchOption (slice_get passes i) (done ≡ pictures_of passes) (λ p. (done ≡ p.picture) × (version ≤ p.start))

pub turn_first : (height pinned last version : ℕ) (passes : List Pass) → ArePlayed height pinned last passes → version ≡ 0 → HasTurn passes 0 0 version
turn_first height pinned last version passes all none = pick (slice_get passes 0) refl
  where
    pick : (o : Option Pass) → slice_get passes 0 ≡ o → MatchOption o (0 ≡ pictures_of passes) (λ p. (0 ≡ p.picture) × (version ≤ p.start))
    pick None e = sym (no_pass_no_picture passes e)
    pick (Some p) e = (sym (all.first p e), omega (arith, none))

pub turn_at : (passes : List Pass) (i done version : ℕ) (p : Pass) → HasTurn passes i done version → slice_get passes i ≡ Some p
    → (done ≡ p.picture) × (version ≤ p.start)
turn_at passes i done version p turn is =
    subst (λ (o : Option Pass). MatchOption o (done ≡ pictures_of passes) (λ (q : Pass). (done ≡ q.picture) × (version ≤ q.start))) is turn

-- a pass that is not the last of its picture
pub turn_same : (height pinned last : ℕ) (passes : List Pass) (i done version : ℕ) (p : Pass) → ArePlayed height pinned last passes
    → slice_get passes i ≡ Some p
    → HasTurn passes i done version → ((q : Pass) × (slice_get passes (i + 1) ≡ Some q) × (q.picture ≡ p.picture)) → HasTurn passes (i + 1) done version
turn_same height pinned last passes i done version p all is turn next =
    let now = turn_at passes i done version p turn is in
    let order = (all.rise i p next.0 is next.1).ordered in
    let low = now.1 in
    subst (λ (o : Option Pass). MatchOption o (done ≡ pictures_of passes) (λ (q : Pass). (done ≡ q.picture) × (version ≤ q.start))) (sym next.1)
    (now.0 ∙ sym next.2, omega (arith, order, low))

-- and one that is
pub turn_next : (height pinned last : ℕ) (passes : List Pass) (i done version : ℕ) (p : Pass) → ArePlayed height pinned last passes
    → slice_get passes i ≡ Some p
    → done ≡ p.picture → ((q : Pass) → slice_get passes (i + 1) ≡ Some q → q.picture ≢ p.picture)
    → ((q : Pass) → slice_get passes (i + 1) ≡ Some q → version ≡ q.start) → HasTurn passes (i + 1) (done + 1) version
turn_next height pinned last passes i done version p all is now next at = pick (slice_get passes (i + 1)) refl
  where
    other : (q : Pass) → slice_get passes (i + 1) ≡ Some q → ((q.picture ≡ p.picture) ⊎ (q.picture ≡ p.picture + 1)) → done + 1 ≡ q.picture
    other q e (inl same) = absurd (next q e same)
    other q e (inr more) = omega (arith, now, more)

    pick : (o : Option Pass) → slice_get passes (i + 1) ≡ o → MatchOption o (done + 1 ≡ pictures_of passes) (λ (q : Pass).
        (done + 1 ≡ q.picture) × (version ≤ q.start))
    pick None e = let count = count_is passes i p is e in omega (arith, count, now)
    pick (Some q) e = (other q e (all.pictures i p q is e), (let start = at q e in omega (arith, start)))

-- the rows of a pass are within the versions up to its last
pub rows_within : (height pinned last : ℕ) (passes : List Pass) (i version : ℕ) (p : Pass) → ArePlayed height pinned last passes → slice_get passes i ≡ Some p
    → ((q : Pass) → slice_get passes (i + 1) ≡ Some q → version ≡ q.start) → (slice_get passes (i + 1) ≡ None → version ≡ last)
    → AreRowsWithin height p.start version p.rows × (version ≤ last)
rows_within height pinned last passes i version p all is at end = pick (slice_get passes (i + 1)) refl
  where
    pick : (o : Option Pass) → slice_get passes (i + 1) ≡ o → AreRowsWithin height p.start version p.rows × (version ≤ last)
    pick None e = (subst (λ (v : ℕ). AreRowsWithin height p.start v p.rows) (sym (end e)) (all.rows i p is), (let same = end e in omega (arith, same)))
    pick (Some q) e = (
      subst (λ (v : ℕ). AreRowsWithin height p.start v p.rows) (sym (at q e)) (all.rise i p q is e),
      (let same = at q e in let most = (all.rows (i + 1) q e).ordered in omega (arith, same, most)),
    )

-- the file of a pass that was drawn under equal names
pub shown_is : (under : Under) (src : Source) (s t : Shape) (d e : ℕ) (path : PathView) (js ks : List Change) (pinned last : ℕ) (passes : List Pass) (i : ℕ) (p : Pass)
    → t ≡ s → e ≡ d → ks ≡ js → ArePlayed path.height pinned last passes → slice_get passes i ≡ Some p
    → ((q : Pass) → slice_get passes (i + 1) ≡ Some q → q.picture ≢ p.picture)
    → picture_bytes e path.width path.height (replayed_rows under src (scene_of t e path) ks p.rows p.picture path.height)
    ≡ replay_file under src (scene_of s d path) js passes p.picture
shown_is under src s t d e path js ks pinned last passes i p shape depth changes all is next =
    ap (λ (r : Shape). picture_bytes e path.width path.height (replayed_rows under src (scene_of r e path) ks p.rows p.picture path.height)) shape
    ∙ ap (λ (n : ℕ). picture_bytes n path.width path.height (replayed_rows under src (scene_of s n path) ks p.rows p.picture path.height)) depth
    ∙ ap (λ (l : List Change). picture_bytes d path.width path.height (replayed_rows under src (scene_of s d path) l p.rows p.picture path.height)) changes
    ∙ file_is under src (scene_of s d path) js path.height pinned last passes i p all is next

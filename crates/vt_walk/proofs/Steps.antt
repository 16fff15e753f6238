-- One step more of what is left.
use Rattle.std.proofs.Common.{◌≡◌, ℕ, suc, ◌+◌, ◌≤◌, ◌≢◌, inl, inr, false, List, [], ◌∷◌, ◌++◌, length, Option, Some, None, refl, sym, ap, ◌∙◌, subst, append_assoc, arith}
use Rattle.std.specs.Prelude.{option_map, flat_map, IfSome}
use Rattle.std.specs.List.{range_with_len}
use Rattle.std.proofs.lemmas.List.{append-nil}
use Rattle.std.proofs.lemmas.Grind.{flat_map-append}
use Rattle.vt_outside.specs.Counts.{RoseBy}
use Rattle.vt_outside.specs.Files.{Files, with_bytes, with_appended, gained, IsThere}
use Rattle.vt_outside.specs.declared.place.Place.{Place}
use Rattle.vt_outside.proofs.Changes.{known-bytes-appended}
use Rattle.vt_journal.specs.JournalText.{pass_text}
use Rattle.vt_pages.specs.Shape.{Shape}
use Rattle.vt_pictures.specs.Names.{picture_name}
use Rattle.vt_evict.proofs.FirstLemmas.{range-more}
use Rattle.vt_walk_decisions.specs.Outcomes.{lost_count}
use Rattle.vt_walk_decisions.specs.Requests.{lost_entries}
use Rattle.vt_walk.specs.DrawnBy.{PictureDrawn}
use Rattle.vt_walk.specs.Runs.{WalkPass, IsWalkRun, IsNextPass, IsFinished, journal_after, run_text, content_pass, planned_in, lost_in}
use Rattle.vt_walk.specs.Logs.{picture_line, picture_lines}
use Rattle.vt_walk.specs.Shown.{last_rows, IsRunPicture}
use Rattle.vt_walk.specs.Walks.{WalkGiven, WalkNames}
use Rattle.vt_walk.specs.Folders.{with_walk, with_pictures, IsApart}
use Rattle.vt_walk.specs.States.{WalkState}
use Rattle.vt_walk.specs.Reads.{AreAskedFor, OnKnown}
use Rattle.vt_walk.specs.Written.{IsWritten, AreWritten}
use Rattle.vt_walk.specs.Standing.{Stands}
use Rattle.vt_walk.proofs.Asking.{planned_more, lost_more, losses_more}
use Rattle.vt_walk.proofs.Asks.{known_twice}
use Rattle.vt_walk.proofs.Showing.{picture_stays, lines_stay, other_number, rows_after, through_after}
use Rattle.vt_walk.proofs.RunContents.{text_grows}
use Rattle.vt_walk.proofs.Apart.{other_name, either_first, there_stays}

-- two changes of what may be known are one
pub changed_twice : {A : Type 0} (f h : A → A) (known : Option A) → option_map f (option_map h known) ≡ option_map (λ x. f (h x)) known
changed_twice f h None = refl
changed_twice f h (Some x) = refl

pub known_gained : (s t : List ℕ) (held : Option (List ℕ)) → option_map (gained t) (option_map (gained s) held) ≡ option_map (gained (s ++ t)) held
known_gained s t None = refl
known_gained s t (Some text) = ap Some (append_assoc text s t)

pub gained_none : (held : Option (List ℕ)) → held ≡ option_map (gained []) held
gained_none None = refl
gained_none (Some text) = ap Some (sym (append-nil text))

-- the journal with more text
pub journal_more : (names : WalkNames) (text more : List ℕ) (pictures : List (List ℕ)) (known : Option Files)
    → option_map (with_appended names.journal more) (option_map (with_walk names text pictures) known) ≡ option_map (with_walk names (text
    ++ more) pictures) known
journal_more names text more pictures known =
    ap (option_map (with_appended names.journal more)) (sym (changed_twice (with_bytes names.journal text) (with_pictures names.prefix pictures) known))
    ∙ known-bytes-appended names.journal text more (option_map (with_pictures names.prefix pictures) known)
    ∙ changed_twice (with_bytes names.journal (text ++ more)) (with_pictures names.prefix pictures) known

-- what was written of earlier pictures stays
written_stays : (drawn : PictureDrawn) (g : WalkGiven) (p : WalkPass) (run : List WalkPass) (picture : ℕ) (bytes : List ℕ)
    → IsWalkRun g.setup run → p.picture ≢ picture → IsWritten drawn g run picture bytes → IsWritten drawn g (p ∷ run) picture bytes
written_stays drawn g p run picture bytes is_run other w =
    let same : last_rows (p ∷ run) picture ≡ last_rows run picture = rows_after false p run picture (other_number p.picture picture other) in
    record {
      samples = w.samples;
      encoded = w.encoded;
      replay = stays g.known w.replay;
      plain = w.plain;
      from_draws = record {
        machine = w.from_draws.machine;
        setup = w.from_draws.setup;
        journal = w.from_draws.journal
            ∙ ap (journal_after g.setup) (sym (through_after false p run picture (other_number p.picture picture other)));
        joined = w.from_draws.joined;
        count = w.from_draws.count;
        full = w.from_draws.full;
        lines = ap length same ∙ w.from_draws.lines;
        drawn_by = subst (drawn w.from_draws.machine g.scene.path picture) (sym same) w.from_draws.drawn_by;
      };
    } where
      stays : (known : Option (List ℕ)) → IfSome known (λ b. IsRunPicture g.setup run g.scene.depth g.scene.path.width (g.draws.shows g.scene b) picture w.samples)
          → IfSome known (λ b. IsRunPicture g.setup (p ∷ run) g.scene.depth g.scene.path.width (g.draws.shows g.scene b) picture w.samples)
      stays None shown = tt
      stays (Some b) shown = picture_stays g.setup p run g.scene.depth g.scene.path.width (g.draws.shows g.scene b) picture w.samples is_run other shown

pub all_stay : (drawn : PictureDrawn) (g : WalkGiven) (p : WalkPass) (run : List WalkPass) (pictures : List (List ℕ))
    → IsWalkRun g.setup run → length pictures ≤ p.picture → AreWritten drawn g run pictures → AreWritten drawn g (p ∷ run) pictures
all_stay drawn g p run [] is_run few w = tt
all_stay drawn g p run (bytes ∷ pictures) is_run few w =
    let other : p.picture ≢ length pictures = λ same. absurd (omega (arith, same, few)) in
    (all_stay drawn g p run pictures is_run (omega (arith, few)) w.0, written_stays drawn g p run (length pictures) bytes is_run other w.1)

-- what a run has asked, and then a pass
pub asked_more : (s : Shape) (d pinned : ℕ) (p : WalkPass) (run : List WalkPass) (a b c : Option (List Place))
    → OnKnown (AreAskedFor s d pinned (planned_in run) (lost_in run)) a b → OnKnown (AreAskedFor s d 0 p.batch (lost_entries p.batch p.losses)) b c
    → OnKnown (AreAskedFor s d pinned (planned_in (p ∷ run)) (lost_in (p ∷ run))) a c
asked_more s d pinned p run a b c before more =
    known_twice (AreAskedFor s d pinned (planned_in run) (lost_in run)) (AreAskedFor s d 0 p.batch (lost_entries p.batch p.losses))
    (AreAskedFor s d pinned (planned_in (p ∷ run)) (lost_in (p ∷ run))) a b c
    (λ x y z one two. record {
      asked = λ at len. omega (arith, one.asked at len, two.asked at len, planned_more s d at len p run);
      failed = λ at len. omega (arith, one.failed at len, two.failed at len, lost_more s d at len p run);
    }) before more

-- a pass whose text is in the journal
pub pass_journaled : (drawn : PictureDrawn) (g : WalkGiven) (p : WalkPass) (run : List WalkPass) (pictures : List (List ℕ))
    (first was now : WalkState) → Stands drawn g run pictures first was → IsNextPass g.setup run p → p.picture ≡ length pictures
    → now.files ≡ option_map (with_appended g.names.journal (pass_text g.setup.shape (content_pass g.setup run p))) was.files
    → IsThere now.files g.names.journal → now.held ≡ was.held
    → OnKnown (AreAskedFor g.scene.shape g.scene.depth 0 p.batch (lost_entries p.batch p.losses)) was.asked now.asked
    → RoseBy (lost_count p.losses) was.faults now.faults → was.out_faults ≤ now.out_faults
    → Stands drawn g (p ∷ run) pictures first now
pass_journaled drawn g p run pictures first was now s next count files there held asked faults out_faults = record {
  is_run = (s.is_run, next);
  reached = inl (sym count);
  written = all_stay drawn g p run pictures s.is_run (omega (arith, count)) s.written;
  files = λ apart.
      files ∙ ap (option_map (with_appended g.names.journal (pass_text g.setup.shape (content_pass g.setup run p)))) (s.files apart)
      ∙ journal_more g.names (run_text g.setup run) (pass_text g.setup.shape (content_pass g.setup run p)) pictures first.files
      ∙ ap (λ (text : List ℕ). option_map (with_walk g.names text pictures) first.files) (sym (text_grows g.setup p run));
  there = there;
  held = held ∙ s.held ∙ ap (λ (text : List ℕ). option_map (gained text) first.held) (sym (lines_stay p run (length pictures) (omega (arith, count))));
  asked = asked_more g.scene.shape g.scene.depth g.setup.pinned p run first.asked was.asked now.asked s.asked asked;
  faults = let n = losses_more g.setup p run (s.is_run, next) in let f = s.faults in omega (arith, n, f, faults);
  out_faults = let o = s.out_faults in omega (arith, o, out_faults);
}

lines_more : (run : List WalkPass) (n : ℕ) → picture_lines run (suc n) ≡ picture_lines run n ++ picture_line run n
lines_more run n =
    let next : suc n ≡ n + 1 = omega arith in
    ap (λ k. flat_map (picture_line run) (range_with_len 0 k)) next
    ∙ ap (flat_map (picture_line run)) (range-more 0 n)
    ∙ flat_map-append (picture_line run) (range_with_len 0 n) ((0 + n) ∷ [])
    ∙ ap (λ (text : List ℕ). picture_lines run n ++ text) (append-nil (picture_line run (0 + n)) ∙ ap (picture_line run) (omega arith))

-- the journal was written before a picture, or after it
picture_first : (names : WalkNames) (text bytes : List ℕ) (pictures : List (List ℕ)) (known : Option Files) → IsApart names
    → option_map (with_bytes (picture_name names.prefix (length pictures)) bytes) (option_map (with_walk names text pictures) known)
    ≡ option_map (with_walk names text (bytes ∷ pictures)) known
picture_first names text bytes pictures None apart = refl
picture_first names text bytes pictures (Some files) apart =
    ap Some (either_first (picture_name names.prefix (length pictures)) names.journal bytes text (with_pictures names.prefix pictures files)
    (other_name names (length pictures) apart))

-- a picture that is written, and its line
pub picture_journaled : (drawn : PictureDrawn) (g : WalkGiven) (p : WalkPass) (run : List WalkPass) (pictures : List (List ℕ))
    (bytes : List ℕ) (first was now : WalkState) → Stands drawn g (p ∷ run) pictures first was → IsFinished g.setup p run → p.picture ≡ length pictures
    → IsWritten drawn g (p ∷ run) (length pictures) bytes
    → now.files ≡ option_map (with_bytes (picture_name g.names.prefix (length pictures)) bytes) was.files
    → now.held ≡ option_map (gained (picture_line (p ∷ run) (length pictures))) was.held
    → now.asked ≡ was.asked → was.faults ≤ now.faults → was.out_faults ≤ now.out_faults
    → Stands drawn g (p ∷ run) (bytes ∷ pictures) first now
picture_journaled drawn g p run pictures bytes first was now s finished count written files held asked faults out_faults = record {
  is_run = s.is_run;
  reached = inr (finished, omega (arith, count));
  written = (s.written, written);
  files = λ apart.
      files ∙ ap (option_map (with_bytes (picture_name g.names.prefix (length pictures)) bytes)) (s.files apart)
      ∙ picture_first g.names (run_text g.setup (p ∷ run)) bytes pictures first.files apart;
  there = subst (λ known. IsThere known g.names.journal) (sym files)
      (there_stays g.names.journal (picture_name g.names.prefix (length pictures)) bytes was.files s.there);
  held = held ∙ ap (option_map (gained (picture_line (p ∷ run) (length pictures)))) s.held
      ∙ known_gained (picture_lines (p ∷ run) (length pictures)) (picture_line (p ∷ run) (length pictures)) first.held
      ∙ ap (λ (text : List ℕ). option_map (gained text) first.held) (sym (lines_more (p ∷ run) (length pictures)));
  asked = subst (λ known. OnKnown (AreAskedFor g.scene.shape g.scene.depth g.setup.pinned (planned_in (p ∷ run)) (lost_in (p ∷ run))) first.asked known)
      (sym asked) s.asked;
  faults = let f = s.faults in omega (arith, f, faults);
  out_faults = let o = s.out_faults in omega (arith, o, out_faults);
}

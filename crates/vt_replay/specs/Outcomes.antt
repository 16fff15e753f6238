-- What a replay leaves.
use Rattle.std.specs.Prelude.{◌≡◌, ◌⊎◌, ℕ, ◌<◌, ◌++◌, List, Some, Option, All, length, slice_get, option_map, Result, Ok, Err}
use Rattle.vt_outside.specs.Files.{Files, Asked, with_places}
use Rattle.vt_outside.specs.declared.answers.OutsideError.{OutsideError}
use Rattle.vt_outside.specs.declared.place.Place.{Place}
use Rattle.vt_pages.specs.Shape.{Shape}
use Rattle.vt_camera.specs.Paths.{PathView}
use Rattle.vt_journal.specs.JournalText.{Pass, Content, journal_text}
use Rattle.vt_journal.specs.JournalFlaws.{IsLawfulJournal}
use Rattle.vt_outside.specs.Expectations.{with_files, IsPart}
use Rattle.vt_replay.specs.Flaws.{IsFirstRefused}
use Rattle.vt_tiles.specs.Places.{IsTilePlace}
use Rattle.vt_replay_rows.specs.Trying.{Under}
use Rattle.vt_replay.specs.Replayed.{pictures_of, expected_replay}
use Rattle.vt_replay.specs.declared.error.ReplayError.{ReplayError}
use Rattle.vt_replay.specs.declared.error.ReplayError.TheVariants.{BadJournal, Failed, NoMemory}

-- the text is that of a lawful journal whose pictures are all in the path
pub record IsReplayable (s : Shape) (path : PathView) (text : List ℕ) (content : Content) : Type 0 where
  pub lawful : IsLawfulJournal s path.height content
  pub spelled : text ≡ journal_text s content
  pub in_path : (i : ℕ) (pass : Pass) → slice_get content.passes i ≡ Some pass → pass.picture < length path.cameras

-- where the store tells its bytes, each picture of the journal has at its name the file of its replay, and all else is as before
abbrev pub HoldsReplay : Under → Shape → ℕ → Option (List ℕ) → PathView → List ℕ → Content → Option Files → Option Files → Type 0
HoldsReplay under s d known path prefix content before after =
    (b : List ℕ) → known ≡ Some b → after ≡ option_map (with_files (expected_replay under s d b path prefix content)) before

-- where the store tells its bytes, a part of the pictures is there: some whole, and of the next at most a prefix
abbrev pub HoldsPart : Under → Shape → ℕ → Option (List ℕ) → PathView → List ℕ → Content → Option Files → Option Files → Type 0
HoldsPart under s d known path prefix content before after =
    (b : List ℕ) → known ≡ Some b → IsPart (expected_replay under s d b path prefix content) before after

-- nothing was written, or a part of what the journal is to leave
abbrev pub StoppedReplay : Under → Shape → ℕ → Option (List ℕ) → PathView → List ℕ → List ℕ → Option Files → Option Files → Type 0
StoppedReplay under s d known path text prefix before after =
    (after ≡ before) ⊎ ((content : Content) × IsReplayable s path text content × HoldsPart under s d known path prefix content before after)

-- what a replay by a filter leaves by its answer: the number of the journal's pictures and all of them; nothing, where a line of the journal is
-- refused, which is the first such line; or else a part
abbrev pub LeavesReplay : Under → Shape → ℕ → Option (List ℕ) → PathView → List ℕ → List ℕ → Option Files → Option Files → Result ℕ ReplayError → Type 0
LeavesReplay under s d known path text prefix before after (Ok count) =
    (content : Content) × IsReplayable s path text content × (count ≡ pictures_of content.passes)
    × HoldsReplay under s d known path prefix content before after
LeavesReplay under s d known path text prefix before after (Err (BadJournal line)) =
    (after ≡ before) × IsFirstRefused s path.height (length path.cameras) text line
LeavesReplay under s d known path text prefix before after (Err Failed) = StoppedReplay under s d known path text prefix before after
LeavesReplay under s d known path text prefix before after (Err NoMemory) = StoppedReplay under s d known path text prefix before after

-- the store's file was closed in its folder, after it was asked for tiles alone
pub record IsStoreClosed (s : Shape) (d : ℕ) (name : List ℕ) (asked : Option (List Place)) (before after : Option Asked) : Type 0 where
  pub places : List Place
  pub are : All (IsTilePlace s d) places
  pub closed : after ≡ option_map (with_places name (option_map (λ old. old ++ places) asked)) before

-- the answer of a replay, by that of its passes
abbrev pub replay_answer : Result ℕ OutsideError → Result ℕ ReplayError
replay_answer (Ok count) = Ok count
replay_answer (Err OutsideError.Failed) = Err Failed
replay_answer (Err OutsideError.NoMemory) = Err NoMemory

-- The command `replay`: the pictures of a journal, drawn again from its store and its path.
use Rattle.std.specs.Prelude.{◌≡◌, ◌⊎◌, ℕ, List, [], ◌∷◌, length, take, IsSome, option_map, Result, Ok, Err}
use Rattle.vt_outside.specs.Files.{gained}
use Rattle.vt_outside.specs.declared.answers.OutsideError.{OutsideError}
use Rattle.vt_outside.specs.declared.answers.OutsideError.TheVariants as outside
use Rattle.vt_pages.specs.Shape.{Shape}
use Rattle.vt_camera.specs.Paths.{PathView}
use Rattle.vt_walk.specs.JournalText.{Content as Journal}
use Rattle.vt_pictures.specs.Replays.{pixel_under}
use Rattle.vt_plain_bilinear.specs.Shown.{blend_under}
use Rattle.vt_command_inputs.specs.Effects.{FolderEffect, CallEffect}
use Rattle.vt_outside.specs.Expectations.{Expected, with_files, IsPart}
use Rattle.vt_replay.specs.Flaws.{IsFirstRefused}
use Rattle.vt_replay.specs.Outcomes.{IsReplayable}
use Rattle.vt_replay.specs.Trying.{Under}
use Rattle.vt_replay.specs.Replayed.{expected_replay, pictures_of}
use Rattle.vt_replay.specs.declared.error.ReplayError.{ReplayError}
use Rattle.vt_replay.specs.declared.error.ReplayError.TheVariants as replay
use Rattle.vt_command_words.specs.Replay.{ReplayText}
use Rattle.vt_command_words.specs.declared.filters.Filtering.{Filtering}
use Rattle.vt_command_words.specs.declared.filters.Filtering.TheVariants.{Nearest, Bilinear}
use Rattle.vt_command_inputs.specs.Lines.{end_line}
use Rattle.vt_command_inputs.specs.Inputs.{Input, InputContent, PathInput, PagedStore, JournalInput, PathContent, PagedContent, TextContent}
use Rattle.vt_command_inputs.specs.Causes.{AsksSome}
use Rattle.vt_command_inputs.specs.Reads.{OpenFileState, Refused, Closed}
use Rattle.vt_command_inputs.specs.Refusals.{IsRefusalOf}
use Rattle.vt_command_inputs.specs.Tasks.{HasRisen}
use Rattle.vt_command_inputs.specs.CommandSpecs.{CommandSpec, Conflict, FlawedBeside}
use Rattle.vt_command_inputs.specs.declared.flaws.Flaw.{Flaw}
use Rattle.vt_command_inputs.specs.declared.flaws.Flaw.TheVariants.{BadLine}
use Rattle.vt_command_inputs.specs.declared.refusal.Refusal.{Refusal}

-- how a filter shows pixels under a page table
abbrev pub under_by : Filtering → Under
under_by Nearest = pixel_under
under_by Bilinear = blend_under

-- what a replay is of: a path, a store with its bytes, and the text of a journal
pub record ReplayOf : Type 0 where
  pub path : PathView
  pub shape : Shape
  pub depth : ℕ
  pub bytes : List ℕ
  pub text : List ℕ

-- the inputs hold these
abbrev pub contents_of : ReplayOf → List InputContent
contents_of g = PathContent g.path ∷ PagedContent g.shape g.depth g.bytes ∷ TextContent g.text ∷ []

-- the pictures of a journal, each the replay of its last pass by the words' filter, and the end line
abbrev pub expected_journal : ReplayText → ReplayOf → Journal → Expected
expected_journal words g journal = record {
  files = expected_replay (under_by words.filter) g.shape g.depth g.bytes g.path words.prefix journal;
  text = end_line (pictures_of journal.passes);
}

-- the text is that of a lawful journal whose pictures are all in the path; where contents are known, each picture is there, and every other
-- name holds what it held; and the output gained the end line
pub record HasReplayed (words : ReplayText) (contents : List InputContent) (c : CallEffect) : Type 0 where
  pub of : ReplayOf
  pub are : contents ≡ contents_of of
  pub journal : Journal
  pub has : IsReplayable of.shape of.path of.text journal
  pub files : IsSome c.folder.before.files
      → c.folder.after.files ≡ option_map (with_files (expected_journal words of journal).files) c.folder.before.files
  pub out : c.out.after.held ≡ option_map (gained (expected_journal words of journal).text) c.out.before.held

-- the text is that of such a journal; where contents are known, some of its pictures are there, and of the next one a prefix; and the
-- output gained a prefix of the end line, and a byte of it only where all pictures are there
pub record HasStopped (words : ReplayText) (contents : List InputContent) (c : CallEffect) : Type 0 where
  pub of : ReplayOf
  pub are : contents ≡ contents_of of
  pub journal : Journal
  pub has : IsReplayable of.shape of.path of.text journal
  pub files : IsSome c.folder.before.files → IsPart (expected_journal words of journal).files c.folder.before.files c.folder.after.files
  pub out : (c.out.after.held ≡ c.out.before.held)
      ⊎ ((IsSome c.folder.before.files
      → c.folder.after.files ≡ option_map (with_files (expected_journal words of journal).files) c.folder.before.files)
      × ((k : ℕ) × (c.out.after.held ≡ option_map (gained (take k (expected_journal words of journal).text)) c.out.before.held)))

-- a line of the journal is the first that is refused, or that names a picture that the path has not
pub record HasBadLine (words : ReplayText) (contents : List InputContent) (conflict : Conflict) : Type 0 where
  pub of : ReplayOf
  pub are : contents ≡ contents_of of
  pub line : ℕ
  pub is : conflict ≡ FlawedBeside words.journal (BadLine line)
  pub first : IsFirstRefused of.shape of.path.height (length of.path.cameras) of.text line

-- `replay` reads the path, opens the store and reads the journal
abbrev pub replay_inputs : ReplayText → List Input
replay_inputs words = PathInput words.path ∷ PagedStore words.store ∷ JournalInput words.journal ∷ []

-- and closes the store last
abbrev pub replay_closes : ReplayText → List Input
replay_closes words = PathInput words.path ∷ JournalInput words.journal ∷ PagedStore words.store ∷ []

-- the specification of `replay`
abbrev pub replay_spec : ReplayText → CommandSpec
replay_spec words = record {
  inputs = replay_inputs words;
  asks = λ c. AsksSome (replay_closes words) c.folder;
  conflicts = HasBadLine words;
  done = HasReplayed words;
  stopped = HasStopped words;
  unfit = λ contents picture c. ⊥;
  failed = HasRisen;
}

-- the journal was refused beside an open store, which was closed
pub record RefusedBeside (name : List ℕ) (refusal : Refusal) (store : OpenFileState) (p : FolderEffect) : Type 0 where
  pub read : FolderEffect
  pub begins : read.before ≡ p.before
  pub refused : Refused (JournalInput name) refusal read
  pub closed : Closed store (record { before = read.after; after = p.after })

-- the flaw of a journal that is refused, or what the outside refused
abbrev pub flaw_of_replay : ReplayError → Result Flaw OutsideError
flaw_of_replay (replay.BadJournal line) = Ok (BadLine line)
flaw_of_replay replay.Failed = Err outside.Failed
flaw_of_replay replay.NoMemory = Err outside.NoMemory

-- the answer of a replay of the journal of a name
abbrev pub IsReplayAnswer : List ℕ → Result ℕ ReplayError → Result ℕ Refusal → Type 0
IsReplayAnswer name (Ok count) (Ok pictures) = pictures ≡ count
IsReplayAnswer name (Ok count) (Err refusal) = ⊥
IsReplayAnswer name (Err error) (Ok pictures) = ⊥
IsReplayAnswer name (Err error) (Err refusal) = IsRefusalOf name (flaw_of_replay error) refusal

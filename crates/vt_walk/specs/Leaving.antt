-- What a refused walk leaves: the beginning of a run, whole, and a prefix of the step that was under way.
use Rattle.std.specs.Prelude.{◌≡◌, ◌⊎◌, ℕ, ◌+◌, ◌<◌, ◌≤◌, Option, List, [], ◌∷◌, length, take, option_map}
use Rattle.vt_outside.specs.Counts.{RoseBy}
use Rattle.vt_outside.specs.Files.{with_bytes, with_appended, gained}
use Rattle.vt_outside.specs.declared.place.Place.{Place}
use Rattle.vt_journal.specs.JournalText.{head_text, pass_text}
use Rattle.vt_walk_decisions.specs.Outcomes.{lost_count}
use Rattle.vt_walk_decisions.specs.Requests.{lost_entries}
use Rattle.vt_pictures.specs.Names.{picture_name}
use Rattle.vt_walk.specs.DrawnBy.{PictureDrawn}
use Rattle.vt_walk.specs.Runs.{WalkPass, IsStepOf, IsNextPass, IsFinished, IsWhole, plan_after, content_pass}
use Rattle.vt_walk.specs.Logs.{picture_line, walk_end_line}
use Rattle.vt_walk.specs.Walks.{WalkGiven}
use Rattle.vt_walk.specs.States.{WalkState}
use Rattle.vt_walk.specs.Reads.{AreAskedFor, AreAskedAtMostFor, OnKnown}
use Rattle.vt_walk.specs.Standing.{Stands}
use Rattle.vt_walk.specs.Written.{IsWritten}

-- nothing was asked, and the counts did not fall
pub record AsksNothing (before after : WalkState) : Type 0 where
  pub asked : after.asked ≡ before.asked
  pub faults : before.faults ≤ after.faults
  pub out_faults : before.out_faults ≤ after.out_faults

-- nothing was written
pub record WritesNothing (before after : WalkState) : Type 0 where
  pub files : after.files ≡ before.files
  pub held : after.held ≡ before.held

-- the journal has a prefix of its head, or its name is as before; and some pinned pages were asked for at most
pub record LeftAtHead (g : WalkGiven) (first now : WalkState) : Type 0 where
  pub files : (now.files ≡ first.files)
      ⊎ ((k : ℕ) × (now.files ≡ option_map (with_bytes g.names.journal (take k (head_text g.setup.shape g.setup.pinned))) first.files))
  pub held : now.held ≡ first.held
  pub asked : OnKnown (AreAskedAtMostFor g.scene.shape g.scene.depth g.setup.pinned []) first.asked now.asked
  pub faults : first.faults ≤ now.faults
  pub out_faults : first.out_faults ≤ now.out_faults

-- a pass by which the run goes on was under way: its tiles were asked for, each at most once, and nothing was written
pub record LeftInPass (g : WalkGiven) (run : List WalkPass) (picture : ℕ) (before after : WalkState) : Type 0 where
  pub step : IsStepOf g.setup run picture
  pub of_path : picture < g.setup.pictures
  pub files : after.files ≡ before.files
  pub held : after.held ≡ before.held
  pub asked : OnKnown (AreAskedAtMostFor g.scene.shape g.scene.depth 0 (plan_after g.setup run)) before.asked after.asked
  pub faults : before.faults ≤ after.faults
  pub out_faults : before.out_faults ≤ after.out_faults

-- a pass by which the run goes on was run, and the journal ends with a prefix of its text
pub record LeftInText (g : WalkGiven) (run : List WalkPass) (picture : ℕ) (before after : WalkState) : Type 0 where
  pub next : WalkPass
  pub comes_next : IsNextPass g.setup run next
  pub picture_is : next.picture ≡ picture
  pub files : (after.files ≡ before.files)
      ⊎ ((k : ℕ) × (after.files ≡ option_map (with_appended g.names.journal (take k (pass_text g.setup.shape (content_pass g.setup run next)))) before.files))
  pub held : after.held ≡ before.held
  pub asked : OnKnown (AreAskedFor g.scene.shape g.scene.depth 0 next.batch (lost_entries next.batch next.losses)) before.asked after.asked
  pub faults : RoseBy (lost_count next.losses) before.faults after.faults
  pub out_faults : before.out_faults ≤ after.out_faults

-- the run has finished this picture by its newest pass
abbrev pub HasFinished : WalkGiven → List WalkPass → ℕ → Type 0
HasFinished g [] picture = ⊥
HasFinished g (p ∷ passes) picture = IsFinished g.setup p passes × (p.picture ≡ picture)

-- the next picture's first pass was under way: its tiles were asked for, each at most once
pub record AsksForNext (g : WalkGiven) (run : List WalkPass) (picture : ℕ) (before after : Option (List Place)) : Type 0 where
  pub step : IsStepOf g.setup run picture
  pub of_path : picture < g.setup.pictures
  pub asked : OnKnown (AreAskedAtMostFor g.scene.shape g.scene.depth 0 (plan_after g.setup run)) before after

-- after a finished picture nothing was asked, or the pass that comes next was under way while the picture was written; and the counts did
-- not fall
pub record AsksAhead (g : WalkGiven) (run : List WalkPass) (picture : ℕ) (before after : WalkState) : Type 0 where
  pub asked : (after.asked ≡ before.asked) ⊎ AsksForNext g run (picture + 1) before.asked after.asked
  pub faults : before.faults ≤ after.faults
  pub out_faults : before.out_faults ≤ after.out_faults

-- the name of a finished picture holds a prefix of it, or is as before
pub record LeftInPicture (drawn : PictureDrawn) (g : WalkGiven) (run : List WalkPass) (picture : ℕ)
    (before after : WalkState) : Type 0 where
  pub finished : HasFinished g run picture
  pub bytes : List ℕ
  pub written : IsWritten drawn g run picture bytes
  pub files : (after.files ≡ before.files)
      ⊎ ((k : ℕ) × (after.files ≡ option_map (with_bytes (picture_name g.names.prefix picture) (take k bytes)) before.files))
  pub held : after.held ≡ before.held
  pub ahead : AsksAhead g run picture before after

-- a finished picture is whole, and the output ends with a prefix of its line
pub record LeftInLine (drawn : PictureDrawn) (g : WalkGiven) (run : List WalkPass) (picture : ℕ)
    (before after : WalkState) : Type 0 where
  pub finished : HasFinished g run picture
  pub bytes : List ℕ
  pub written : IsWritten drawn g run picture bytes
  pub files : after.files ≡ option_map (with_bytes (picture_name g.names.prefix picture) bytes) before.files
  pub count : ℕ
  pub held : after.held ≡ option_map (gained (take count (picture_line run picture))) before.held
  pub ahead : AsksAhead g run picture before after

-- the run is whole, and the output ends with a prefix of the last line
pub record LeftAtEnd (g : WalkGiven) (run : List WalkPass) (pictures : ℕ) (before after : WalkState) : Type 0 where
  pub whole : IsWhole g.setup run
  pub all : pictures ≡ g.setup.pictures
  pub files : after.files ≡ before.files
  pub count : ℕ
  pub held : after.held ≡ option_map (gained (take count (walk_end_line g.setup run))) before.held
  pub none : AsksNothing before after

-- what is left of the step that was under way after a run's beginning with so many whole pictures: nothing, or a prefix of a step
abbrev pub IsWalkPrefix : PictureDrawn → WalkGiven → List WalkPass → ℕ → WalkState → WalkState → Type 0
IsWalkPrefix drawn g run pictures before after =
    (WritesNothing before after × AsksNothing before after)
    ⊎ (LeftInPass g run pictures before after
    ⊎ (LeftInText g run pictures before after
    ⊎ (LeftInPicture drawn g run pictures before after
    ⊎ (LeftInLine drawn g run pictures before after
    ⊎ LeftAtEnd g run pictures before after))))

-- the beginning of a run is whole, and of the step that was under way there is a prefix
pub record LeftInRun (drawn : PictureDrawn) (g : WalkGiven) (first now : WalkState) : Type 0 where
  pub run : List WalkPass
  pub pictures : List (List ℕ)
  pub mid : WalkState
  pub stands : Stands drawn g run pictures first mid
  pub front : IsWalkPrefix drawn g run (length pictures) mid now

-- what a refused walk leaves
abbrev pub Left : PictureDrawn → WalkGiven → WalkState → WalkState → Type 0
Left drawn g first now = LeftAtHead g first now ⊎ LeftInRun drawn g first now

-- What is known of the specification of the commands that walk or replay.
use Rattle.std.proofs.Common.{◌≡◌, List, [], ◌∷◌, Option, refl, sym, ap, subst, ◌∙◌, inl, arith}
use Rattle.vt_outside.specs.Files.{Files, Asked}
use Rattle.vt_command_inputs.specs.Effects.{CallEffect, FolderState, HasNoEffect}
use Rattle.vt_command_inputs.specs.Inputs.{Input, InputContent}
use Rattle.vt_command_inputs.specs.Causes.{AreAskedOrNot}
use Rattle.vt_command_inputs.specs.CommandSpecs.{CommandSpec, Conflict, FlawedBeside, ManyTexels, FewFrames, LargePicture, conflict_status}
use Rattle.vt_walk_commands.specs.Machines.{MachineKind}
use Rattle.vt_walk_commands.specs.commands.Walk.{WalkOf, ConflictsInWalk, StandsInWay, contents_of, walk_inputs, walk_spec}
use Rattle.vt_walk_commands.specs.commands.Replay.{HasBadLine, replay_closes, replay_spec}
use Rattle.vt_walk_commands.specs.commands.Trial.{ConflictsInTrial, trial_spec}
use Rattle.vt_command_words.specs.Replay.{ReplayText}
use Rattle.vt_command_words.specs.Walk.{WalkText}
use Rattle.vt_command_words.specs.Trial.{TrialText}

-- whatever stands in the way of some contents has one status, and nothing is asked where all is as before
pub record AreSound (spec : CommandSpec) : Type 0 where
  pub one : (contents : List InputContent) (a b : Conflict) → spec.conflicts contents a → spec.conflicts contents b → conflict_status a ≡ conflict_status b
  pub idle : (c : CallEffect) → HasNoEffect c → spec.asks c

one_line : (words : ReplayText) (contents : List InputContent) (a b : Conflict) → HasBadLine words contents a → HasBadLine words contents b
    → conflict_status a ≡ conflict_status b
one_line words contents a b x y = ap conflict_status x.is ∙ sym (ap conflict_status y.is)

-- where nothing was asked, no input was
some_idle : (files : Option Files) (inputs : List Input) (asked : Option Asked) → AreAskedOrNot files inputs asked asked
some_idle files [] asked = refl
some_idle files (input ∷ inputs) asked = (asked, inl refl, some_idle files inputs asked)

pub replay_sound : (words : ReplayText) → AreSound (replay_spec words)
replay_sound words = record {
  one = one_line words;
  idle = λ c idle.
      subst (λ (asked : Option Asked). AreAskedOrNot c.folder.before.files (replay_closes words) c.folder.before.asked asked)
      (sym (ap (λ (s : FolderState). s.asked) idle.folder)) (some_idle c.folder.before.files (replay_closes words) c.folder.before.asked);
}

-- too many texels exclude the others
one_stands : (m : MachineKind) (words : WalkText) (of : WalkOf) (a b : Conflict) → StandsInWay m words of a → StandsInWay m words of b
    → conflict_status a ≡ conflict_status b
one_stands m words of (FlawedBeside name flaw) b x y = absurd x
one_stands m words of a (FlawedBeside name flaw) x y = absurd y
one_stands m words of ManyTexels ManyTexels x y = refl
one_stands m words of ManyTexels (FewFrames frames needed) x y = absurd (omega (arith, x, y.few_texels))
one_stands m words of ManyTexels (LargePicture picture wanted room) x y = absurd (omega (arith, x, y.few_texels))
one_stands m words of (FewFrames frames needed) ManyTexels x y = absurd (omega (arith, y, x.few_texels))
one_stands m words of (LargePicture picture wanted room) ManyTexels x y = absurd (omega (arith, y, x.few_texels))
one_stands m words of (FewFrames frames needed) (FewFrames others more) x y = refl
one_stands m words of (FewFrames frames needed) (LargePicture picture wanted room) x y = refl
one_stands m words of (LargePicture picture wanted room) (FewFrames frames needed) x y = refl
one_stands m words of (LargePicture picture wanted room) (LargePicture other more less) x y = refl

-- two walks of the same contents are of the same
pub same_of : (a b : WalkOf) → contents_of a ≡ contents_of b → a ≡ b
same_of a b same =
    let path : a.path ≡ b.path = cc in
    let shape : a.shape ≡ b.shape = cc in
    let depth : a.depth ≡ b.depth = cc in
    λ i. record { path = path i; shape = shape i; depth = depth i }

walk_one : (m : MachineKind) (words : WalkText) (contents : List InputContent) (a b : Conflict) → ConflictsInWalk m words contents a → ConflictsInWalk m words contents b
    → conflict_status a ≡ conflict_status b
walk_one m words contents a b x y =
    one_stands m words x.of a b x.stands (subst (λ (o : WalkOf). StandsInWay m words o b) (same_of y.of x.of (sym y.are ∙ x.are)) y.stands)

pub walk_sound : (m : MachineKind) (words : WalkText) → AreSound (walk_spec m words)
walk_sound m words = record {
  one = walk_one m words;
  idle = λ c idle.
      inl (subst (λ (asked : Option Asked). AreAskedOrNot c.folder.before.files (walk_inputs words) c.folder.before.asked asked)
      (sym (ap (λ (s : FolderState). s.asked) idle.folder)) (some_idle c.folder.before.files (walk_inputs words) c.folder.before.asked));
}

-- only a picture that does not fit may stand in the way of a trial
trial_one : (words : TrialText) (contents : List InputContent) (a b : Conflict) → ConflictsInTrial words contents a → ConflictsInTrial words contents b
    → conflict_status a ≡ conflict_status b
trial_one words contents (LargePicture picture wanted room) (LargePicture other more less) x y = refl
trial_one words contents (FlawedBeside name flaw) b x y = absurd x
trial_one words contents ManyTexels b x y = absurd x
trial_one words contents (FewFrames frames needed) b x y = absurd x
trial_one words contents (LargePicture picture wanted room) (FlawedBeside name flaw) x y = absurd y
trial_one words contents (LargePicture picture wanted room) ManyTexels x y = absurd y
trial_one words contents (LargePicture picture wanted room) (FewFrames frames needed) x y = absurd y

pub trial_sound : (words : TrialText) → AreSound (trial_spec words)
trial_sound words = record { one = trial_one words; idle = λ c idle. idle.folder }

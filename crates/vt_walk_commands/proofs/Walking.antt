-- How `walk` ends, from what its readers answered and what the walk left.
use Rattle.std.proofs.Common.{◌≡◌, ◌⊎◌, ℕ, Bool, false, ◌*◌, ◌<◌, ◌≤◌, List, [], ◌∷◌, ◌++◌, length, Option, Some, None, Ok, Err, refl, sym, ap, ap₂, subst, ◌∙◌, inl, inr, arith}
use Rattle.std.specs.Prelude.{Result, MatchResult, IsTrue, true, ◌||◌, sum, unwrap_or}
use Rattle.std.specs.Option.{option_map, IsSome}
use Rattle.std.specs.Str.{bytes_eq}
use Rattle.std.proofs.lemmas.List.{append-nil}
use Rattle.std.proofs.lemmas.Bool.{cases_lt, false≢true}
use Rattle.vt_pages.specs.Limits.{most_frame_texels}
use Rattle.vt_outside.specs.Counts.{added}
use Rattle.vt_outside.specs.Files.{Files, Asked, bytes_at}
use Rattle.vt_outside.specs.declared.place.Place.{Place}
use Rattle.vt_pages.specs.Shape.{Shape}
use Rattle.vt_camera.specs.Paths.{PathView}
use Rattle.vt_command_inputs.specs.Effects.{FolderState, SinkState, CallEffect, IsWithoutEffect}
use Rattle.vt_walk.specs.Requests.{counts_of}
use Rattle.vt_walk.specs.Requests
use Rattle.vt_pictures.specs.Scenes.{scene_of}
use Rattle.vt_walk.specs.WalkDecisionsTypes.error.WalkError.{WalkError}
use Rattle.vt_walk.specs.WalkDecisionsTypes.error.WalkError.TheVariants as walks
use Rattle.vt_walk.specs.Walks.{WalkGiven, given_by, mode_of}
use Rattle.vt_walk.specs.Folders.{IsApart}
use Rattle.vt_walk.specs.States.{WalkState, places_of}
use Rattle.vt_walk.specs.Reads.{OnKnown}
use Rattle.vt_walk.specs.Standing.{Finished}
use Rattle.vt_walk.specs.Causes.{IsCausedBy}
use Rattle.vt_walk.specs.WalkSteps.{LeftByRefusal as WalkLeftBy}
use Rattle.vt_walk.specs.Closing.{AreOtherNamesAsBefore}
use Rattle.vt_walk.proofs.Closings.{AreSamePlaces, same_places, IsAlike}
use Rattle.vt_walk.proofs.Alike.{ends_alike}
use Rattle.vt_walk.proofs.Earlier.{ends_from}
use Rattle.vt_walk.proofs.Wholeness.{fits_or_not}
use Rattle.vt_pictures.specs.Names.{is_picture_name}
use Rattle.vt_command_words.specs.Journals.{names_clash}
use Rattle.vt_command_words.specs.Walk.{WalkText}
use Rattle.vt_walk_commands.specs.Machines.{MachineKind}
use Rattle.vt_command_inputs.specs.Inputs.{PathInput, StoreInput, PathContent, StoreContent, header_places}
use Rattle.vt_command_inputs.specs.HeldInputs.{Holds}
use Rattle.vt_command_inputs.specs.Causes.{AreHeld, AsksSome}
use Rattle.vt_command_inputs.specs.Reads.{OpenFileState, OpensStore, Closed, TookInput, Refused}
use Rattle.vt_command_inputs.specs.Tasks.{HasRisen}
use Rattle.vt_command_inputs.specs.CommandSpecs.{Conflict, FlawedBeside, ManyTexels, FewFrames, LargePicture, IsRefusalBy, EndsBy}
use Rattle.vt_walk_commands.specs.commands.Walk.{WalkOf, contents_of, settings_of, walk_names, walk_given, walk_first, walk_last, HasWalked, HasLeft, frame_texels, walk_pinned, StandsInWay, walk_inputs, WalkFailed, WalkAsks, IsWalkAnswer, walk_spec, refusal_of_walk}
use Rattle.vt_command_inputs.specs.declared.refusal.Refusal.{Refusal}
use Rattle.vt_command_inputs.specs.declared.refusal.Refusal.TheVariants.{Usage}
use Rattle.vt_command_inputs.proofs.Ending.{refusal_at}
use Rattle.vt_command_inputs.proofs.Opening.{store_there, header_took}
use Rattle.vt_walk_commands.proofs.Replaying.{asked_in, asked_or_not}
use Rattle.vt_walk_commands.proofs.Sound.{same_of}
use Rattle.vt_command_inputs.proofs.TaskSpecs.{refused_by}

-- what a call did, by its folders and its outputs
abbrev pub over : FolderState → FolderState → SinkState → SinkState → CallEffect
over before after out shown = record { folder = record { before = before; after = after }; out = record { before = out; after = shown } }

-- the count of faults rose, and only the inputs were asked
risen_before : (m : MachineKind) (words : WalkText) (c : CallEffect) → AsksSome (walk_inputs words) c.folder → HasRisen c → WalkFailed m words c
risen_before m words c asks (inl rose) = inr (inl (record { asks = asks; rose = rose }))
risen_before m words c asks (inr rose) = inl rose

-- the path was refused
pub path_refused : (m : MachineKind) (words : WalkText) (refusal : Refusal) (f0 f1 : FolderState) (out : SinkState)
    → Refused (PathInput words.path) refusal (record { before = f0; after = f1 })
    → EndsBy {T = Unit {0}} (walk_spec m words) (over f0 f1 out out) (Err refusal)
path_refused m words refusal f0 f1 out h =
    let asks : AsksSome (walk_inputs words) (record { before = f0; after = f1 }) =
    (f1.asked, asked_or_not (PathInput words.path) f0.files f0 f1 refl h.asked, (f1.asked, inl refl, refl)) in (
      inl asks,
      (
        inl (record { files = h.files; held = refl }),
        refused_by (walk_spec m words) (over f0 f1 out out) refusal (risen_before m words (over f0 f1 out out) asks)
            (refusal_at (walk_inputs words) [] [] (PathInput words.path) (StoreInput words.store ∷ []) refusal
            f0 f0 f1 out refl (λ known. tt) refl (omega arith) h.files h.cause),
      ),
    )

-- the path was read
abbrev pub ReadPath : WalkText → PathView → FolderState → FolderState → Type 0
ReadPath words path f0 f1 = TookInput (PathInput words.path) (PathContent path) (record { before = f0; after = f1 })

-- the store was refused
pub store_refused : (m : MachineKind) (words : WalkText) (path : PathView) (refusal : Refusal) (f0 f1 f2 : FolderState) (out : SinkState)
    → ReadPath words path f0 f1 → Refused (StoreInput words.store) refusal (record { before = f1; after = f2 })
    → EndsBy {T = Unit {0}} (walk_spec m words) (over f0 f2 out out) (Err refusal)
store_refused m words path refusal f0 f1 f2 out p h =
    let asks : AsksSome (walk_inputs words) (record { before = f0; after = f2 }) = (
      f1.asked,
      asked_in (PathInput words.path) f0.files f0.files f0 f1 refl p.asked,
      (f2.asked, asked_or_not (StoreInput words.store) f0.files f1 f2 p.files h.asked, refl),
    ) in (
      inl asks,
      (
        inl (record { files = h.files ∙ p.files; held = refl }),
        refused_by (walk_spec m words) (over f0 f2 out out) refusal (risen_before m words (over f0 f2 out out) asks)
            (refusal_at (walk_inputs words) (PathInput words.path ∷ []) (PathContent path ∷ []) (StoreInput words.store) [] refusal
            f0 f1 f2 out refl (λ known. (p.held known, tt)) p.files p.faults h.files h.cause),
      ),
    )

-- the path was read, and the store was opened
pub record HasInputs (words : WalkText) (of : WalkOf) (file : OpenFileState) (f0 f1 f2 : FolderState) : Type 0 where
  pub path_read : TookInput (PathInput words.path) (PathContent of.path) (record { before = f0; after = f1 })
  pub opened : OpensStore words.store of.shape of.depth file (record { before = f1; after = f2 })

both_held : (words : WalkText) (of : WalkOf) (file : OpenFileState) (f0 f1 f2 : FolderState) → HasInputs words of file f0 f1 f2
    → IsSome f0.files → AreHeld f0.files (walk_inputs words) (contents_of of)
both_held words of file f0 f1 f2 h known =
    let there = store_there words.store of.shape of.depth file (record { before = f1; after = f2 }) h.opened (subst IsSome (sym h.path_read.files) known) in
    let holds : Holds f1.files (StoreInput words.store) (StoreContent of.shape of.depth) = record { bytes = there.0; there = there.1; is = there.2 } in (
      h.path_read.held known,
      (subst (λ (files : Option Files). Holds files (StoreInput words.store) (StoreContent of.shape of.depth)) h.path_read.files holds, tt),
    )

-- the frames have too many texels, and the store was closed
pub many_refused : (m : MachineKind) (words : WalkText) (of : WalkOf) (file : OpenFileState) (f0 f1 f2 f3 : FolderState) (out : SinkState)
    → HasInputs words of file f0 f1 f2 → Closed file (record { before = f2; after = f3 }) → most_frame_texels < frame_texels words of
    → EndsBy {T = Unit {0}} (walk_spec m words) (over f0 f3 out out) (Err Usage)
many_refused m words of file f0 f1 f2 f3 out h closed many =
    let took = header_took words.store of.shape of.depth file f1 f2 f3 h.opened closed in
    let same : IsWithoutEffect (over f0 f3 out out) = record { files = took.files ∙ h.path_read.files; held = refl } in (
      inl (
        f1.asked,
        asked_in (PathInput words.path) f0.files f0.files f0 f1 refl h.path_read.asked,
        (f3.asked, asked_in (StoreInput words.store) f0.files f0.files f1 f3 h.path_read.files took.asked, refl),
      ),
      (
        inl same,
        record {
          contents = contents_of of;
          count = refl;
          held = both_held words of file f0 f1 f2 h;
          conflicts = record { of = of; are = refl; stands = many };
          stands = same;
        },
      ),
    )

-- the store's file as a walk sees it
abbrev pub file_of : OpenFileState → Requests.FileState
file_of file = record { name = file.name; asked = file.asked; faults = file.faults }

-- the walk that the words ask for, over these bytes of the store
abbrev pub given_known : MachineKind → WalkText → WalkOf → Option (List ℕ) → WalkGiven
given_known m words of known =
    given_by m.draws (scene_of of.shape of.depth of.path) (settings_of words) (mode_of words.settled)
    known (walk_names words)

-- what was there before a walk, with the store's file that is open
abbrev pub began : WalkText → OpenFileState → FolderState → SinkState → WalkState
began words file f out = record {
  files = f.files;
  held = out.held;
  faults = added f.faults (sum (counts_of (file_of file ∷ [])));
  out_faults = out.faults;
  asked = option_map (λ (asked : Asked). asked words.store ++ places_of (file_of file ∷ [])) f.asked;
}

-- and after it, with no file that is open
abbrev pub ended : WalkText → FolderState → SinkState → WalkState
ended words f out = record {
  files = f.files;
  held = out.held;
  faults = added f.faults (sum (counts_of []));
  out_faults = out.faults;
  asked = option_map (λ (asked : Asked). asked words.store ++ places_of []) f.asked;
}

-- how a walk ended
abbrev pub CameTo : MachineKind → WalkGiven → WalkState → WalkState → Result (Unit {0}) WalkError → Type 0
CameTo m g first last r = MatchResult r (λ _. Finished m.drawn g first last) (WalkLeftBy m.drawn g first last)

header_asked : (store : List ℕ) (asked : Option Asked) (file : OpenFileState) → file.asked ≡ option_map (λ (_ : Asked). header_places) asked
    → option_map (λ (a : Asked). a store ++ places_of (file_of file ∷ [])) asked ≡ option_map (λ (a : Asked). a store ++ header_places) asked
header_asked store None file is = refl
header_asked store (Some a) file is =
    ap (λ (o : Option (List Place)). Some (a store ++ (unwrap_or o [] ++ []))) is
    ∙ ap (λ (places : List Place). Some (a store ++ places)) (append-nil header_places)

none_open : (store : List ℕ) (asked : Option Asked)
    → OnKnown AreSamePlaces (option_map (λ (a : Asked). a store ++ places_of []) asked) (option_map (λ (a : Asked). a store) asked)
none_open store None = tt
none_open store (Some a) =
    subst (λ (places : List Place). OnKnown AreSamePlaces (Some places) (Some (a store))) (sym (append-nil (a store))) (same_places (Some (a store)))

-- how a walk ended, from when its inputs were read
from_inputs : (m : MachineKind) (words : WalkText) (of : WalkOf) (file : OpenFileState) (f0 f1 f2 f3 : FolderState) (out shown : SinkState)
    (r : Result (Unit {0}) WalkError) → HasInputs words of file f0 f1 f2
    → CameTo m (given_known m words of file.bytes) (began words file f2 out) (ended words f3 shown) r
    → CameTo m (walk_given m words of f0.files) (walk_first words f1.asked (over f0 f3 out shown)) (walk_last words (over f0 f3 out shown)) r
from_inputs m words of file f0 f1 f2 f3 out shown r h came =
    let g = walk_given m words of f0.files in
    let last = walk_last words (over f0 f3 out shown) in
    let known : file.bytes ≡ bytes_at f0.files words.store =
    h.opened.bytes ∙ ap (λ (files : Option Files). bytes_at files words.store) h.path_read.files in
    let asked : option_map (λ (a : Asked). a words.store ++ places_of (file_of file ∷ [])) f2.asked
    ≡ option_map (λ (a : Asked). a words.store ++ header_places) f1.asked =
    ap (option_map (λ (a : Asked). a words.store ++ places_of (file_of file ∷ []))) h.opened.no_places
    ∙ header_asked words.store f1.asked file h.opened.asked in
    let first : Option Files → Option (List Place) → WalkState = λ files places. record {
      files = files;
      held = out.held;
      faults = added f2.faults (sum (counts_of (file_of file ∷ [])));
      out_faults = out.faults;
      asked = places;
    } in
    let of_bytes : CameTo m g (began words file f2 out) (ended words f3 shown) r =
    subst (λ (o : Option (List ℕ)). CameTo m (given_known m words of o) (began words file f2 out) (ended words f3 shown) r) known came in
    let of_files : CameTo m g (first f0.files (option_map (λ (a : Asked). a words.store ++ header_places) f1.asked)) (ended words f3 shown) r =
    subst (λ (s : WalkState). CameTo m g s (ended words f3 shown) r) (ap₂ first (h.opened.files ∙ h.path_read.files) asked) of_bytes in
    ends_alike m.drawn g (walk_first words f1.asked (over f0 f3 out shown)) (ended words f3 shown) last alike r
    (ends_from m.drawn g (first f0.files (option_map (λ (a : Asked). a words.store ++ header_places) f1.asked)) (ended words f3 shown)
    (added f0.faults 0) few r of_files)
  where
    alike : IsAlike (ended words f3 shown) (walk_last words (over f0 f3 out shown))
    alike = record { files = refl; held = refl; faults = omega arith; out_faults = refl; asked = none_open words.store f3.asked }

    few : added f0.faults 0 ≤ added f2.faults (sum (counts_of (file_of file ∷ [])))
    few = let path = h.path_read.faults in let opened = h.opened.faults in omega (arith, path, opened)

-- what is known of a walk that was made
pub record WasMade (m : MachineKind) (words : WalkText) (of : WalkOf) (file : OpenFileState) (f0 f1 f2 f3 : FolderState) (out shown : SinkState)
    (r : Result (Unit {0}) WalkError) : Type 0 where
  pub inputs : HasInputs words of file f0 f1 f2
  pub few_texels : frame_texels words of ≤ most_frame_texels
  pub apart : IsApart (walk_names words)
  pub came : CameTo m (given_known m words of file.bytes) (began words file f2 out) (ended words f3 shown) r
  pub few_frames : words.frames < walk_pinned words of → r ≡ Err (walks.TooFewFrames words.frames (walk_pinned words of))
  pub others : AreOtherNamesAsBefore words.store f2.asked f3.asked

asks_walk : (m : MachineKind) (words : WalkText) (of : WalkOf) (file : OpenFileState) (f0 f1 f2 f3 : FolderState) (out shown : SinkState)
    → HasInputs words of file f0 f1 f2 → AreOtherNamesAsBefore words.store f2.asked f3.asked
    → HasWalked m words (contents_of of) (over f0 f3 out shown) ⊎ HasLeft m words (contents_of of) (over f0 f3 out shown)
    → WalkAsks m words (over f0 f3 out shown)
asks_walk m words of file f0 f1 f2 f3 out shown h others stands = inr (record {
  read = f1.asked;
  path = asked_in (PathInput words.path) f0.files f0.files f0 f1 refl h.path_read.asked;
  others = subst (λ (asked : Option Asked). AreOtherNamesAsBefore words.store asked f3.asked) h.opened.no_places others;
  contents = contents_of of;
  held = both_held words of file f0 f1 f2 h;
  stands = stands;
})

-- nothing stands in the way of a finished walk
no_conflict : (m : MachineKind) (words : WalkText) (of : WalkOf) (files : Option Files) (first last : WalkState)
    → frame_texels words of ≤ most_frame_texels → Finished m.drawn (walk_given m words of files) first last
    → (conflict : Conflict) → StandsInWay m words of conflict → ⊥
no_conflict m words of files first last few f (FlawedBeside name flaw) h = h
no_conflict m words of files first last few f ManyTexels h = omega (arith, few, h)
no_conflict m words of files first last few f (FewFrames frames needed) h =
    let enough : walk_pinned words of ≤ words.frames = f.judged in
    let less : frames < needed = h.few in
    omega (arith, enough, less, h.frames_are, h.needed_are)
no_conflict m words of files first last few f (LargePicture picture wanted room) h =
    fits_or_not (walk_given m words of files).setup picture wanted (f.fits h.settled picture h.of_path) h.unfit

-- the walk is finished
walk_done : (m : MachineKind) (words : WalkText) (of : WalkOf) (file : OpenFileState) (f0 f1 f2 f3 : FolderState) (out shown : SinkState)
    → WasMade m words of file f0 f1 f2 f3 out shown (Ok tt) → EndsBy {T = Unit {0}} (walk_spec m words) (over f0 f3 out shown) (Ok tt)
walk_done m words of file f0 f1 f2 f3 out shown made =
    let h = made.inputs in
    let finished = from_inputs m words of file f0 f1 f2 f3 out shown (Ok tt) h made.came in
    let walked : HasWalked m words (contents_of of) (over f0 f3 out shown) = record {
      of = of;
      are = refl;
      read = f1.asked;
      path = asked_in (PathInput words.path) f0.files f0.files f0 f1 refl h.path_read.asked;
      apart = made.apart;
      finished = finished;
    } in (
      asks_walk m words of file f0 f1 f2 f3 out shown h made.others (inl walked),
      record {
        contents = contents_of of;
        count = refl;
        held = both_held words of file f0 f1 f2 h;
        free = λ conflict x.
            no_conflict m words of f0.files (walk_first words f1.asked (over f0 f3 out shown)) (walk_last words (over f0 f3 out shown))
            made.few_texels finished conflict (subst (λ (o : WalkOf). StandsInWay m words o conflict) (sym (same_of of x.of x.are)) x.stands);
        done = walked;
      },
    )

-- why a walk was left, as the specification says it
why_left : (m : MachineKind) (words : WalkText) (of : WalkOf) (file : OpenFileState) (f0 f1 f2 f3 : FolderState) (out shown : SinkState) (error : WalkError)
    → WasMade m words of file f0 f1 f2 f3 out shown (Err error)
    → IsCausedBy m.drawn (walk_given m words of f0.files) (walk_first words f1.asked (over f0 f3 out shown))
    (walk_last words (over f0 f3 out shown)) error
    → IsRefusalBy (walk_spec m words) (over f0 f3 out shown) (refusal_of_walk error)
why_left m words of file f0 f1 f2 f3 out shown (walks.TooFewFrames frames needed) made cause = record {
  contents = contents_of of;
  count = refl;
  held = both_held words of file f0 f1 f2 made.inputs;
  conflicts = record {
    of = of;
    are = refl;
    stands = record { few_texels = made.few_texels; frames_are = cause.frames_are; needed_are = cause.needed_are; few = cause.few };
  };
  stands = record { files = cause.none.files; held = cause.none.held };
}
why_left m words of file f0 f1 f2 f3 out shown (walks.DoesNotFit picture wanted room) made cause = record {
  contents = contents_of of;
  count = refl;
  held = both_held words of file f0 f1 f2 made.inputs;
  conflicts = record {
    of = of;
    are = refl;
    stands = record {
      few_texels = made.few_texels;
      enough = enough (cases_lt words.frames (walk_pinned words of));
      settled = cause.settled;
      of_path = subst (λ (k : ℕ). k < length of.path.cameras) cause.of_picture cause.stands.is_run.1.of_path;
      room_is = cause.room_is;
      unfit = cause.unfit;
      earlier = cause.earlier;
    };
  };
  stands = record {
    of = of;
    are = refl;
    read = f1.asked;
    path = asked_in (PathInput words.path) f0.files f0.files f0 f1 refl made.inputs.path_read.asked;
    apart = made.apart;
    needed = wanted;
    room = room;
    unfit = cause;
  };
}
  where
    enough : (words.frames < walk_pinned words of) ⊎ (walk_pinned words of ≤ words.frames) → walk_pinned words of ≤ words.frames
    enough (inr is) = is
    enough (inl few) =
        let wrong : Err (walks.DoesNotFit picture wanted room) ≡ Err (walks.TooFewFrames words.frames (walk_pinned words of)) = made.few_frames few in
        absurd (cc)
why_left m words of file f0 f1 f2 f3 out shown walks.Failed made (inl (inl rose)) = inl (inl rose)
why_left m words of file f0 f1 f2 f3 out shown walks.Failed made (inl (inr rose)) = inl (inr (inr (inl (record {
  of = of;
  held = both_held words of file f0 f1 f2 made.inputs;
  read = f1.asked;
  path = asked_in (PathInput words.path) f0.files f0.files f0 f1 refl made.inputs.path_read.asked;
  rose = omega (arith, rose);
}))))
why_left m words of file f0 f1 f2 f3 out shown walks.Failed made (inr lost) = inl (inr (inr (inr (record {
  of = of;
  held = both_held words of file f0 f1 f2 made.inputs;
  read = f1.asked;
  path = asked_in (PathInput words.path) f0.files f0.files f0 f1 refl made.inputs.path_read.asked;
  lost = lost;
  rose = let rose = lost.rose in omega (arith, rose);
}))))
why_left m words of file f0 f1 f2 f3 out shown walks.NoMemory made cause = tt

-- the walk was left
walk_left : (m : MachineKind) (words : WalkText) (of : WalkOf) (file : OpenFileState) (f0 f1 f2 f3 : FolderState) (out shown : SinkState) (error : WalkError)
    → WasMade m words of file f0 f1 f2 f3 out shown (Err error)
    → EndsBy {T = Unit {0}} (walk_spec m words) (over f0 f3 out shown) (Err (refusal_of_walk error))
walk_left m words of file f0 f1 f2 f3 out shown error made =
    let h = made.inputs in
    let left = from_inputs m words of file f0 f1 f2 f3 out shown (Err error) h made.came in
    let stopped : HasLeft m words (contents_of of) (over f0 f3 out shown) = record {
      of = of;
      are = refl;
      read = f1.asked;
      path = asked_in (PathInput words.path) f0.files f0.files f0 f1 refl h.path_read.asked;
      apart = made.apart;
      left = left.0;
    } in (
      asks_walk m words of file f0 f1 f2 f3 out shown h made.others (inr stopped),
      (
        inr (record { contents = contents_of of; count = refl; held = both_held words of file f0 f1 f2 h; stopped = stopped }),
        why_left m words of file f0 f1 f2 f3 out shown error made left.1,
      ),
    )

-- the frames have few enough texels where they have not too many
pub not_many : (words : WalkText) (of : WalkOf) (shape : Shape) (many : Bool) → shape ≡ of.shape
    → (most_frame_texels < words.frames * (shape.tile * shape.tile) → IsTrue many) → many ≡ false → frame_texels words of ≤ most_frame_texels
not_many words of shape many same known none =
    subst (λ (s : Shape). words.frames * (s.tile * s.tile) ≤ most_frame_texels) same
    (few (cases_lt most_frame_texels (words.frames * (shape.tile * shape.tile))))
  where
    few : (most_frame_texels < words.frames * (shape.tile * shape.tile)) ⊎ (words.frames * (shape.tile * shape.tile) ≤ most_frame_texels)
        → words.frames * (shape.tile * shape.tile) ≤ most_frame_texels
    few (inr is) = is
    few (inl over) = absurd (false≢true (sym none ∙ known over))

-- where none of five is, the third is not
third_is_no : (a b c d e : Bool) → ((((a || b) || c) || d) || e) ≡ false → c ≡ false
third_is_no false false false d e none = refl
third_is_no false false true d e none = absurd (false≢true (sym none))
third_is_no false true c d e none = absurd (false≢true (sym none))
third_is_no true b c d e none = absurd (false≢true (sym none))

-- where the words' names do not clash, the journal's name is no picture's
pub names_apart : (words : WalkText) → names_clash words.store words.path words.journal words.prefix ≡ false → IsApart (walk_names words)
names_apart words none =
    third_is_no (is_picture_name words.prefix words.store) (is_picture_name words.prefix words.path) (is_picture_name words.prefix words.journal)
    (bytes_eq words.journal words.store) (bytes_eq words.journal words.path) none

-- how a walk ends, by its answer
pub walk_ends : (m : MachineKind) (words : WalkText) (of : WalkOf) (file : OpenFileState) (f0 f1 f2 f3 : FolderState) (out shown : SinkState)
    (walked : Result (Unit {0}) WalkError) (r : Result (Unit {0}) Refusal) → WasMade m words of file f0 f1 f2 f3 out shown walked → IsWalkAnswer walked r
    → EndsBy {T = Unit {0}} (walk_spec m words) (over f0 f3 out shown) r
walk_ends m words of file f0 f1 f2 f3 out shown (Ok tt) r made is =
    subst (λ (a : Result (Unit {0}) Refusal). EndsBy {T = Unit {0}} (walk_spec m words) (over f0 f3 out shown) a) (sym is)
    (walk_done m words of file f0 f1 f2 f3 out shown made)
walk_ends m words of file f0 f1 f2 f3 out shown (Err error) r made is =
    subst (λ (a : Result (Unit {0}) Refusal). EndsBy {T = Unit {0}} (walk_spec m words) (over f0 f3 out shown) a) (sym is)
    (walk_left m words of file f0 f1 f2 f3 out shown error made)

-- How `replay` ends, from what its readers answered and what it left.
use Rattle.std.proofs.Common.{◌≡◌, ◌⊎◌, ℕ, ◌≤◌, List, [], ◌∷◌, ◌++◌, length, take, Option, Some, None, Ok, Err, refl, sym, ap, ap₂, subst, ◌∙◌, inl, inr, arith}
use Rattle.std.specs.Prelude.{Result, OnSome, All}
use Rattle.std.specs.Option.{option_map, IsSome, is_some, unwrap_or}
use Rattle.std.proofs.lemmas.Bool.{false≢true}
use Rattle.std.proofs.lemmas.List.{append-nil}
use Rattle.vt_outside.specs.Counts.{Rose, added}
use Rattle.vt_outside.specs.Files.{Files, Asked, bytes_at, with_places, gained}
use Rattle.vt_outside.specs.declared.place.Place.{Place}
use Rattle.vt_outside.specs.declared.answers.OutsideError.{OutsideError}
use Rattle.vt_outside.specs.declared.answers.OutsideError.TheVariants as outside
use Rattle.vt_pages.specs.Shape.{Shape}
use Rattle.vt_camera.specs.Paths.{PathView}
use Rattle.vt_tiles.specs.StoreViews.{IsStore, IsStoreIfKnown}
use Rattle.vt_walk.specs.JournalText.{Content as Journal}
use Rattle.vt_command_inputs.specs.Effects.{FolderState, SinkState}
use Rattle.vt_outside.specs.Expectations.{with_files, IsPart, FailsOnly, PutsText}
use Rattle.vt_command_inputs.proofs.Writing.{part_whole}
use Rattle.vt_replay.specs.Flaws.{IsFirstRefused}
use Rattle.vt_tiles.specs.Places.{IsTilePlace}
use Rattle.vt_replay.specs.Outcomes.{HoldsReplay, HoldsPart, StoppedReplay, LeavesReplay, IsStoreClosed}
use Rattle.vt_replay.specs.declared.error.ReplayError.{ReplayError}
use Rattle.vt_replay.specs.declared.error.ReplayError.TheVariants as replay
use Rattle.vt_command_words.specs.Replay.{ReplayText}
use Rattle.vt_command_inputs.specs.Lines.{end_line}
use Rattle.vt_command_inputs.specs.Inputs.{Input, StoreInput, PathInput, PagedStore, JournalInput, PathContent, PagedContent, TextContent, header_places}
use Rattle.vt_command_inputs.specs.HeldInputs.{Holds}
use Rattle.vt_command_inputs.specs.Causes.{AreHeld, IsAskedOrNot, AreAskedOrNot}
use Rattle.vt_command_inputs.specs.Reads.{OpenFileState, OpensStore, Closed, TookInput, Refused, IsRefusalCausedBy, IsInputAsked}
use Rattle.vt_command_inputs.specs.Refusals.{IsRefusalOf, cause_of}
use Rattle.vt_command_inputs.specs.CommandSpecs.{FlawedBeside, LeftBySpec, IsRefusalBy, EndsBy}
use Rattle.vt_walk_commands.specs.commands.Replay.{ReplayOf, under_by, contents_of, expected_journal, replay_inputs, replay_closes, replay_spec}
use Rattle.vt_walk_commands.specs.commands.Replay.{RefusedBeside, IsReplayAnswer, flaw_of_replay}
use Rattle.vt_command_inputs.specs.declared.refusal.Refusal.{Refusal}
use Rattle.vt_command_inputs.specs.declared.refusal.Refusal.TheVariants.{NoMemory, Usage, Fault, Flawed, TooFewFrames, DoesNotFit}
use Rattle.vt_command_inputs.proofs.Ending.{refusal_at}
use Rattle.vt_command_inputs.proofs.Opening.{closed_places}
use Rattle.vt_command_inputs.proofs.TaskSpecs.{refused_by}

paged_cause : (name : List ℕ) (refusal : Refusal) (before after : FolderState)
    → IsRefusalCausedBy (StoreInput name) (record { before = before; after = after }) refusal
    → IsRefusalCausedBy (PagedStore name) (record { before = before; after = after }) refusal
paged_cause name NoMemory before after h = tt
paged_cause name Usage before after h = h
paged_cause name (TooFewFrames frames needed) before after h = h
paged_cause name (DoesNotFit picture wanted room) before after h = h
paged_cause name Fault before after (inl rose) = inl rose
paged_cause name Fault before after (inr missing) = inr (record { known = missing.known; none = missing.none })
paged_cause name (Flawed named flaw) before after h = (h.0, h.1, λ known. let f = h.2 known in record { bytes = f.bytes; there = f.there; is = f.is })

paged_held : (name : List ℕ) (shape : Shape) (depth : ℕ) (o : Option (List ℕ)) (files : Option Files) → o ≡ bytes_at files name
    → is_some o ≡ is_some files → ((b : List ℕ) → o ≡ Some b → IsStore b shape depth) → IsSome files
    → Holds files (PagedStore name) (PagedContent shape depth (unwrap_or o []))
paged_held name shape depth None files same known_too is known = absurd (false≢true (known_too ∙ known))
paged_held name shape depth (Some b) files same known_too is known = record { bytes = b; there = sym same; is = (is b refl, refl) }

-- the path was read, and its file closed
abbrev ReadPath : ReplayText → PathView → FolderState → FolderState → Type 0
ReadPath words path f0 f1 = TookInput (PathInput words.path) (PathContent path) (record { before = f0; after = f1 })

abbrev OpenedStore : ReplayText → Shape → ℕ → OpenFileState → FolderState → FolderState → Type 0
OpenedStore words shape depth file f1 f2 = OpensStore words.store shape depth file (record { before = f1; after = f2 })

-- the path was read, the store was opened, and the journal was read
pub record HasInputs (words : ReplayText) (path : PathView) (shape : Shape) (depth : ℕ) (file : OpenFileState) (text : List ℕ)
    (f0 f1 f2 f3 : FolderState) : Type 0 where
  pub path_read : TookInput (PathInput words.path) (PathContent path) (record { before = f0; after = f1 })
  pub opened : OpensStore words.store shape depth file (record { before = f1; after = f2 })
  pub text_read : TookInput (JournalInput words.journal) (TextContent text) (record { before = f2; after = f3 })

-- what the replay is of
abbrev pub replay_of : PathView → Shape → ℕ → OpenFileState → List ℕ → ReplayOf
replay_of path shape depth file text = record { path = path; shape = shape; depth = depth; bytes = unwrap_or file.bytes []; text = text }

path_held : (words : ReplayText) (path : PathView) (f0 f1 : FolderState) → ReadPath words path f0 f1
    → IsSome f0.files → AreHeld f0.files (PathInput words.path ∷ []) (PathContent path ∷ [])
path_held words path f0 f1 p known = (p.held known, tt)

two_held : (words : ReplayText) (path : PathView) (shape : Shape) (depth : ℕ) (file : OpenFileState) (f0 f1 f2 : FolderState)
    → ReadPath words path f0 f1 → OpenedStore words shape depth file f1 f2 → IsSome f0.files
    → AreHeld f0.files (PathInput words.path ∷ PagedStore words.store ∷ []) (PathContent path ∷ PagedContent shape depth (unwrap_or file.bytes []) ∷ [])
two_held words path shape depth file f0 f1 f2 p o known = (
  p.held known,
  (
    subst (λ (files : Option Files). Holds files (PagedStore words.store) (PagedContent shape depth (unwrap_or file.bytes []))) p.files
        (paged_held words.store shape depth file.bytes f1.files o.bytes o.known_too o.is.each (subst IsSome (sym p.files) known)),
    tt,
  ),
)

all_held : (words : ReplayText) (path : PathView) (shape : Shape) (depth : ℕ) (file : OpenFileState) (text : List ℕ) (f0 f1 f2 f3 : FolderState)
    → HasInputs words path shape depth file text f0 f1 f2 f3 → IsSome f0.files
    → AreHeld f0.files (replay_inputs words) (contents_of (replay_of path shape depth file text))
all_held words path shape depth file text f0 f1 f2 f3 h known =
    let two = two_held words path shape depth file f0 f1 f2 h.path_read h.opened known in
    let same : f2.files ≡ f0.files = h.opened.files ∙ h.path_read.files in (
      two.0,
      (
        two.1.0,
        (
          subst (λ (files : Option Files). Holds files (JournalInput words.journal) (TextContent text)) same
              (h.text_read.held (subst IsSome (sym same) known)),
          tt,
        ),
      ),
    )

-- asking
pub asked_in : (input : Input) (files mid : Option Files) (before after : FolderState) → before.files ≡ files
    → IsInputAsked input (record { before = before; after = after }) → IsAskedOrNot files input before.asked after.asked
asked_in input files mid before after same h =
    inr (subst (λ (f : Option Files). IsInputAsked input (record {
      before = record { files = f; asked = before.asked; faults = before.faults };
      after = after;
    })) same h)

pub asked_or_not : (input : Input) (files : Option Files) (before after : FolderState) → before.files ≡ files
    → (after.asked ≡ before.asked) ⊎ IsInputAsked input (record { before = before; after = after }) → IsAskedOrNot files input before.asked after.asked
asked_or_not input files before after same (inl none) = inl none
asked_or_not input files before after same (inr h) = asked_in input files files before after same h

some_mapped : (g : Asked → Asked) (asked : Option Asked) → is_some (option_map g asked) ≡ is_some asked
some_mapped g None = refl
some_mapped g (Some a) = refl

some_after : (files : Option Files) (input : Input) (before after : Option Asked) → IsAskedOrNot files input before after → is_some after ≡ is_some before
some_after files input before after (inl same) = ap is_some same
some_after files input before after (inr h) = ap is_some h.2 ∙ some_mapped _ before

constant : (places : List Place) (a b : Option Asked) → is_some a ≡ is_some b
    → option_map (λ (_ : Asked). places) a ≡ option_map (λ (_ : Asked). places) b
constant places None None same = refl
constant places (Some x) (Some y) same = refl
constant places None (Some y) same = absurd (false≢true same)
constant places (Some x) None same = absurd (false≢true (sym same))

name_known : (P : Type 0) (a b : Option Asked) → is_some a ≡ is_some b → OnSome a P → OnSome b P
name_known P a None same h = tt
name_known P (Some x) (Some y) same h = h
name_known P None (Some y) same h = absurd (false≢true same)

more : (header tiles : List Place) (asked : Option Asked)
    → option_map (λ (old : List Place). old ++ tiles) (option_map (λ (_ : Asked). header) asked) ≡ option_map (λ (_ : Asked). header ++ tiles) asked
more header tiles None = refl
more header tiles (Some a) = refl

-- the store's file was closed after it was asked for its header and then for tiles
store_asked : (words : ReplayText) (shape : Shape) (depth : ℕ) (file : OpenFileState) (files : Option Files) (f1 f2 : FolderState)
    (mid after : Option Asked) (tiles : List Place) → OpenedStore words shape depth file f1 f2 → f1.files ≡ files → is_some mid ≡ is_some f1.asked
    → All (IsTilePlace shape depth) tiles
    → after ≡ option_map (with_places file.name (option_map (λ (old : List Place). old ++ tiles) file.asked)) mid
    → IsAskedOrNot files (PagedStore words.store) mid after
store_asked words shape depth file files f1 f2 mid after tiles o same some are closed = inr (
  header_places ++ tiles,
  inr (
    shape,
    depth,
    tiles,
    subst (λ (known : Option (List ℕ)). IsStoreIfKnown known shape depth) (o.bytes ∙ ap (λ (f : Option Files). bytes_at f words.store) same) o.is,
    are,
    refl,
  ),
  closed ∙ closed_places words.store file.name (header_places ++ tiles) mid (option_map (λ (old : List Place). old ++ tiles) file.asked)
      (ap (option_map (λ (old : List Place). old ++ tiles)) o.asked ∙ more header_places tiles f1.asked
      ∙ constant (header_places ++ tiles) f1.asked mid (sym some))
      (name_known (file.name ≡ words.store) f1.asked mid (sym some) o.name_is),
)

no_tiles : (asked : Option (List Place)) → asked ≡ option_map (λ (old : List Place). old ++ []) asked
no_tiles None = refl
no_tiles (Some places) = ap Some (sym (append-nil places))

-- the path was refused
pub path_refused : (words : ReplayText) (refusal : Refusal) (f0 f1 : FolderState) (out : SinkState)
    → Refused (PathInput words.path) refusal (record { before = f0; after = f1 })
    → EndsBy {T = Unit {0}} (replay_spec words)
    (record { folder = record { before = f0; after = f1 }; out = record { before = out; after = out } }) (Err refusal)
path_refused words refusal f0 f1 out h = (
  (f1.asked, asked_or_not (PathInput words.path) f0.files f0 f1 refl h.asked, (f1.asked, inl refl, (f1.asked, inl refl, refl))),
  (
    inl (record { files = h.files; held = refl }),
    refused_by (replay_spec words) _ refusal (λ rose. rose)
        (refusal_at (replay_inputs words) [] [] (PathInput words.path) (PagedStore words.store ∷ JournalInput words.journal ∷ []) refusal
        f0 f0 f1 out refl (λ known. tt) refl (omega arith) h.files h.cause),
  ),
)

-- the store was refused
pub store_refused : (words : ReplayText) (path : PathView) (refusal : Refusal) (f0 f1 f2 : FolderState) (out : SinkState)
    → ReadPath words path f0 f1 → Refused (StoreInput words.store) refusal (record { before = f1; after = f2 })
    → EndsBy {T = Unit {0}} (replay_spec words)
    (record { folder = record { before = f0; after = f2 }; out = record { before = out; after = out } }) (Err refusal)
store_refused words path refusal f0 f1 f2 out p h = (
  (
    f1.asked,
    asked_in (PathInput words.path) f0.files f0.files f0 f1 refl p.asked,
    (f1.asked, inl refl, (f2.asked, asked_or_not (PagedStore words.store) f0.files f1 f2 p.files (tiled h.asked), refl)),
  ),
  (
    inl (record { files = h.files ∙ p.files; held = refl }),
    refused_by (replay_spec words) _ refusal (λ rose. rose)
        (refusal_at (replay_inputs words) (PathInput words.path ∷ []) (PathContent path ∷ []) (PagedStore words.store) (JournalInput words.journal ∷ []) refusal
        f0 f1 f2 out refl (path_held words path f0 f1 p) p.files p.faults h.files (paged_cause words.store refusal f1 f2 h.cause)),
  ),
)
  where
    tiled : (f2.asked ≡ f1.asked) ⊎ IsInputAsked (StoreInput words.store) (record { before = f1; after = f2 })
        → (f2.asked ≡ f1.asked) ⊎ IsInputAsked (PagedStore words.store) (record { before = f1; after = f2 })
    tiled (inl none) = inl none
    tiled (inr asks) = inr (asks.0, inl asks.1, asks.2)

-- the journal was refused, and the store's file closed
pub journal_refused : (words : ReplayText) (path : PathView) (shape : Shape) (depth : ℕ) (file : OpenFileState) (refusal : Refusal)
    (f0 f1 f2 f4 : FolderState) (out : SinkState)
    → ReadPath words path f0 f1 → OpenedStore words shape depth file f1 f2
    → RefusedBeside words.journal refusal file (record { before = f2; after = f4 })
    → EndsBy {T = Unit {0}} (replay_spec words)
    (record { folder = record { before = f0; after = f4 }; out = record { before = out; after = out } }) (Err refusal)
journal_refused words path shape depth file refusal f0 f1 f2 f4 out p o h =
    ended h.read.after
    (subst (λ (s : FolderState). Refused (JournalInput words.journal) refusal (record { before = s; after = h.read.after })) h.begins h.refused) h.closed
  where
    cause_later : (r : Refusal) (f3 : FolderState) → f3.faults ≤ f4.faults → IsRefusalCausedBy (JournalInput words.journal) (record { before = f2; after = f3 }) r
        → IsRefusalCausedBy (JournalInput words.journal) (record { before = f2; after = f4 }) r
    cause_later NoMemory f3 le c = tt
    cause_later Usage f3 le c = c
    cause_later (TooFewFrames frames needed) f3 le c = c
    cause_later (DoesNotFit picture wanted room) f3 le c = c
    cause_later Fault f3 le (inl rose) = inl (omega (arith, le, rose))
    cause_later Fault f3 le (inr missing) = inr missing
    cause_later (Flawed name flaw) f3 le c = c

    ended : (f3 : FolderState) → Refused (JournalInput words.journal) refusal (record { before = f2; after = f3 })
        → Closed file (record { before = f3; after = f4 })
        → EndsBy {T = Unit {0}} (replay_spec words)
        (record { folder = record { before = f0; after = f4 }; out = record { before = out; after = out } }) (Err refusal)
    ended f3 r c =
        let same : f2.files ≡ f0.files = o.files ∙ p.files in
        let journal = asked_or_not (JournalInput words.journal) f0.files f2 f3 same r.asked in (
          (
            f1.asked,
            asked_in (PathInput words.path) f0.files f0.files f0 f1 refl p.asked,
            (
              f3.asked,
              subst (λ (a : Option Asked). IsAskedOrNot f0.files (JournalInput words.journal) a f3.asked) o.no_places journal,
              (
                f4.asked,
                store_asked words shape depth file f0.files f1 f2 f3.asked f4.asked [] o p.files
                    (some_after f0.files (JournalInput words.journal) f2.asked f3.asked journal
                    ∙ ap is_some o.no_places) (λ k d less. absurd (omega (arith, less)))
                    (c.asked ∙ ap (λ (known : Option (List Place)). option_map (with_places file.name known) f3.asked) (no_tiles file.asked)),
                refl,
              ),
            ),
          ),
          (
            inl (record { files = c.files ∙ r.files ∙ same; held = refl }),
            refused_by (replay_spec words) _ refusal (λ rose. rose)
                (refusal_at (replay_inputs words) (PathInput words.path ∷ PagedStore words.store ∷ [])
                (PathContent path ∷ PagedContent shape depth (unwrap_or file.bytes []) ∷ []) (JournalInput words.journal) [] refusal
                f0 f2 f4 out refl (two_held words path shape depth file f0 f1 f2 p o) same
                (let a : f0.faults ≤ f1.faults = p.faults in let b : f1.faults ≤ f2.faults = o.faults in omega (arith, a, b))
                (c.files ∙ r.files) (cause_later refusal f3 c.kept r.cause)),
          ),
        )

-- what was asked where the journal was replayed
asks_all : (words : ReplayText) (path : PathView) (shape : Shape) (depth : ℕ) (file : OpenFileState) (text : List ℕ) (f0 f1 f2 f3 f4 : FolderState)
    → HasInputs words path shape depth file text f0 f1 f2 f3 → IsStoreClosed shape depth file.name file.asked f3.asked f4.asked
    → AreAskedOrNot f0.files (replay_closes words) f0.asked f4.asked
asks_all words path shape depth file text f0 f1 f2 f3 f4 h c =
    let same : f2.files ≡ f0.files = h.opened.files ∙ h.path_read.files in
    let journal = asked_in (JournalInput words.journal) f0.files f0.files f2 f3 same h.text_read.asked in (
      f1.asked,
      asked_in (PathInput words.path) f0.files f0.files f0 f1 refl h.path_read.asked,
      (
        f3.asked,
        subst (λ (a : Option Asked). IsAskedOrNot f0.files (JournalInput words.journal) a f3.asked) h.opened.no_places journal,
        (
          f4.asked,
          store_asked words shape depth file f0.files f1 f2 f3.asked f4.asked c.places h.opened h.path_read.files
              (some_after f0.files (JournalInput words.journal) f2.asked f3.asked journal ∙ ap is_some h.opened.no_places) c.are c.closed,
          refl,
        ),
      ),
    )

files_kept : (words : ReplayText) (path : PathView) (shape : Shape) (depth : ℕ) (file : OpenFileState) (text : List ℕ) (f0 f1 f2 f3 : FolderState)
    → HasInputs words path shape depth file text f0 f1 f2 f3 → f3.files ≡ f0.files
files_kept words path shape depth file text f0 f1 f2 f3 h = h.text_read.files ∙ h.opened.files ∙ h.path_read.files

bytes_if_known : (o : Option (List ℕ)) (files : Option Files) → is_some o ≡ is_some files → IsSome files → o ≡ Some (unwrap_or o [])
bytes_if_known None files known_too known = absurd (false≢true (known_too ∙ known))
bytes_if_known (Some b) files known_too known = refl

-- the store tells its bytes where the folder tells
bytes_known : (words : ReplayText) (path : PathView) (shape : Shape) (depth : ℕ) (file : OpenFileState) (text : List ℕ) (f0 f1 f2 f3 : FolderState)
    → HasInputs words path shape depth file text f0 f1 f2 f3 → IsSome f0.files → file.bytes ≡ Some (unwrap_or file.bytes [])
bytes_known words path shape depth file text f0 f1 f2 f3 h known =
    bytes_if_known file.bytes f1.files h.opened.known_too (subst IsSome (sym h.path_read.files) known)

-- the pictures of the journal are there
replayed_files : (words : ReplayText) (path : PathView) (shape : Shape) (depth : ℕ) (file : OpenFileState) (text : List ℕ)
    (f0 f1 f2 f3 f4 : FolderState) (journal : Journal) → HasInputs words path shape depth file text f0 f1 f2 f3
    → HoldsReplay (under_by words.filter) shape depth file.bytes path words.prefix journal f3.files f4.files → IsSome f0.files
    → f4.files ≡ option_map (with_files (expected_journal words (replay_of path shape depth file text) journal).files) f0.files
replayed_files words path shape depth file text f0 f1 f2 f3 f4 journal h holds known =
    let expected = (expected_journal words (replay_of path shape depth file text) journal).files in
    holds (unwrap_or file.bytes []) (bytes_known words path shape depth file text f0 f1 f2 f3 h known)
    ∙ ap (option_map (with_files expected)) (files_kept words path shape depth file text f0 f1 f2 f3 h)

part_files : (words : ReplayText) (path : PathView) (shape : Shape) (depth : ℕ) (file : OpenFileState) (text : List ℕ)
    (f0 f1 f2 f3 f4 : FolderState) (journal : Journal) → HasInputs words path shape depth file text f0 f1 f2 f3
    → HoldsPart (under_by words.filter) shape depth file.bytes path words.prefix journal f3.files f4.files → IsSome f0.files
    → IsPart (expected_journal words (replay_of path shape depth file text) journal).files f0.files f4.files
part_files words path shape depth file text f0 f1 f2 f3 f4 journal h holds known =
    let expected = (expected_journal words (replay_of path shape depth file text) journal).files in
    subst (λ (files : Option Files). IsPart expected files f4.files) (files_kept words path shape depth file text f0 f1 f2 f3 h)
    (holds (unwrap_or file.bytes []) (bytes_known words path shape depth file text f0 f1 f2 f3 h known))

-- what is left where the replay was stopped
left_stopped : (words : ReplayText) (path : PathView) (shape : Shape) (depth : ℕ) (file : OpenFileState) (text : List ℕ)
    (f0 f1 f2 f3 f4 : FolderState) (out : SinkState) → HasInputs words path shape depth file text f0 f1 f2 f3
    → StoppedReplay (under_by words.filter) shape depth file.bytes path text words.prefix f3.files f4.files
    → LeftBySpec (replay_spec words) (record { folder = record { before = f0; after = f4 }; out = record { before = out; after = out } })
left_stopped words path shape depth file text f0 f1 f2 f3 f4 out h (inl same) =
    inl (record { files = same ∙ files_kept words path shape depth file text f0 f1 f2 f3 h; held = refl })
left_stopped words path shape depth file text f0 f1 f2 f3 f4 out h (inr s) =
    let of = replay_of path shape depth file text in
    inr (record {
      contents = contents_of of;
      count = refl;
      held = all_held words path shape depth file text f0 f1 f2 f3 h;
      stopped = record {
        of = of;
        are = refl;
        journal = s.0;
        has = s.1;
        files = part_files words path shape depth file text f0 f1 f2 f3 f4 s.0 h s.2;
        out = inl refl;
      };
    })

rise : (a b c d e n : ℕ) → a ≤ b → b ≤ c → c ≤ d → Rose (added d n) e → Rose a e
rise a b c d e n p q r rose = omega (arith, p, q, r, rose)

-- the answer of a replay that was refused
replay_refused : (words : ReplayText) (path : PathView) (shape : Shape) (depth : ℕ) (file : OpenFileState) (text : List ℕ)
    (f0 f1 f2 f3 f4 : FolderState) (out : SinkState) (error : ReplayError) (refusal : Refusal)
    → HasInputs words path shape depth file text f0 f1 f2 f3 → IsStoreClosed shape depth file.name file.asked f3.asked f4.asked
    → LeavesReplay (under_by words.filter) shape depth file.bytes path text words.prefix f3.files f4.files (Err error)
    → (error ≡ replay.Failed → Rose (added f3.faults file.faults) f4.faults)
    → IsRefusalOf words.journal (flaw_of_replay error) refusal
    → EndsBy {T = Unit {0}} (replay_spec words)
    (record { folder = record { before = f0; after = f4 }; out = record { before = out; after = out } }) (Err refusal)
replay_refused words path shape depth file text f0 f1 f2 f3 f4 out (replay.BadJournal line) (Flawed name flaw) h c left failed is =
    let of = replay_of path shape depth file text in
    let same = left.0 ∙ files_kept words path shape depth file text f0 f1 f2 f3 h in (
      asks_all words path shape depth file text f0 f1 f2 f3 f4 h c,
      (
        inl (record { files = same; held = refl }),
        inr (record {
          contents = contents_of of;
          count = refl;
          held = all_held words path shape depth file text f0 f1 f2 f3 h;
          conflicts = record { of = of; are = refl; line = line; is = ap₂ FlawedBeside is.0 is.1; first = left.1 };
          stands = record { files = same; held = refl };
        }),
      ),
    )
replay_refused words path shape depth file text f0 f1 f2 f3 f4 out (replay.BadJournal line) NoMemory h c left failed is = absurd is
replay_refused words path shape depth file text f0 f1 f2 f3 f4 out (replay.BadJournal line) Usage h c left failed is = absurd is
replay_refused words path shape depth file text f0 f1 f2 f3 f4 out (replay.BadJournal line) Fault h c left failed is = absurd is
replay_refused words path shape depth file text f0 f1 f2 f3 f4 out (replay.BadJournal line) (TooFewFrames frames needed) h c left failed is = absurd is
replay_refused words path shape depth file text f0 f1 f2 f3 f4 out (replay.BadJournal line) (DoesNotFit picture wanted room) h c left failed is = absurd is
replay_refused words path shape depth file text f0 f1 f2 f3 f4 out replay.Failed refusal h c left failed is =
    subst (λ (r : Refusal). EndsBy {T = Unit {0}} (replay_spec words)
    (record { folder = record { before = f0; after = f4 }; out = record { before = out; after = out } }) (Err r)) (sym is) (
      asks_all words path shape depth file text f0 f1 f2 f3 f4 h c,
      (
        left_stopped words path shape depth file text f0 f1 f2 f3 f4 out h left,
        inl (inl (rise f0.faults f1.faults f2.faults f3.faults f4.faults file.faults h.path_read.faults h.opened.faults h.text_read.faults (failed refl))),
      ),
    )
replay_refused words path shape depth file text f0 f1 f2 f3 f4 out replay.NoMemory refusal h c left failed is =
    subst (λ (r : Refusal). EndsBy {T = Unit {0}} (replay_spec words)
    (record { folder = record { before = f0; after = f4 }; out = record { before = out; after = out } }) (Err r)) (sym is) (
      asks_all words path shape depth file text f0 f1 f2 f3 f4 h c,
      (left_stopped words path shape depth file text f0 f1 f2 f3 f4 out h left, tt),
    )

-- the pictures are there, and what was put of the end line
line_refused : (words : ReplayText) (path : PathView) (shape : Shape) (depth : ℕ) (file : OpenFileState) (text : List ℕ)
    (f0 f1 f2 f3 f4 : FolderState) (out shown : SinkState) (count pictures : ℕ) (error : OutsideError)
    → HasInputs words path shape depth file text f0 f1 f2 f3 → IsStoreClosed shape depth file.name file.asked f3.asked f4.asked
    → LeavesReplay (under_by words.filter) shape depth file.bytes path text words.prefix f3.files f4.files (Ok count) → pictures ≡ count
    → PutsText {T = Unit {0}} (end_line pictures) (record { before = out; after = shown }) (Err error)
    → EndsBy {T = Unit {0}} (replay_spec words)
    (record { folder = record { before = f0; after = f4 }; out = record { before = out; after = shown } }) (Err (cause_of error))
line_refused words path shape depth file text f0 f1 f2 f3 f4 out shown count pictures error h c left same put =
    let of = replay_of path shape depth file text in
    let all = replayed_files words path shape depth file text f0 f1 f2 f3 f4 left.0 h left.3 in (
      asks_all words path shape depth file text f0 f1 f2 f3 f4 h c,
      (
        inr (record {
          contents = contents_of of;
          count = refl;
          held = all_held words path shape depth file text f0 f1 f2 f3 h;
          stopped = record {
            of = of;
            are = refl;
            journal = left.0;
            has = left.1;
            files = λ known. part_whole (expected_journal words of left.0).files f0.files f4.files (all known);
            out = inr (
              all,
              (
                put.0.0,
                put.0.1 ∙ ap (λ (n : ℕ). option_map (gained (take put.0.0 (end_line n))) out.held) (same ∙ left.2),
              ),
            );
          };
        }),
        why error put.1,
      ),
    )
  where
    why : (e : OutsideError) → FailsOnly (Rose out.faults shown.faults) e
        → IsRefusalBy (replay_spec words) (record { folder = record { before = f0; after = f4 }; out = record { before = out; after = shown } }) (cause_of e)
    why outside.Failed rose = inl (inr rose)
    why outside.NoMemory rose = tt

same_first : (a b : ReplayOf) (line : ℕ) → contents_of a ≡ contents_of b
    → IsFirstRefused b.shape b.path.height (length b.path.cameras) b.text line
    → IsFirstRefused a.shape a.path.height (length a.path.cameras) a.text line
same_first a b line same first =
    let path : b.path ≡ a.path = cc in
    let shape : b.shape ≡ a.shape = cc in
    let text : b.text ≡ a.text = cc in
    subst (λ (s : Shape). IsFirstRefused s a.path.height (length a.path.cameras) a.text line) shape
    (subst (λ (p : PathView). IsFirstRefused b.shape p.height (length p.cameras) a.text line) path
    (subst (λ (t : List ℕ). IsFirstRefused b.shape b.path.height (length b.path.cameras) t line) text first))

replay_done : (words : ReplayText) (path : PathView) (shape : Shape) (depth : ℕ) (file : OpenFileState) (text : List ℕ)
    (f0 f1 f2 f3 f4 : FolderState) (out shown : SinkState) (count pictures : ℕ)
    → HasInputs words path shape depth file text f0 f1 f2 f3 → IsStoreClosed shape depth file.name file.asked f3.asked f4.asked
    → LeavesReplay (under_by words.filter) shape depth file.bytes path text words.prefix f3.files f4.files (Ok count)
    → ((line : ℕ) → IsFirstRefused shape path.height (length path.cameras) text line → ⊥) → pictures ≡ count
    → PutsText {T = Unit {0}} (end_line pictures) (record { before = out; after = shown }) (Ok tt)
    → EndsBy {T = Unit {0}} (replay_spec words)
    (record { folder = record { before = f0; after = f4 }; out = record { before = out; after = shown } }) (Ok tt)
replay_done words path shape depth file text f0 f1 f2 f3 f4 out shown count pictures h c left free same put =
    let of = replay_of path shape depth file text in (
      asks_all words path shape depth file text f0 f1 f2 f3 f4 h c,
      record {
        contents = contents_of of;
        count = refl;
        held = all_held words path shape depth file text f0 f1 f2 f3 h;
        free = λ conflict bad. free bad.line (same_first of bad.of bad.line bad.are bad.first);
        done = record {
          of = of;
          are = refl;
          journal = left.0;
          has = left.1;
          files = replayed_files words path shape depth file text f0 f1 f2 f3 f4 left.0 h left.3;
          out = put ∙ ap (λ (n : ℕ). option_map (gained (end_line n)) out.held) (same ∙ left.2);
        };
      },
    )

-- the same by what the replay answered
pub answer_refused : (words : ReplayText) (path : PathView) (shape : Shape) (depth : ℕ) (file : OpenFileState) (text : List ℕ)
    (f0 f1 f2 f3 f4 : FolderState) (out : SinkState) (played : Result ℕ ReplayError) (refusal : Refusal)
    → HasInputs words path shape depth file text f0 f1 f2 f3 → IsStoreClosed shape depth file.name file.asked f3.asked f4.asked
    → LeavesReplay (under_by words.filter) shape depth file.bytes path text words.prefix f3.files f4.files played
    → (played ≡ Err replay.Failed → Rose (added f3.faults file.faults) f4.faults)
    → IsReplayAnswer words.journal played (Err refusal)
    → EndsBy {T = Unit {0}} (replay_spec words)
    (record { folder = record { before = f0; after = f4 }; out = record { before = out; after = out } }) (Err refusal)
answer_refused words path shape depth file text f0 f1 f2 f3 f4 out (Ok count) refusal h c left failed is = absurd is
answer_refused words path shape depth file text f0 f1 f2 f3 f4 out (Err error) refusal h c left failed is =
    replay_refused words path shape depth file text f0 f1 f2 f3 f4 out error refusal h c left (λ e. failed (ap Err e)) is

pub answer_unknown : (words : ReplayText) (path : PathView) (shape : Shape) (depth : ℕ) (file : OpenFileState) (text : List ℕ)
    (f0 f1 f2 f3 f4 : FolderState) (out shown : SinkState) (played : Result ℕ ReplayError) (pictures : ℕ) (error : OutsideError)
    → HasInputs words path shape depth file text f0 f1 f2 f3 → IsStoreClosed shape depth file.name file.asked f3.asked f4.asked
    → LeavesReplay (under_by words.filter) shape depth file.bytes path text words.prefix f3.files f4.files played → IsReplayAnswer words.journal played (Ok pictures)
    → PutsText {T = Unit {0}} (end_line pictures) (record { before = out; after = shown }) (Err error)
    → EndsBy {T = Unit {0}} (replay_spec words)
    (record { folder = record { before = f0; after = f4 }; out = record { before = out; after = shown } }) (Err (cause_of error))
answer_unknown words path shape depth file text f0 f1 f2 f3 f4 out shown (Ok count) pictures error h c left is put =
    line_refused words path shape depth file text f0 f1 f2 f3 f4 out shown count pictures error h c left is put
answer_unknown words path shape depth file text f0 f1 f2 f3 f4 out shown (Err e) pictures error h c left is put = absurd is

pub answer_known : (words : ReplayText) (path : PathView) (shape : Shape) (depth : ℕ) (file : OpenFileState) (text : List ℕ)
    (f0 f1 f2 f3 f4 : FolderState) (out shown : SinkState) (played : Result ℕ ReplayError) (pictures : ℕ)
    → HasInputs words path shape depth file text f0 f1 f2 f3 → IsStoreClosed shape depth file.name file.asked f3.asked f4.asked
    → LeavesReplay (under_by words.filter) shape depth file.bytes path text words.prefix f3.files f4.files played
    → ((line : ℕ) → IsFirstRefused shape path.height (length path.cameras) text line
    → (played ≡ Err (replay.BadJournal line)) ⊎ (played ≡ Err replay.NoMemory)) → IsReplayAnswer words.journal played (Ok pictures)
    → PutsText {T = Unit {0}} (end_line pictures) (record { before = out; after = shown }) (Ok tt)
    → EndsBy {T = Unit {0}} (replay_spec words)
    (record { folder = record { before = f0; after = f4 }; out = record { before = out; after = shown } }) (Ok tt)
answer_known words path shape depth file text f0 f1 f2 f3 f4 out shown (Ok count) pictures h c left refused is put =
    replay_done words path shape depth file text f0 f1 f2 f3 f4 out shown count pictures h c left
    (λ line first. elim (refused line first) [ inl wrong ↦ absurd (cc) | inr wrong ↦ absurd (cc) ]) is put
answer_known words path shape depth file text f0 f1 f2 f3 f4 out shown (Err e) pictures h c left refused is put = absurd is

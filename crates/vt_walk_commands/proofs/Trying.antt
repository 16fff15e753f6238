-- How a trial ends.
use Rattle.std.proofs.Common.{◌≡◌, ℕ, ◌⊎◌, List, [], ◌∷◌, take, Option, Some, None, true, Result, Ok, Err, refl, sym, ap, subst, ◌∙◌, inl, inr, arith}
use Rattle.std.specs.Prelude.{OnSome, is_some, option_map}
use Rattle.std.specs.Str.{bytes_eq}
use Rattle.std.proofs.lemmas.Bool.{false≢true}
use Rattle.std.proofs.lemmas.Slice.Eq.{bytes_eq-Decides}
use Rattle.vt_outside.specs.Counts.{Rose}
use Rattle.vt_outside.specs.Files.{Files, Asked, bytes_at, with_bytes, gained}
use Rattle.vt_outside.specs.declared.place.Place.{Place}
use Rattle.vt_outside.specs.declared.answers.OutsideError.{OutsideError}
use Rattle.vt_outside.specs.declared.answers.OutsideError.TheVariants as outside
use Rattle.vt_camera.specs.Paths.{PathView}
use Rattle.vt_camera.specs.PathText.{IsPathText}
use Rattle.vt_camera.proofs.PathFields.{path_unique}
use Rattle.vt_mip.specs.Chains.{ChainView, chain_texel}
use Rattle.vt_pages.specs.Shape.{Shape}
use Rattle.vt_tiles.specs.Pages.{refusal_of}
use Rattle.vt_store_commands.specs.ChainStores.{chain_store}
use Rattle.vt_tiles.specs.StoreViews.{IsStore, IsStoreIfKnown}
use Rattle.vt_tiles.proofs.Stored.{stores_open}
use Rattle.vt_walk.specs.Requests as Requests
use Rattle.vt_walk.specs.declared.walk_steps.Walked.{Walked}
use Rattle.vt_walk.specs.Walks.{AreSettings}
use Rattle.vt_walk.specs.Counts.{HasCounts}
use Rattle.vt_walk.specs.States.{AreOpen}
use Rattle.vt_walk.proofs.Rounds.{each_fits}
use Rattle.vt_walk.proofs.Wholeness.{fits_or_not}
use Rattle.vt_command_words.specs.Trial.{TrialText}
use Rattle.vt_command_inputs.specs.Effects.{FolderState, SinkState, SinkEffect, IsWithoutEffect}
use Rattle.vt_outside.specs.Expectations.{FailsOnly, PutsText}
use Rattle.vt_command_inputs.specs.CommandSpecs.{Conflict, FlawedBeside, ManyTexels, FewFrames, LargePicture, IsRefusalBy, EndsBy}
use Rattle.vt_command_inputs.specs.Refusals.{cause_of}
use Rattle.vt_walk_commands.specs.commands.Trial.{trial_shape, trial_path, trial_settings, trial_setup, trial_line, trial_spec, IsTrial, IsFirstUnfit, ConflictsInTrial, IsWalkRefusal, IsTrialRefusal, Compares, TriesOut, beside}
use Rattle.vt_walk_commands.specs.declared.commands.trial.Tried.{Tried}
use Rattle.vt_command_inputs.specs.declared.refusal.Refusal.{Refusal}
use Rattle.vt_command_inputs.specs.declared.refusal.Refusal.TheVariants.{NoMemory, Usage, Fault, Flawed, TooFewFrames, DoesNotFit}

-- a file that was just opened is one that is open
pub fresh_open : (name : List ℕ) (asked : Option Asked) (file : Requests.FileState) → file.asked ≡ option_map (λ _. []) asked
    → OnSome asked (file.name ≡ name) → AreOpen 1 name asked (file ∷ [])
fresh_open name None file is named = record {
  all_known = ap (λ (o : Option (List Place)). is_some o ∷ []) is;
  named = λ some. absurd (false≢true some);
}
fresh_open name (Some a) file is named = record {
  all_known = ap (λ (o : Option (List Place)). is_some o ∷ []) is;
  named = λ some. ap (λ (n : List ℕ). n ∷ []) named;
}

-- the settings of a trial are within their limits
pub settings_lawful : (s : Shape) → s ≡ trial_shape → AreSettings s trial_settings
settings_lawful s is = subst (λ (s : Shape). AreSettings s trial_settings) (sym is) (record {
  frames = record { some = omega arith; few = omega arith; few_texels = omega arith };
  crew = record {
    some_sampler = omega arith;
    few_samplers = omega arith;
    some_loader = omega arith;
    few_loaders = omega arith;
    some_entry = omega arith;
    few_entries = omega arith;
  };
  some_level = omega arith;
})

-- nothing stands in the way of a trial that was made
free : (words : TrialText) (walked : Walked) → IsTrial words.number walked → (conflict : Conflict) → ConflictsInTrial words [] conflict → ⊥
free words walked t (FlawedBeside name flaw) h = h
free words walked t ManyTexels h = h
free words walked t (FewFrames frames needed) h = h
free words walked t (LargePicture picture wanted room) h =
    let same : h.path ≡ t.path = path_unique (trial_path words.number) h.path t.path h.is t.is in
    let first : IsFirstUnfit (trial_setup t.path) picture wanted room =
    subst (λ (path : PathView). IsFirstUnfit (trial_setup path) picture wanted room) same h.first in
    fits_or_not (trial_setup t.path) picture wanted
    (each_fits (trial_setup t.path) t.counts.run refl t.counts.is_run t.counts.whole picture first.of_path) first.unfit

-- the line was put
pub tried : (words : TrialText) (walked : Walked) (differ : ℕ) (folder : FolderState) (out : SinkEffect) → IsTrial words.number walked → differ ≡ 0
    → PutsText {T = Unit {0}} (trial_line words.number walked differ) out (Ok tt) → EndsBy {T = Unit {0}} (trial_spec words) (beside folder out) (Ok tt)
tried words walked differ folder out t none put = (
  refl,
  record {
    contents = [];
    count = refl;
    held = λ known. tt;
    free = free words walked t;
    done = record {
      walked = walked;
      is = t;
      files = refl;
      held = put ∙ ap (λ n. option_map (gained (trial_line words.number walked n)) out.before.held) none;
    };
  },
)

-- a prefix of it was
pub tried_in_part : (words : TrialText) (walked : Walked) (differ : ℕ) (folder : FolderState) (out : SinkEffect) (error : OutsideError)
    → IsTrial words.number walked → differ ≡ 0 → PutsText {T = Unit {0}} (trial_line words.number walked differ) out (Err error)
    → EndsBy {T = Unit {0}} (trial_spec words) (beside folder out) (Err (cause_of error))
tried_in_part words walked differ folder out error t none put = (
  refl,
  (
    inr (record {
      contents = [];
      count = refl;
      held = λ known. tt;
      stopped = record {
        walked = walked;
        is = t;
        files = refl;
        count = put.0.0;
        held = put.0.1 ∙ ap (λ n. option_map (gained (take put.0.0 (trial_line words.number walked n))) out.before.held) none;
      };
    }),
    cause error put.1,
  ),
) where
  cause : (e : OutsideError) → FailsOnly (Rose out.before.faults out.after.faults) e → IsRefusalBy (trial_spec words) (beside folder out) (cause_of e)
  cause outside.Failed rose = inl rose
  cause outside.NoMemory why = tt

untouched : (folder : FolderState) (out : SinkState) → IsWithoutEffect (beside folder (record { before = out; after = out }))
untouched folder out = record { files = refl; held = refl }

-- nothing was put
untried : (words : TrialText) (folder : FolderState) (out : SinkState) (refusal : Refusal) → (path : PathView)
    → IsPathText (trial_path words.number) path → IsWalkRefusal path refusal
    → EndsBy {T = Unit {0}} (trial_spec words) (beside folder (record { before = out; after = out })) (Err refusal)
untried words folder out NoMemory path is why = (refl, (inl (untouched folder out), tt))
untried words folder out Usage path is why = absurd why
untried words folder out Fault path is why = absurd why
untried words folder out (Flawed name flaw) path is why = absurd why
untried words folder out (TooFewFrames frames needed) path is why = absurd why
untried words folder out (DoesNotFit picture wanted room) path is why = (
  refl,
  (
    inl (untouched folder out),
    record {
      contents = [];
      count = refl;
      held = λ known. tt;
      conflicts = record { path = path; is = is; first = why };
      stands = untouched folder out;
    },
  ),
)

own_name : (name : List ℕ) → bytes_eq name name ≡ true
own_name name = (bytes_eq-Decides name name).1 refl

-- the bytes of a name that was just written
pub bytes_written : (name bytes b : List ℕ) (o : Option (List ℕ)) (before after : Option Files) → o ≡ bytes_at after name
    → after ≡ option_map (with_bytes name bytes) before → o ≡ Some b → b ≡ bytes
bytes_written name bytes b o None after is held some = absurd (let none : o ≡ None = is ∙ ap (λ (f : Option Files). bytes_at f name) held in
    false≢true (sym (ap (λ (p : Option (List ℕ)). is_some p) none) ∙ ap (λ (p : Option (List ℕ)). is_some p) some))
bytes_written name bytes b o (Some files) after is held some =
    let at : o ≡ with_bytes name bytes files name = is ∙ ap (λ (f : Option Files). bytes_at f name) held in
    let own : with_bytes name bytes files name ≡ Some bytes = rw (own_name name) refl in
    let same : Some b ≡ Some bytes = sym some ∙ at ∙ own in cc

-- a trial was refused before its line
pub refused : (words : TrialText) (folder : FolderState) (out : SinkState) (refusal : Refusal) → (refusal ≡ NoMemory) ⊎ IsTrialRefusal words.number refusal
    → EndsBy {T = Unit {0}} (trial_spec words) (beside folder (record { before = out; after = out })) (Err refusal)
refused words folder out refusal (inl is) =
    subst (λ (r : Refusal). EndsBy {T = Unit {0}} (trial_spec words) (beside folder (record { before = out; after = out })) (Err r)) (sym is)
    (refl, (inl (untouched folder out), tt))
refused words folder out refusal (inr why) = untried words folder out refusal why.0 why.1 why.2

-- the name holds the store of a chain of one-byte samples
pub store_written : (name : List ℕ) (chain : ChainView) (shape : Shape) (o : Option (List ℕ)) (before after : Option Files) → o ≡ bytes_at after name
    → after ≡ option_map (with_bytes name (chain_store chain shape)) before → chain.base.depth ≡ 1 → refusal_of shape ≡ None → IsStoreIfKnown o shape 1
store_written name chain shape o before after is held depth accepted = record {
  each = λ bytes known.
      subst (λ (b : List ℕ). IsStore b shape 1) (sym (bytes_written name (chain_store chain shape) bytes o before after is held known))
      (subst (λ d. IsStore (chain_store chain shape) shape d) depth (stores_open shape chain.base.depth (chain_texel chain) (inl depth) accepted));
}

-- a walk that was compared with the plain pictures
pub compared : (number : ℕ) (path : PathView) (walked : Walked) (r : Result Tried Refusal) → IsPathText (trial_path number) path
    → HasCounts (trial_setup path) walked → Compares walked r → TriesOut number r
compared number path walked (Ok tried) is counts h =
    (record { path = path; is = is; counts = subst (HasCounts (trial_setup path)) (sym h.0) counts }, h.1)
compared number path walked (Err refusal) is counts h = inl h

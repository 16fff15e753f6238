-- A walk before its first pass.
use Rattle.std.proofs.Common.{◌≡◌, ℕ, suc, ◌+◌, ◌-◌, ◌≤◌, ◌⊎◌, inl, inr, List, [], ◌∷◌, ◌++◌, sum, take, Option, Some, None, refl, sym, ap, ◌∙◌, subst, arith}
use Rattle.std.specs.Prelude.{option_map, IsSome, unwrap_or, sum_by}
use Rattle.std.specs.List.{range_with_len}
use Rattle.std.proofs.lemmas.Bool.{false≢true}
use Rattle.std.proofs.lemmas.Grind.{flat_map-append}
use Rattle.std.proofs.lemmas.List.{append-nil}
use Rattle.std.proofs.lemmas.List.Sums.{sum_by-cons}
use mathlib.Core.Path.{fun_ext}
use Rattle.vt_outside.specs.Counts.{added, Rose}
use Rattle.vt_outside.specs.Files.{Files, Asked, with_bytes, IsThere}
use Rattle.vt_outside.specs.Places.{times_asked, times_failed}
use Rattle.vt_outside.specs.declared.place.Place.{Place}
use Rattle.vt_outside.specs.declared.answers.OutsideError.{OutsideError}
use Rattle.vt_outside.specs.declared.answers.OutsideError.TheVariants.{Failed, NoMemory}
use Rattle.vt_pages.specs.Shape.{Shape}
use Rattle.vt_pages.specs.Pages.{pages_of}
use Rattle.vt_journal.specs.Changes.{Pinned}
use Rattle.vt_journal.specs.declared.changes.Change.{Change}
use Rattle.vt_journal.specs.JournalText.{head_text, pinned_changes}
use Rattle.vt_tiles.specs.Format.{tile_start, tile_length}
use Rattle.vt_tiles.specs.StoreViews.{IsStoreIfKnown}
use Rattle.vt_evict.specs.PlanTypes.batches.Planned.{Planned}
use Rattle.vt_plan.specs.Views.{RecencyView, first_view}
use Rattle.vt_walk_decisions.specs.Drawings.{Drawing}
use Rattle.vt_walk_decisions.specs.Requests.{FileState, AllKnown, counts_of}
use Rattle.vt_walk_decisions.specs.Machines.{MachineState}
use Rattle.vt_walk_decisions.specs.declared.error.WalkError.{WalkError}
use Rattle.vt_walk_decisions.specs.declared.input.WalkInput.{WalkInput}
use Rattle.vt_walk_decisions.specs.Refusals.{walk_refusal_by}
use Rattle.vt_walk.specs.DrawnBy.{PictureDrawn}
use Rattle.vt_walk.specs.Walks.{WalkGiven}
use Rattle.vt_walk.specs.States.{WalkState, places_of}
use Rattle.vt_walk.specs.Reads.{AreAskedFor, AreAskedAtMostFor, OnKnown, lost_reads}
use Rattle.vt_walk.specs.Placing.{with_pinned}
use Rattle.vt_walk.specs.Beginnings.{IsBegun, AreKnown}
use Rattle.vt_walk.specs.Causes.{IsCausedBy, reads_lost}
use Rattle.vt_walk.specs.WalkInputs.{IsWalkInput, given_of}
use Rattle.vt_walk.specs.WalkSteps.{IsGiven, StandsFirst, LeftByRefusal}
use Rattle.vt_walk.proofs.Asking.{count_both}
use Rattle.vt_walk.proofs.Asks.{with_open, times_with, failed_with, asked_of, failed_of, sum-one, known_more}
use Rattle.vt_walk.proofs.Failing.{has_broken}
use Rattle.vt_walk.proofs.Passing.{state_of}
use Rattle.vt_walk.proofs.Steps.{gained_none}
use Rattle.vt_walk.proofs.RunContents.{run_is_pinned}

-- an input whose frames are enough is a walk within its limits
pub is_given : (draws : Drawing)
    (t : WalkInput) (known : Option (List ℕ)) → IsWalkInput t → t.pinned ≤ t.settings.frames → IsStoreIfKnown known t.geometry.now t.depth
    → IsGiven (given_of draws t known)
is_given draws t known h frames store = record {
  setup = record {
    limits = h.limits;
    most_frames = h.settings.frames.few;
    some_pinned = let p = h.pages in let s = h.some in omega (arith, p, s);
    enough_frames = let p = h.pages in omega (arith, p, frames);
    enough_pages = let p = h.pages in let e = h.enough in omega (arith, p, e);
    few_samplers = h.settings.crew.few_samplers;
    some_entry = h.settings.crew.some_entry;
  };
  limits = h.limits;
  store = store;
  depth = h.depth;
}

sum_both : (f h : ℕ → ℕ) (xs : List ℕ) → sum_by (λ x. f x + h x) xs ≡ sum_by f xs + sum_by h xs
sum_both f h [] = refl
sum_both f h (x ∷ xs) = omega (arith, sum_by-cons (λ (y : ℕ). f y + h y) x xs, sum_by-cons f x xs, sum_by-cons h x xs, sum_both f h xs)

-- failed reads of unpinned tiles add up
lost_both : (s : Shape) (d pinned : ℕ) (xs ys : List Place) → lost_reads s d pinned (xs ++ ys) ≡ lost_reads s d pinned xs + lost_reads s d pinned ys
lost_both s d pinned xs ys =
    let in_both : ℕ → ℕ = λ p. times_failed (tile_start s d p) (tile_length s d) (xs ++ ys) in
    let in_each : ℕ → ℕ = λ p. times_failed (tile_start s d p) (tile_length s d) xs + times_failed (tile_start s d p) (tile_length s d) ys in
    let each : in_both ≡ in_each = fun_ext (λ p. count_both _ xs ys) in
    ap (λ (f : ℕ → ℕ). sum_by f (range_with_len 0 (pages_of s - pinned))) each
    ∙ sum_both (λ p. times_failed (tile_start s d p) (tile_length s d) xs) (λ p. times_failed (tile_start s d p) (tile_length s d) ys)
    (range_with_len 0 (pages_of s - pinned))

places_one : (f : FileState) (files : List FileState) → places_of (f ∷ files) ≡ unwrap_or f.asked [] ++ places_of files
places_one f files =
    flat_map-append (λ (x : FileState). unwrap_or x.asked []) (f ∷ []) files ∙ ap (λ (l : List Place). l ++ places_of files) (append-nil (unwrap_or f.asked []))

lost_with : (s : Shape) (d pinned : ℕ) (before : List Place) (f : FileState) (files : List FileState) → lost_reads s d pinned (before ++ places_of (f ∷ files))
    ≡ lost_reads s d pinned before + (lost_reads s d pinned (unwrap_or f.asked []) + lost_reads s d pinned (places_of files))
lost_with s d pinned before f files =
    omega (
      arith,
      lost_both s d pinned before (places_of (f ∷ files)),
      ap (lost_reads s d pinned) (places_one f files),
      lost_both s d pinned
          (unwrap_or f.asked []) (places_of files),
    )

asked_is : (f : FileState) (places : List Place) → f.asked ≡ Some places → unwrap_or f.asked [] ≡ places
asked_is f places is = ap (λ (o : Option (List Place)). unwrap_or o []) is

-- what one of the open files was asked
module _ (s : Shape) (d pinned : ℕ) (store : List ℕ) (kept now : FileState) (files : List FileState) where
  one_asks : (planned lost : List Planned) (asked : Option Asked) (a b : Option (List Place)) → kept.asked ≡ a → now.asked ≡ b → (IsSome asked → IsSome a)
      → OnKnown (AreAskedFor s d pinned planned lost) a b → OnKnown (AreAskedFor s d pinned planned lost) (with_open store (kept ∷ files) asked)
      (with_open store (now ∷ files) asked)
  one_asks planned lost None a b is are all_known asks = tt
  one_asks planned lost (Some places) None b is are all_known asks = absurd (false≢true (all_known refl))
  one_asks planned lost (Some places) (Some x) None is are all_known asks = absurd asks
  one_asks planned lost (Some places) (Some x) (Some y) is are all_known asks = record {
    asked = λ at len. omega (
      arith,
      times_with at len (places store) (kept ∷ files),
      times_with at len (places store) (now ∷ files),
      asked_of at len kept files,
      asked_of at len now files,
      ap (times_asked at len) (asked_is kept x is),
      ap (times_asked at len) (asked_is now y are),
      asks.asked at len,
    );
    failed = λ at len. omega (
      arith,
      failed_with at len (places store) (kept ∷ files),
      failed_with at len (places store) (now ∷ files),
      failed_of at len kept files,
      failed_of at len now files,
      ap (times_failed at len) (asked_is kept x is),
      ap (times_failed at len) (asked_is now y are),
      asks.failed at len,
    );
  }

  one_asks_most : (planned : List Planned) (asked : Option Asked) (a b : Option (List Place)) → kept.asked ≡ a → now.asked ≡ b → (IsSome asked → IsSome a)
      → OnKnown (AreAskedAtMostFor s d pinned planned) a b → OnKnown (AreAskedAtMostFor s d pinned planned) (with_open store (kept ∷ files) asked)
      (with_open store (now ∷ files) asked)
  one_asks_most planned None a b is are all_known asks = tt
  one_asks_most planned (Some places) None b is are all_known asks = absurd (false≢true (all_known refl))
  one_asks_most planned (Some places) (Some x) None is are all_known asks = absurd asks
  one_asks_most planned (Some places) (Some x) (Some y) is are all_known asks = λ at len. omega (
    arith,
    times_with at len (places store) (kept ∷ files),
    times_with at len (places store) (now ∷ files),
    asked_of at len kept files,
    asked_of at len now files,
    ap (times_asked at len) (asked_is kept x is),
    ap (times_asked at len) (asked_is now y are),
    asks at len,
  )

  abbrev IsLostAlike : List Place → List Place → Type 0
  IsLostAlike old new = lost_reads s d pinned new ≡ lost_reads s d pinned old

  one_loses : (asked : Option Asked) (a b : Option (List Place)) → kept.asked ≡ a → now.asked ≡ b → (IsSome asked → IsSome a)
      → OnKnown IsLostAlike a b → OnKnown IsLostAlike (with_open store (kept ∷ files) asked) (with_open store (now ∷ files) asked)
  one_loses None a b is are all_known same = tt
  one_loses (Some places) None b is are all_known same = absurd (false≢true (all_known refl))
  one_loses (Some places) (Some x) None is are all_known same = absurd same
  one_loses (Some places) (Some x) (Some y) is are all_known same = omega (
    arith,
    lost_with s d pinned (places store) kept files,
    lost_with s d pinned (places store) now files,
    ap (lost_reads s d pinned) (asked_is kept x is),
    ap (lost_reads s d pinned) (asked_is now y are),
    same,
  )

none_lost : (g : WalkGiven) (a b : Option (List Place)) → OnKnown
    (λ old new. lost_reads g.scene.shape g.scene.depth g.setup.pinned new ≡ lost_reads g.scene.shape g.scene.depth g.setup.pinned old) a b
    → reads_lost g a b ≡ 0
none_lost g None None same = refl
none_lost g None (Some b) same = absurd same
none_lost g (Some a) None same = absurd same
none_lost g (Some a) (Some b) same = omega (arith, same)

-- the first file of open ones tells its places
first_known_too : (asked : Option Asked) (f : FileState) (files : List FileState) → AreKnown asked (f ∷ files) → IsSome asked → IsSome f.asked
first_known_too asked f files known some = known some 0 f (omega arith)

-- and so do the others
others_known : (asked : Option Asked) (f : FileState) (files : List FileState) → AreKnown asked (f ∷ files) → IsSome asked → AllKnown files
others_known asked f files known some = λ k d inside. known some (suc k) d (omega (arith, inside))

module _ (draws : Drawing)
    (drawn : PictureDrawn) (t : WalkInput) (known : Option (List ℕ)) (d : ℕ) (store : List ℕ) (kept now : FileState)
    (files : Option Files) (asked : Option Asked) (faults : ℕ) (m n : MachineState) (held : Option (List ℕ)) (out_faults : ℕ)
    (input : IsWalkInput t) (frames : t.pinned ≤ t.settings.frames) (is_store : IsStoreIfKnown known t.geometry.now d) (depth : d ≡ t.depth)
    (begins : IsBegun (given_of draws t known) m) (known_too : AreKnown asked (kept ∷ m.files)) where
  abbrev given : WalkGiven
  given = given_of draws t known

  abbrev was : WalkState
  was = state_of files asked faults store (kept ∷ m.files) held out_faults

  abbrev later : Option Files → Option Asked → ℕ → WalkState
  later new opened rose = state_of new opened rose store (now ∷ n.files) held out_faults

  pub walk_given : IsGiven given
  walk_given = is_given draws t known input frames (subst (IsStoreIfKnown known t.geometry.now) depth is_store)

  -- the pinned pages are those of the input
  pub pages_pinned : (changes : List Change) → n ≡ with_pinned t.geometry.now t.pinned m → changes ≡ n.journal → Pinned t.geometry.now changes t.pinned
  pages_pinned changes placed are =
      let is : pinned_changes t.geometry.now given.setup.pinned ≡ changes =
      ap (pinned_changes t.geometry.now) (sym input.pages) ∙ sym (ap (λ (x : MachineState). x.journal) placed) ∙ sym are in
      subst (λ k. Pinned t.geometry.now changes k) (sym input.pages)
      (subst (λ (js : List Change). Pinned t.geometry.now js given.setup.pinned) is (run_is_pinned given.setup [] walk_given.setup tt))

  more_faults : (rose : ℕ) → n.files ≡ m.files → kept.faults ≤ now.faults → faults ≤ rose
      → added faults (sum (counts_of (kept ∷ m.files))) ≤ added rose (sum (counts_of (now ∷ n.files)))
  more_faults rose same grown risen =
      let e : sum (counts_of n.files) ≡ sum (counts_of m.files) = ap (λ (fs : List FileState). sum (counts_of fs)) same in
      omega (arith, sum-one kept.faults (counts_of m.files), sum-one now.faults (counts_of n.files), e, grown, risen)

  asks_for : n.files ≡ m.files → OnKnown (AreAskedFor t.geometry.now d t.pinned [] []) kept.asked now.asked
      → OnKnown (AreAskedFor t.geometry.now t.depth given.setup.pinned [] []) (with_open store (kept ∷ m.files) asked) (with_open store (now ∷ n.files) asked)
  asks_for same asks =
      subst (λ (fs : List FileState). OnKnown (AreAskedFor t.geometry.now t.depth given.setup.pinned [] []) (with_open store (kept ∷ m.files) asked)
      (with_open store (now ∷ fs) asked)) (sym same)
      (one_asks t.geometry.now t.depth given.setup.pinned store kept now m.files [] [] asked kept.asked now.asked refl refl
      (first_known_too asked kept m.files known_too)
      (subst (λ k. OnKnown (AreAskedFor t.geometry.now t.depth k [] []) kept.asked now.asked) input.pages
      (subst (λ k. OnKnown (AreAskedFor t.geometry.now k t.pinned [] []) kept.asked now.asked) depth asks)))

  -- a pinned page could not be placed
  pub pinned_broke : n.files ≡ m.files → OnKnown (AreAskedAtMostFor t.geometry.now d t.pinned []) kept.asked now.asked
      → OnKnown (λ old new. lost_reads t.geometry.now d t.pinned new ≡ lost_reads t.geometry.now d t.pinned old) kept.asked now.asked
      → kept.faults ≤ now.faults → (error : OutsideError) (e : WalkError) → (error ≡ Failed → Rose kept.faults now.faults) → e ≡ walk_refusal_by error
      → LeftByRefusal drawn given was (later files asked faults) e
  pinned_broke same asks lost grown error e failed is =
      let all_known = first_known_too asked kept m.files known_too in
      let most : OnKnown (AreAskedAtMostFor t.geometry.now t.depth given.setup.pinned []) (with_open store (kept ∷ m.files) asked)
      (with_open store (now ∷ n.files) asked) =
      subst (λ (fs : List FileState). OnKnown (AreAskedAtMostFor t.geometry.now t.depth given.setup.pinned []) (with_open store (kept ∷ m.files) asked)
      (with_open store (now ∷ fs) asked)) (sym same)
      (one_asks_most t.geometry.now t.depth given.setup.pinned store kept now m.files [] asked kept.asked now.asked refl refl all_known
      (subst (λ k. OnKnown (AreAskedAtMostFor t.geometry.now t.depth k []) kept.asked now.asked) input.pages
      (subst (λ k. OnKnown (AreAskedAtMostFor t.geometry.now k t.pinned []) kept.asked now.asked) depth asks))) in (
        inl (record { files = inl refl; held = refl; asked = most; faults = more_faults faults same grown (omega arith); out_faults = omega arith }),
        subst (IsCausedBy drawn given was (later files asked faults)) (sym is) (cause error failed),
      ) where
        none : reads_lost given (with_open store (kept ∷ m.files) asked) (with_open store (now ∷ n.files) asked) ≡ 0
        none = none_lost given (with_open store (kept ∷ m.files) asked) (with_open store (now ∷ n.files) asked)
            (subst (λ (fs : List FileState). OnKnown (IsLostAlike t.geometry.now t.depth given.setup.pinned store kept now m.files)
            (with_open store (kept ∷ m.files) asked) (with_open store (now ∷ fs) asked)) (sym same)
            (one_loses t.geometry.now t.depth given.setup.pinned store kept now m.files asked kept.asked now.asked refl refl
            (first_known_too asked kept m.files known_too)
            (subst (λ k. OnKnown (λ old new. lost_reads t.geometry.now t.depth k new ≡ lost_reads t.geometry.now t.depth k old) kept.asked now.asked) input.pages
            (subst (λ k. OnKnown (λ old new. lost_reads t.geometry.now k t.pinned new ≡ lost_reads t.geometry.now k t.pinned old) kept.asked now.asked)
            depth lost))))

        cause : (error : OutsideError) → (error ≡ Failed → Rose kept.faults now.faults)
            → IsCausedBy drawn given was (later files asked faults) (walk_refusal_by error)
        cause NoMemory failed = tt
        cause Failed failed =
            let rose = failed refl in
            let same_sum : sum (counts_of n.files) ≡ sum (counts_of m.files) = ap (λ (fs : List FileState). sum (counts_of fs)) same in
            inl (inr (omega (arith, sum-one kept.faults (counts_of m.files), sum-one now.faults (counts_of n.files), same_sum, rose, none)))

  -- the journal was not begun
  pub head_broke : (new : Option Files) (opened : Option Asked) (rose : ℕ) → n.files ≡ m.files
      → OnKnown (AreAskedFor t.geometry.now d t.pinned [] []) kept.asked now.asked
      → kept.faults ≤ now.faults → (new ≡ files) ⊎ ((k : ℕ) ×
      (new ≡ option_map (with_bytes t.names.journal.now (take k (head_text t.geometry.now t.pinned))) files))
      → opened ≡ asked → faults ≤ rose → (error : OutsideError) (e : WalkError) → (error ≡ Failed → Rose faults rose) → e ≡ walk_refusal_by error
      → LeftByRefusal drawn given was (later new opened rose) e
  head_broke new opened rose same asks grown part kept_asked risen error e failed is =
      let exact = asks_for same asks in
      let exactly : OnKnown (AreAskedFor t.geometry.now t.depth given.setup.pinned [] []) (with_open store (kept ∷ m.files) asked)
      (with_open store (now ∷ n.files) opened) =
      subst (λ (a : Option Asked). OnKnown (AreAskedFor t.geometry.now t.depth given.setup.pinned [] []) (with_open store (kept ∷ m.files) asked)
      (with_open store (now ∷ n.files) a)) (sym kept_asked) exact in (
        inl (record {
          files = subst (λ k. (new ≡ files) ⊎ ((j : ℕ) × (new ≡ option_map (with_bytes t.names.journal.now (take j (head_text t.geometry.now k)))
              files))) input.pages part;
          held = refl;
          asked = known_more (AreAskedFor t.geometry.now t.depth given.setup.pinned [] []) (AreAskedAtMostFor t.geometry.now t.depth given.setup.pinned [])
              (with_open store (kept ∷ m.files) asked) (with_open store (now ∷ n.files) opened) (λ x y a at len. omega (arith, a.asked at len)) exactly;
          faults = more_faults rose same grown risen;
          out_faults = omega arith;
        }),
        subst (IsCausedBy drawn given was (later new opened rose)) (sym is) (cause error failed exactly),
      ) where
        cause : (error : OutsideError) → (error ≡ Failed → Rose faults rose)
            → OnKnown (AreAskedFor t.geometry.now t.depth given.setup.pinned [] []) (with_open store (kept ∷ m.files) asked)
            (with_open store (now ∷ n.files) opened)
            → IsCausedBy drawn given was (later new opened rose) (walk_refusal_by error)
        cause NoMemory failed exactly = tt
        cause Failed failed exactly =
            let rises = failed refl in
            let same_sum : sum (counts_of n.files) ≡ sum (counts_of m.files) = ap (λ (fs : List FileState). sum (counts_of fs)) same in
            inl (has_broken given [] [] was (later new opened rose) walk_given exactly
            (omega (arith, sum-one kept.faults (counts_of m.files), sum-one now.faults (counts_of n.files), same_sum, rises, grown)))

  -- the journal's head is there
  pub head_stands : (new : Option Files) (opened : Option Asked) (rose : ℕ) (v : RecencyView) → n ≡ with_pinned t.geometry.now t.pinned m
      → OnKnown (AreAskedFor t.geometry.now d t.pinned [] []) kept.asked now.asked → kept.faults ≤ now.faults
      → new ≡ option_map (with_bytes t.names.journal.now (head_text t.geometry.now t.pinned)) files → IsThere new t.names.journal.now
      → opened ≡ asked → faults ≤ rose → v ≡ first_view t.geometry.now t.settings.frames t.pinned
      → StandsFirst drawn given was (later new opened rose) n v
  head_stands new opened rose v placed asks grown whole there kept_asked risen view =
      let same : n.files ≡ m.files = ap (λ (x : MachineState). x.files) placed in
      let exact = asks_for same asks in record {
        given = walk_given;
        stands = record {
          is_run = tt;
          reached = refl;
          written = tt;
          files = λ apart. whole ∙ ap (λ (text : List ℕ). option_map (with_bytes t.names.journal.now text) files)
              (ap (head_text t.geometry.now) input.pages ∙ sym (append-nil (head_text t.geometry.now given.setup.pinned)));
          there = there;
          held = gained_none held;
          asked = subst (λ (a : Option Asked). OnKnown (AreAskedFor t.geometry.now t.depth given.setup.pinned [] [])
              (with_open store (kept ∷ m.files) asked) (with_open store (now ∷ n.files) a)) (sym kept_asked) exact;
          faults = let f = more_faults rose same grown risen in omega (arith, f);
          out_faults = omega arith;
        };
        at_run = record {
          is_run = tt;
          setup = ap (λ (x : MachineState). x.setup) placed ∙ begins.setup;
          journal = ap (λ (x : MachineState). x.journal) placed ∙ ap (pinned_changes t.geometry.now) input.pages;
          recency = view ∙ ap (first_view t.geometry.now t.settings.frames) input.pages;
        };
        all_known = λ some. subst AllKnown (sym same) (others_known asked kept m.files known_too
            (folder_known asked (subst (λ (a : Option Asked). IsSome (with_open store (now ∷ n.files) a)) kept_asked some)));
      } where
        folder_known : (asked : Option Asked) → IsSome (with_open store (now ∷ n.files) asked) → IsSome asked
        folder_known None some = some
        folder_known (Some places) some = refl

-- How a walk that opens files and closes them begins and ends.
use Rattle.std.proofs.Common.{◌≡◌, ℕ, zero, suc, ◌≤◌, inl, inr, Bool, true, List, [], ◌∷◌, ◌++◌, map, sum, Option, Some, None, Result, refl, sym, ap, ◌∙◌, subst, arith}
use Rattle.std.specs.Prelude.{MatchResult, IsSome, is_some, option_map, unwrap_or, replicate}
use Rattle.std.specs.List.{AllByRecursion}
use Rattle.std.proofs.lemmas.Bool.{false≢true}
use Rattle.std.proofs.lemmas.List.Elements.{All-from_recursion}
use Rattle.vt_outside.specs.Counts.{added, Rose, RoseBy}
use Rattle.vt_outside.specs.Files.{Files, Asked, IsThere, bytes_at}
use Rattle.vt_outside.specs.declared.place.Place.{Place}
use Rattle.vt_outside.specs.declared.answers.OutsideError.{OutsideError}
use Rattle.vt_outside.specs.declared.answers.OutsideError.TheVariants.{Failed as Fault, NoMemory as NoRoom}
use Rattle.vt_outside.specs.declared.outside.Folder.{Ghosts as FolderMeanings}
use Rattle.vt_walk_decisions.specs.Requests.{FileState, AreSameFiles, counts_of}
use Rattle.vt_walk_decisions.specs.declared.error.WalkError.{WalkError}
use Rattle.vt_walk_decisions.specs.declared.error.WalkError.TheVariants.{NoMemory}
use Rattle.vt_walk_decisions.specs.Refusals.{walk_refusal_by}
use Rattle.vt_walk.specs.DrawnBy.{PictureDrawn}
use Rattle.vt_walk.specs.Walks.{WalkGiven}
use Rattle.vt_walk.specs.States.{WalkState, AreOpen, places_of, walk_state}
use Rattle.vt_walk.specs.Reads.{AreAskedAtMostFor, OnKnown}
use Rattle.vt_walk.specs.Standing.{Finished}
use Rattle.vt_walk.specs.Leaving.{Left}
use Rattle.vt_walk.specs.Causes.{reads_lost, HasFailed, IsCausedBy}
use Rattle.vt_walk.specs.Beginnings.{AreKnown, IsSameFile}
use Rattle.vt_walk.specs.Closing.{with_closed, AreOtherNamesAsBefore, HasClosed}
use Rattle.vt_walk.specs.WalkSteps.{LeftByRefusal}
use Rattle.vt_walk.proofs.Asks.{sum-one}
use Rattle.vt_walk.proofs.Closings.{AreSamePlaces, IsAlike, alike_itself, closed_alike, same_open}
use Rattle.vt_walk.proofs.Alike.{ends_alike}
use Rattle.vt_walk.proofs.Earlier.{ends_from}

-- where the folder tells its places, open files do so
known_all : (n : ℕ) (opened : List FileState) → map (λ f. is_some f.asked) opened ≡ replicate n true → AllByRecursion (λ f. IsSome f.asked) opened
known_all n [] same = tt
known_all zero (f ∷ opened) same = let no : ⊥ = cc in absurd no
known_all (suc n) (f ∷ opened) same = (first same, known_all n opened (rest same)) where
  first : is_some f.asked ∷ map (λ (e : FileState). is_some e.asked) opened ≡ true ∷ replicate n true → is_some f.asked ≡ true
  first e = cc

  rest : is_some f.asked ∷ map (λ (e : FileState). is_some e.asked) opened ≡ true ∷ replicate n true
      → map (λ (e : FileState). is_some e.asked) opened ≡ replicate n true
  rest e = cc

pub open_known : (n m : ℕ) (name : List ℕ) (asked : Option Asked) (kept : FileState) (opened : List FileState) → AreOpen n name asked (kept ∷ [])
    → AreOpen m name asked opened → AreKnown asked (kept ∷ opened)
open_known n m name asked kept opened own others some =
    All-from_recursion (λ (f : FileState). IsSome f.asked) (kept ∷ opened)
    ((known_all n (kept ∷ []) (own.all_known ∙ ap (replicate n) some)).0, known_all m opened (others.all_known ∙ ap (replicate m) some))

-- the same file stays open
pub one_open : (n : ℕ) (name : List ℕ) (before after : Option Asked) (kept new : FileState) → AreOpen n name before (kept ∷ []) → IsSameFile kept new
    → is_some after ≡ is_some before → AreOpen n name after (new ∷ [])
one_open n name before after kept new are same all_known = record {
  all_known = ap (λ (b : Bool). b ∷ []) same.all_known ∙ are.all_known ∙ ap (replicate n) (sym all_known);
  named = λ some. ap (λ (q : List ℕ). q ∷ []) same.name ∙ are.named (sym all_known ∙ some);
}

-- the name is there where the folder tells its files, as the file does
pub known_there : (files : Option Files) (name : List ℕ) (known : Option (List ℕ)) → known ≡ bytes_at files name → is_some known ≡ is_some files
    → IsThere files name
known_there None name known bytes known_too = tt
known_there (Some files) name known bytes known_too = ap (λ (o : Option (List ℕ)). is_some o) (sym bytes) ∙ known_too

-- two steps that leave the other names as they were are one
pub others_chain : (name : List ℕ) (first mid last : Option Asked) → AreOtherNamesAsBefore name first mid → AreOtherNamesAsBefore name mid last
    → AreOtherNamesAsBefore name first last
others_chain name first None last one two = record {
  all_known = two.all_known ∙ one.all_known;
  same = λ old new q was now other. absurd (false≢true (one.all_known ∙ ap (λ (o : Option Asked). is_some o) was));
}
others_chain name first (Some m) last one two = record {
  all_known = two.all_known ∙ one.all_known;
  same = λ old new q was now other. two.same m new q refl now other ∙ one.same old m q was refl other;
}

-- where nothing was asked, a walk has closed what it opened
pub closed_same : (name : List ℕ) (opened : List FileState) (a b : Option Asked) (m n k : ℕ) → AreOpen 1 name a opened → b ≡ a → m ≤ n
    → HasClosed name (record { opened = opened; asked = a; faults = m; out_faults = k })
    (record { opened = opened; asked = b; faults = n; out_faults = k })
closed_same name opened a b m n k are is rises = record {
  opened = subst (λ (o : Option Asked). AreOpen 1 name o opened) (sym is) are;
  others = record {
    all_known = ap (λ (o : Option Asked). is_some o) is;
    same = λ old new q was now other. let same : new ≡ old = cc in ap (λ (asked : Asked). asked q) same;
  };
  faults = rises;
  out_faults = omega arith;
}

module _ {D F : Type 0} (d : FolderMeanings D F) (name : List ℕ) where
  -- files that were asked nothing and have met no fault do not count
  fresh_same : (kept : FileState) (opened : List FileState) (folder : D) (held : Option (List ℕ)) (out_faults : ℕ) → places_of opened ≡ []
      → sum (counts_of opened) ≡ 0
      → walk_state d name folder (kept ∷ opened) held out_faults ≡ walk_state d name folder (kept ∷ []) held out_faults
  fresh_same kept opened folder held out_faults places counts =
      let sums : sum (counts_of (kept ∷ opened)) ≡ sum (counts_of (kept ∷ [])) =
      omega (arith, sum-one kept.faults (counts_of opened), sum-one kept.faults [], counts) in
      ap (λ n. state n (unwrap_or kept.asked [] ++ places_of opened)) sums
      ∙ ap (λ (ps : List Place). state (sum (counts_of (kept ∷ []))) (unwrap_or kept.asked [] ++ ps)) places where
        state : ℕ → List Place → WalkState
        state n places = record {
          files = d.files folder;
          held = held;
          faults = added (d.faults folder) n;
          out_faults = out_faults;
          asked = option_map (λ (asked : Asked). asked name ++ places) (d.asked folder);
        }

  module _ (drawn : PictureDrawn) (g : WalkGiven) where
    -- how a walk ended between two states
    abbrev pub Ends : {T : Type 0} → Result T WalkError → WalkState → WalkState → Type 0
    Ends r first now = MatchResult r (λ _. Finished drawn g first now) (LeftByRefusal drawn g first now)

    -- a walk whose machine's files are closed
    pub machine_closed : {T : Type 0} (r : Result T WalkError) (kept new : FileState) (opened left : List FileState) (old mid last : D) (held put : Option
        (List ℕ)) (o p n : ℕ)
        → AreOpen n name (d.asked old) opened → places_of opened ≡ [] → sum (counts_of opened) ≡ 0 → AreSameFiles opened left → d.asked mid ≡ d.asked old
        → d.asked last ≡ with_closed left (d.asked mid) → RoseBy (sum (counts_of left)) (d.faults mid) (d.faults last) → d.files last ≡ d.files mid
        → Ends r (walk_state d name old (kept ∷ opened) held o) (walk_state d name mid (new ∷ left) put p)
        → Ends r (walk_state d name old (kept ∷ []) held o) (walk_state d name last (new ∷ []) put p)
    machine_closed r kept new opened left old mid last held put o p n are places counts same asked closed rose files ends =
        let left_open = same_open n name opened left (d.asked mid) (subst (λ (a : Option Asked). AreOpen n name a opened) (sym asked) are) same in
        let alike = closed_alike d name n (new ∷ []) left mid last put p left_open closed rose files in
        ends_alike drawn g (walk_state d name old (kept ∷ []) held o) (walk_state d name mid (new ∷ left) put p) (walk_state d name last
        (new ∷ []) put p) alike r
        (subst (λ (first : WalkState). Ends r first (walk_state d name mid (new ∷ left) put p)) (fresh_same kept opened old held o places counts) ends)

    -- where nothing was done but that counts rose, nothing is left
    pub left_alike : (first now : WalkState) → IsAlike first now → Left drawn g first now
    left_alike first now alike = inl (record {
      files = inl alike.files;
      held = alike.held;
      asked = none_asked first.asked now.asked alike.asked;
      faults = alike.faults;
      out_faults = let same = alike.out_faults in omega (arith, same);
    }) where
      none_asked : (a b : Option (List Place)) → OnKnown AreSamePlaces a b → OnKnown (AreAskedAtMostFor g.scene.shape g.scene.depth g.setup.pinned []) a b
      none_asked None None same = tt
      none_asked (Some a) (Some b) same = λ at len. omega (arith, same.asked at len)
      none_asked None (Some b) same = absurd same
      none_asked (Some a) None same = absurd same

    -- stores of which no machine was made are closed
    pub stores_closed : (kept : FileState) (opened : List FileState) (old last : D) (held : Option (List ℕ)) (o n : ℕ) → AreOpen n name (d.asked old) opened
        → places_of opened ≡ [] → sum (counts_of opened) ≡ 0 → d.asked last ≡ with_closed opened (d.asked old)
        → RoseBy (sum (counts_of opened)) (d.faults old) (d.faults last) → d.files last ≡ d.files old
        → LeftByRefusal drawn g (walk_state d name old (kept ∷ []) held o) (walk_state d name last (kept ∷ []) held o) NoMemory
    stores_closed kept opened old last held o n are places counts closed rose files = (
      left_alike (walk_state d name old (kept ∷ []) held o) (walk_state d name last (kept ∷ []) held o)
          (subst (λ (first : WalkState). IsAlike first (walk_state d name last (kept ∷ []) held o)) (fresh_same kept opened old held o places counts)
          (closed_alike d name n (kept ∷ []) opened old last held o are closed rose files)),
      tt,
    )

    -- a walk whose stores were opened first
    pub opened_first : {T : Type 0} (r : Result T WalkError) (kept : FileState) (old mid : D) (held : Option (List ℕ)) (o : ℕ) (now : WalkState)
        → d.files mid ≡ d.files old
        → d.asked mid ≡ d.asked old → d.faults old ≤ d.faults mid → Ends r (walk_state d name mid (kept ∷ []) held o) now
        → Ends r (walk_state d name old (kept ∷ []) held o) now
    opened_first r kept old mid held o now files asked faults ends =
        subst (λ (first : WalkState). Ends r first now) same
        (ends_from drawn g (walk_state d name mid (kept ∷ []) held o) now fewer (omega (arith, faults)) r ends) where
          fewer : ℕ
          fewer = added (d.faults old) (sum (counts_of (kept ∷ [])))

          state : Option Files → Option Asked → WalkState
          state held_files places = record {
            files = held_files;
            held = held;
            faults = fewer;
            out_faults = o;
            asked = option_map (λ (a : Asked). a name ++ places_of (kept ∷ [])) places;
          }

          same : state (d.files mid) (d.asked mid) ≡ state (d.files old) (d.asked old)
          same = ap (λ (held_files : Option Files). state held_files (d.asked mid)) files ∙ ap (λ (places : Option Asked). state (d.files old) places) asked

    -- the store's own file is closed last
    pub store_closed : {T : Type 0} (r : Result T WalkError) (first : WalkState) (kept : FileState) (mid last : D) (held : Option (List ℕ)) (o : ℕ)
        → AreOpen 1 name (d.asked mid) (kept ∷ []) → d.asked last ≡ with_closed (kept ∷ []) (d.asked mid) → d.faults last ≡ added (d.faults mid) kept.faults
        → d.files last ≡ d.files mid → Ends r first (walk_state d name mid (kept ∷ []) held o) → Ends r first (walk_state d name last [] held o)
    store_closed r first kept mid last held o are closed faults files ends =
        ends_alike drawn g first (walk_state d name mid (kept ∷ []) held o) (walk_state d name last [] held o)
        (closed_alike d name 1 [] (kept ∷ []) mid last held o are closed (omega (arith, sum-one kept.faults [], faults)) files) r ends

    -- where nothing was asked, each rise of the folder's count is a failure
    none_lost : (first now : WalkState) → now.asked ≡ first.asked → reads_lost g first.asked now.asked ≡ 0
    none_lost first now asked = ap (λ (o : Option (List Place)). reads_lost g first.asked o) asked ∙ none first.asked where
      none : (o : Option (List Place)) → reads_lost g o o ≡ 0
      none None = refl
      none (Some places) = omega arith

    pub failed_alone : (first now : WalkState) → now.asked ≡ first.asked → Rose first.faults now.faults → HasFailed drawn g first now
    failed_alone first now asked rose = let none = none_lost first now asked in inl (inr (omega (arith, none, rose)))

    -- a refusal before anything was asked or written
    pub refused_first : (kept : FileState) (old new : D) (held : Option (List ℕ)) (o : ℕ) (refusal : OutsideError) → d.files new ≡ d.files old
        → d.asked new ≡ d.asked old
        → d.faults old ≤ d.faults new → (refusal ≡ Fault → Rose (d.faults old) (d.faults new))
        → LeftByRefusal drawn g (walk_state d name old (kept ∷ []) held o) (walk_state d name new (kept ∷ []) held o) (walk_refusal_by refusal)
    refused_first kept old new held o refusal files asked faults failed = (left_alike first now alike, caused refusal failed) where
      first : WalkState
      first = walk_state d name old (kept ∷ []) held o

      now : WalkState
      now = walk_state d name new (kept ∷ []) held o

      known : now.asked ≡ first.asked
      known = ap (option_map (λ (places : Asked). places name ++ places_of (kept ∷ []))) asked

      alike : IsAlike first now
      alike = record {
        files = files;
        held = refl;
        faults = omega (arith, faults);
        out_faults = refl;
        asked = subst (λ (a : Option (List Place)). OnKnown AreSamePlaces first.asked a) (sym known) (alike_itself first).asked;
      }

      caused : (e : OutsideError) → (e ≡ Fault → Rose (d.faults old) (d.faults new)) → IsCausedBy drawn g first now (walk_refusal_by e)
      caused Fault failed = let rose = failed refl in failed_alone first now known (omega (arith, rose))
      caused NoRoom failed = tt

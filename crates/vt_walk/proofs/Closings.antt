-- Closing files leaves what a walk has left as it was.
use Rattle.std.proofs.Common.{◌≡◌, ℕ, zero, suc, ◌+◌, ◌≤◌, Bool, true, false, ◌&&◌, List, [], ◌∷◌, ◌++◌, map, sum, Option, Some, None, refl, sym, ap, ◌∙◌, subst, arith}
use Rattle.std.specs.Prelude.{is_some, option_map, unwrap_or, replicate, count_by, if◌then◌else◌}
use Rattle.std.specs.List.{AllByRecursion}
use Rattle.std.specs.Str.{bytes_eq}
use Rattle.std.proofs.lemmas.Grind.{flat_map-append}
use Rattle.std.proofs.lemmas.Slice.Eq.{bytes_eq-Decides}
use Rattle.vt_outside.specs.Counts.{RoseBy}
use Rattle.vt_outside.specs.Files.{Asked, with_places}
use Rattle.vt_outside.specs.Places.{times_asked, times_failed, is_read_of}
use Rattle.vt_outside.specs.declared.place.Place.{Place}
use Rattle.vt_outside.specs.declared.outside.Folder.{Ghosts as FolderMeanings}
use Rattle.vt_walk_decisions.specs.Requests.{FileState, AreSameFiles, counts_of}
use Rattle.vt_walk.specs.States.{WalkState, AreOpen, places_of, walk_state}
use Rattle.vt_walk.specs.Reads.{OnKnown}
use Rattle.vt_walk.specs.Closing.{with_closed, AreOtherNamesAsBefore}
use Rattle.vt_walk.proofs.Asking.{count_both}
use Rattle.vt_walk.proofs.Asks.{sum-one}

-- each place was asked as often in both, and failed as often
pub record AreSamePlaces (before after : List Place) : Type 0 where
  pub asked : (at len : ℕ) → times_asked at len after ≡ times_asked at len before
  pub failed : (at len : ℕ) → times_failed at len after ≡ times_failed at len before

-- the same is there, and only the count of the folder may have risen
pub record IsAlike (before after : WalkState) : Type 0 where
  pub files : after.files ≡ before.files
  pub held : after.held ≡ before.held
  pub faults : before.faults ≤ after.faults
  pub out_faults : after.out_faults ≡ before.out_faults
  pub asked : OnKnown AreSamePlaces before.asked after.asked

pub same_places : (asked : Option (List Place)) → OnKnown AreSamePlaces asked asked
same_places None = tt
same_places (Some places) = record { asked = λ at len. refl; failed = λ at len. refl }

pub alike_itself : (now : WalkState) → IsAlike now now
alike_itself now = record { files = refl; held = refl; faults = omega arith; out_faults = refl; asked = same_places now.asked }

-- the files bear the name
abbrev AreNamed : List ℕ → List FileState → Type 0
AreNamed name opened = AllByRecursion (λ f. f.name ≡ name) opened

named_all : (name : List ℕ) (n : ℕ) (opened : List FileState) → map (λ f. f.name) opened ≡ replicate n name → AreNamed name opened
named_all name n [] same = tt
named_all name zero (f ∷ opened) same = let no : ⊥ = cc in absurd no
named_all name (suc n) (f ∷ opened) same = (first same, named_all name n opened (rest same)) where
  first : f.name ∷ map (λ (e : FileState). e.name) opened ≡ name ∷ replicate n name → f.name ≡ name
  first e = cc

  rest : f.name ∷ map (λ (e : FileState). e.name) opened ≡ name ∷ replicate n name → map (λ (e : FileState). e.name) opened ≡ replicate n name
  rest e = cc

-- the places after files were closed, where they are known
abbrev closed : List FileState → Asked → Asked
closed [] asked = asked
closed (f ∷ opened) asked = with_places f.name f.asked (closed opened asked)

closed_known : (opened : List FileState) (asked : Asked) → with_closed opened (Some asked) ≡ Some (closed opened asked)
closed_known [] asked = refl
closed_known (f ∷ opened) asked = ap (option_map (with_places f.name f.asked)) (closed_known opened asked)

closed_unknown : (opened : List FileState) → with_closed opened None ≡ None
closed_unknown [] = refl
closed_unknown (f ∷ opened) = ap (option_map (with_places f.name f.asked)) (closed_unknown opened)

pub closed_knows : (opened : List FileState) (asked : Option Asked) → is_some (with_closed opened asked) ≡ is_some asked
closed_knows opened None = ap (λ (o : Option Asked). is_some o) (closed_unknown opened)
closed_knows opened (Some asked) = ap (λ (o : Option Asked). is_some o) (closed_known opened asked)

count_closed : (t : Place → Bool) (name : List ℕ) (opened : List FileState) (asked : Asked) → AreNamed name opened
    → count_by t (closed opened asked name) ≡ count_by t (asked name) + count_by t (places_of opened)
count_closed t name [] asked named = omega arith
count_closed t name (f ∷ opened) asked named =
    let own : bytes_eq name f.name ≡ true = (bytes_eq-Decides name f.name).1 (sym named.0) in
    let is : closed (f ∷ opened) asked name ≡ closed opened asked name ++ unwrap_or f.asked [] =
    ap (λ (b : Bool). if b then closed opened asked name ++ unwrap_or f.asked [] else closed opened asked name) own in
    omega (
      arith,
      ap (λ (places : List Place). count_by t places) is,
      count_both t (closed opened asked name) (unwrap_or f.asked []),
      count_both t (unwrap_or f.asked []) (places_of opened),
      count_closed t name opened asked named.1,
    )

other_closed : (name q : List ℕ) (opened : List FileState) (asked : Asked) → AreNamed name opened → bytes_eq q name ≡ false → closed opened asked q ≡ asked q
other_closed name q [] asked named other = refl
other_closed name q (f ∷ opened) asked named other =
    ap (λ (b : Bool). if b then closed opened asked q ++ unwrap_or f.asked [] else closed opened asked q) (ap (bytes_eq q) named.0 ∙ other)
    ∙ other_closed name q opened asked named.1 other

-- closing files of a name leaves the places of other names as they were
pub others_closed : (name : List ℕ) (n : ℕ) (opened : List FileState) (before after : Option Asked) → AreOpen n name before opened
    → after ≡ with_closed opened before → AreOtherNamesAsBefore name before after
others_closed name n opened None after are is = record {
  all_known = ap (λ (o : Option Asked). is_some o) is ∙ closed_knows opened None;
  same = λ old new q was now other. let no : None ≡ Some old = was in absurd (let no_value : ⊥ = cc in no_value);
}
others_closed name n opened (Some asked) after are is =
    let known = is ∙ closed_known opened asked in
    record {
      all_known = ap (λ (o : Option Asked). is_some o) is ∙ closed_knows opened (Some asked);
      same = λ old new q was now other.
          let first : asked ≡ old = cc in
          let last : new ≡ closed opened asked = cc in
          ap (λ (a : Asked). a q) last ∙ other_closed name q opened asked (named_all name n opened (are.named refl)) other ∙ ap (λ (a : Asked). a q) first;
    }

counts_both : (front opened : List FileState) → sum (counts_of (front ++ opened)) ≡ sum (counts_of front) + sum (counts_of opened)
counts_both [] opened = omega arith
counts_both (f ∷ front) opened = omega (arith, sum-one f.faults (counts_of (front ++ opened)), sum-one f.faults (counts_of front), counts_both front opened)

-- the places of a name with those of open files, and after some of these were closed
places_closed : (name : List ℕ) (n : ℕ) (front opened : List FileState) (before after : Option Asked) → AreOpen n name before opened
    → after ≡ with_closed opened before
    → OnKnown AreSamePlaces (option_map (λ (asked : Asked). asked name ++ places_of (front ++ opened)) before) (option_map (λ
    (asked : Asked). asked name ++ places_of front) after)
places_closed name n front opened None after are is =
    subst (λ (o : Option Asked). OnKnown AreSamePlaces None (option_map (λ (asked : Asked). asked name ++ places_of front) o)) (sym (is
    ∙ closed_unknown opened)) tt
places_closed name n front opened (Some asked) after are is =
    subst (λ (o : Option Asked). OnKnown AreSamePlaces (Some (asked name ++ places_of (front ++ opened))) (option_map (λ
    (a : Asked). a name ++ places_of front) o))
    (sym (is ∙ closed_known opened asked))
    (record {
      asked = λ at len. as_often (is_read_of at len);
      failed = λ at len. as_often (λ (place : Place). is_read_of at len place && place.failed);
    }) where
      as_often : (t : Place → Bool) → count_by t (closed opened asked name ++ places_of front) ≡ count_by t (asked name ++ places_of (front ++ opened))
      as_often t = omega (
        arith,
        count_both t (closed opened asked name) (places_of front),
        count_closed t name opened asked (named_all name n opened (are.named refl)),
        count_both t (asked name) (places_of (front ++ opened)),
        ap (λ (places : List Place). count_by t places) (flat_map-append (λ (f : FileState). unwrap_or f.asked []) front opened),
        count_both t (places_of front) (places_of opened),
      )

-- what is there after files of the store's name were closed is what was there while they were open
pub closed_alike : {D F : Type 0} (d : FolderMeanings D F) (name : List ℕ) (n : ℕ) (front opened : List FileState) (before after : D) (held : Option
    (List ℕ)) (out_faults : ℕ)
    → AreOpen n name (d.asked before) opened → d.asked after ≡ with_closed opened (d.asked before)
    → RoseBy (sum (counts_of opened)) (d.faults before) (d.faults after) → d.files after ≡ d.files before
    → IsAlike (walk_state d name before (front ++ opened) held out_faults) (walk_state d name after front held out_faults)
closed_alike d name n front opened before after held out_faults are asked rose files = record {
  files = files;
  held = refl;
  faults = omega (arith, counts_both front opened, rose);
  out_faults = refl;
  asked = places_closed name n front opened (d.asked before) (d.asked after) are asked;
}

-- the same files are open
pub same_open : (n : ℕ) (name : List ℕ) (old new : List FileState) (asked : Option Asked) → AreOpen n name asked old → AreSameFiles old new
    → AreOpen n name asked new
same_open n name old new asked are same = record { all_known = same.all_known ∙ are.all_known; named = λ some. same.names ∙ are.named some }

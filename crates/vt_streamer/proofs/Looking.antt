-- Looks of the writer, one after the other.
use Rattle.std.proofs.Common.{◌≡◌, ℕ, zero, suc, ◌+◌, ◌<◌, ◌≤◌, List, [], ◌∷◌, ◌++◌, length, get_or, set, refl, sym, ap, ◌∙◌, subst, arith, get_or-set_same, get_or-set_other}
use Rattle.std.proofs.lemmas.List.{append_assoc}
use mathlib.Core.Logic.{dite}
use native.Mathlib.Decide.{ℕ_discrete}
use Rattle.vt_table.specs.JournalTypes.changes.Change.{Change}
use Rattle.vt_grace.specs.declared.views.Look.{Look}
use Rattle.vt_grace.specs.declared.views.WriterView.{WriterView}
use Rattle.vt_grace.specs.WriterViews.{version_of, floor_of, raised, after_look}
use Rattle.vt_grace.specs.Places.{content_of}
use Rattle.vt_streamer.specs.Banks.{HasPublished}
use Rattle.vt_streamer.specs.Looks.{after_all, HasOnlyLooked, IsBehind, IsFirstBehind}

-- looks, and those before them
all_on : (v : WriterView) (more before : List Look) → after_all (after_all v before) more ≡ after_all v (more ++ before)
all_on v [] before = refl
all_on v (look ∷ more) before = ap (λ (x : WriterView). after_look x look.sampler look.word) (all_on v more before)

raised_up : (v f n : ℕ) → f ≤ v → f ≤ raised v f n
raised_up v f zero low = low
raised_up v f (suc k) low = omega arith

-- one look
pub looked_once : (v w : WriterView) (sampler word : ℕ) → w ≡ after_look v sampler word → sampler < length v.floors → floor_of v sampler ≤ version_of v
    → HasOnlyLooked v w
looked_once v w sampler word after inside low = subst (λ (x : WriterView). HasOnlyLooked v x) (sym after) record {
  after = refl;
  rest = refl;
  up = λ k. dite (ℕ_discrete k sampler)
      (λ same. let here : floor_of (after_look v sampler word) k ≡ floor = ap (λ (j : ℕ). get_or (set v.floors sampler floor) j 0) same
      ∙ get_or-set_same v.floors sampler floor 0 inside in
      let was : floor_of v k ≡ floor_of v sampler = ap (floor_of v) same in let rose = raised_up (version_of v) (floor_of v sampler) word low in omega arith)
      (λ other. let else : floor_of (after_look v sampler word) k ≡ floor_of v k = get_or-set_other v.floors sampler k floor 0 other in omega arith);
  more = record { sampler = sampler; word = word } ∷ [];
  looks = refl;
}
  where
    floor : ℕ
    floor = raised (version_of v) (floor_of v sampler) word

-- no look
pub looked_none : (v : WriterView) → HasOnlyLooked v v
looked_none v = record { more = []; after = refl; rest = refl; up = λ k. omega arith; looks = refl }

-- looks after looks
pub looked_on : (u v w : WriterView) → HasOnlyLooked u v → HasOnlyLooked v w → HasOnlyLooked u w
looked_on u v w first second = record {
  after = second.after ∙ ap (λ (x : WriterView). after_all x second.more) first.after ∙ all_on u second.more first.more;
  rest = second.rest ∙ ap (λ (x : WriterView). record x { floors = w.floors; looks = w.looks }) first.rest;
  up = λ k. let a = first.up k in let b = second.up k in omega arith;
  more = second.more ++ first.more;
  looks = second.looks ∙ ap (λ ls. second.more ++ ls) first.looks ∙ sym (append_assoc second.more first.more u.looks);
}

-- looks leave the journal
journal_all : (v : WriterView) (more : List Look) → (after_all v more).journal ≡ v.journal
journal_all v [] = refl
journal_all v (look ∷ more) = journal_all v more

-- and raise the same floors of any writer with as many versions
carried : (u v : WriterView) → v.journal ≡ u.journal → (more : List Look)
    → after_all (record u { floors = v.floors; looks = v.looks }) more ≡ record u { floors = (after_all v more).floors; looks = (after_all v more).looks }
carried u v same [] = refl
carried u v same (look ∷ more) =
    let before : WriterView = after_all v more in
    ap (λ (x : WriterView). after_look x look.sampler look.word) (carried u v same more)
    ∙ ap (λ (n : ℕ). record u {
      floors = set before.floors look.sampler (raised n (floor_of before look.sampler) look.word);
      looks = record { sampler = look.sampler; word = look.word } ∷ before.looks;
    }) (sym (ap length (journal_all v more ∙ same)))

-- looks after looks, between which other things were done, and nothing was published
pub looked_across : (u v w : WriterView) → v.journal ≡ u.journal → HasOnlyLooked u (record u { floors = v.floors; looks = v.looks })
    → HasOnlyLooked v (record v { floors = w.floors; looks = w.looks }) → HasOnlyLooked u (record u { floors = w.floors; looks = w.looks })
looked_across u v w same first second = record {
  more = second.more ++ first.more;
  after = ap (λ (x : WriterView). record u { floors = x.floors; looks = x.looks }) second.after ∙ sym (carried u v same second.more)
      ∙ ap (λ (x : WriterView). after_all x second.more) first.after ∙ all_on u second.more first.more;
  rest = refl;
  up = λ k. let a = first.up k in let b = second.up k in omega arith;
  looks = second.looks ∙ ap (λ ls. second.more ++ ls) first.looks ∙ sym (append_assoc second.more first.more u.looks);
}

-- a change that was published after looks
pub published_on : (u v w : WriterView) (change : Change) → HasOnlyLooked u v → HasPublished v w change → HasPublished u w change
published_on u v w change looked h = record {
  journal = h.journal ∙ ap (λ (x : WriterView). x.journal ++ change ∷ []) looked.rest;
  contents = h.contents ∙ ap (λ (x : WriterView). x.contents ++ content_of x.sizes x.texels change ∷ []) looked.rest;
  rest = h.rest ∙ ap (λ (x : WriterView). record x {
    journal = w.journal;
    contents = w.contents;
    entries = w.entries;
    floors = w.floors;
    looks = w.looks;
  }) looked.rest;
  looked = subst (λ (x : WriterView). HasOnlyLooked u x) (ap (λ (x : WriterView). record x { floors = w.floors; looks = w.looks }) looked.rest)
      (looked_on u v (record v { floors = w.floors; looks = w.looks }) looked h.looked);
}

-- the first that is behind, after looks at those before it
pub first_behind : (u v w : WriterView) (least sampler holds : ℕ) → HasOnlyLooked u v → HasOnlyLooked v w → sampler < u.sizes.samplers
    → ((k : ℕ) → k < sampler → least ≤ floor_of v k) → IsBehind v w least sampler holds → IsFirstBehind u w least sampler holds
first_behind u v w least sampler holds first second inside reached h = record {
  inside = inside;
  behind = record {
    below = h.below;
    low = h.low;
    before = h.before ++ first.more;
    looks = h.looks ∙ ap (λ ls. look ∷ (h.before ++ ls)) first.looks ∙ ap (λ ls. look ∷ ls) (sym (append_assoc h.before first.more u.looks));
  };
  others = λ k low. let a = reached k low in let b = second.up k in omega arith;
}
  where
    look : Look
    look = record { sampler = sampler; word = holds + 1 }

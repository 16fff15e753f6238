-- What a pass noted stays noted.
use Rattle.std.proofs.Common.{◌≡◌, ℕ, suc, List, ◌∷◌, refl, sym, ap, subst, arith}
use Rattle.std.specs.Prelude.{Contains}
use Rattle.vt_pictures.specs.DrawLookups.{Note, EntryNote, WordNote}
use Rattle.vt_grace.specs.declared.views.PassView.{PassView}
use Rattle.vt_grace.specs.PassViews.{noting, wording}
use Rattle.vt_lookup.specs.Notes.{IsNotedIn, HasNotedMore}

behind : {X : Type 0} (x y : X) (xs : List X) → Contains xs x → Contains (y ∷ xs) x
behind x y xs h = (suc h.0, omega (arith, h.1), h.2)

pub noted_behind_word : (u frame place word : ℕ) (p q : PassView) → q ≡ wording u frame place word p → (note : Note) → IsNotedIn p note
    → IsNotedIn q note
noted_behind_word u frame place word p q is (EntryNote v page entry) h = subst (λ (x : PassView). IsNotedIn x (EntryNote v page entry)) (sym is) h
noted_behind_word u frame place word p q is (WordNote v f i w) h =
    subst (λ (x : PassView). IsNotedIn x (WordNote v f i w)) (sym is) (behind _ _ p.word_notes h)

pub noted_behind_entry : (u at entry : ℕ) (p q : PassView) → q ≡ noting u at entry p → (note : Note) → IsNotedIn p note
    → IsNotedIn q note
noted_behind_entry u at entry p q is (EntryNote v page e) h =
    subst (λ (x : PassView). IsNotedIn x (EntryNote v page e)) (sym is) (behind _ _ p.notes h)
noted_behind_entry u at entry p q is (WordNote v f i w) h = subst (λ (x : PassView). IsNotedIn x (WordNote v f i w)) (sym is) h

-- the entry that was read is noted
pub entry_noted : (u page entry : ℕ) (p q : PassView) → q ≡ noting u page entry p → IsNotedIn q (EntryNote u page entry)
entry_noted u page entry p q is = subst (λ (x : PassView). IsNotedIn x (EntryNote u page entry)) (sym is) (0, omega arith, refl)

-- one entry more
pub one_more : (u page entry : ℕ) (o p q : PassView) → q ≡ noting u page entry p → HasNotedMore o p → HasNotedMore o q
one_more u page entry o p q is h = record {
  rest = subst (λ (x : PassView). x ≡ record o { notes = x.notes; word_notes = x.word_notes }) (sym is)
      (ap (λ (x : PassView). noting u page entry x) h.rest);
  notes = λ note n. noted_behind_entry u page entry p q is note (h.notes note n);
}

-- a noted entry, under an equal version and as an equal number
pub noted_as : (p : PassView) (u v page at e f : ℕ) → v ≡ u → at ≡ page → f ≡ e → IsNotedIn p (EntryNote u page e)
    → IsNotedIn p (EntryNote v at f)
noted_as p u v page at e f version place entry h = rw (version, place, entry) h

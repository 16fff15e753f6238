-- What notes say is handed on to notes that say no less.
use Rattle.std.proofs.Common.{◌≡◌, List, sym, subst, ◌++◌, ℕ, [], ◌∷◌, length, refl, ap, ◌∙◌, length-append, arith}
use Rattle.std.specs.Prelude.{Contains}
use Rattle.std.proofs.lemmas.List.Elements.{Contains-append_left, Contains-append_right}
use Rattle.vt_sampler.specs.Lookups.{Note, EntryNote, WordNote}
use Rattle.vt_sampler.specs.GraceTypes.views.EntryNote.{EntryNote as ReadEntry}
use Rattle.vt_sampler.specs.GraceTypes.views.WordNote.{WordNote as ReadWord}
use Rattle.vt_sampler.specs.GraceTypes.views.PassView.{PassView}
use Rattle.vt_sampler.specs.GraceTypes.views.WriterView.{WriterView}
use Rattle.vt_streaming.specs.Giving.{after_return}
use Rattle.vt_word_notes.specs.Noted.{IsAmong, IsNotedBy, HasNoted, HasNotesOf}

-- each note of some is one that a writer has
pub noted_by : (w : WriterView) (entries : List ReadEntry) (words : List ReadWord) → HasNoted w entries words → (note : Note) → IsAmong entries words note
    → IsNotedBy w note
noted_by w entries words has (EntryNote version page entry) is = has.each_entry _ is
noted_by w entries words has (WordNote version frame place word) is = has.each_word _ is

-- a writer has the notes of one with the same notes
pub notes_alike : (v w : WriterView) → w.notes ≡ v.notes → w.word_notes ≡ v.word_notes → HasNotesOf w v
notes_alike v w entries words = record {
  each_entry = λ n has. subst (λ (l : List ReadEntry). Contains l n) (sym entries) has;
  each_word = λ n has. subst (λ (l : List ReadWord). Contains l n) (sym words) has;
}

-- a writer has the notes of a pass that it took back
pub pass_noted : (w : WriterView) (p : PassView) → HasNoted (after_return w p) p.notes p.word_notes
pass_noted w p = record {
  each_entry = λ n has. Contains-append_left p.notes w.notes n has;
  each_word = λ n has. Contains-append_left p.word_notes w.word_notes n has;
}

-- beside those that it had
pub notes_stay : (w : WriterView) (p : PassView) → HasNotesOf (after_return w p) w
notes_stay w p = record {
  each_entry = λ n has. Contains-append_right p.notes w.notes n has;
  each_word = λ n has. Contains-append_right p.word_notes w.word_notes n has;
}

-- what a writer has noted another has that has its notes
pub noted_onward : (v w : WriterView) (entries : List ReadEntry) (words : List ReadWord) → HasNoted v entries words → HasNotesOf w v → HasNoted w entries words
noted_onward v w entries words has more = record {
  each_entry = λ n is. more.each_entry n (has.each_entry n is);
  each_word = λ n is. more.each_word n (has.each_word n is);
}

-- what is among some notes is among these and others
pub among_left : (entries more : List ReadEntry) (words added : List ReadWord) (note : Note) → IsAmong entries words note
    → IsAmong (entries ++ more) (words ++ added) note
among_left entries more words added (EntryNote version page entry) is = Contains-append_left entries more _ is
among_left entries more words added (WordNote version frame place word) is = Contains-append_left words added _ is

pub among_right : (more entries : List ReadEntry) (added words : List ReadWord) (note : Note) → IsAmong entries words note
    → IsAmong (more ++ entries) (added ++ words) note
among_right more entries added words (EntryNote version page entry) is = Contains-append_right more entries _ is
among_right more entries added words (WordNote version frame place word) is = Contains-append_right added words _ is

-- where a list with others before it is the list, there are no others
none_before : {X : Type 0} (xs ys : List X) → ys ≡ xs ++ ys → xs ≡ []
none_before [] ys e = refl
none_before (x ∷ xs) ys e = absurd (let n = ap length e in let m = length-append (x ∷ xs) ys in omega (arith, n, m))

-- where no word was added to those that were noted, none is said by what was added
pub no_word : (v w : WriterView) (entries : List ReadEntry) (words : List ReadWord) → w.word_notes ≡ words ++ v.word_notes → w.word_notes ≡ v.word_notes
    → (version frame place word : ℕ) → IsAmong entries words (WordNote version frame place word) → ⊥
no_word v w entries words more same version frame place word is =
    let there = subst (λ (l : List ReadWord). Contains l (record { version = version; frame = frame; place = place; word = word }))
    (none_before words v.word_notes (sym same ∙ more)) is in
    let low = there.1 in absurd (omega (arith, low))

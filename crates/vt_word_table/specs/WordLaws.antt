-- The laws of readers of shared words, and of their writer.
use Rattle.std.proofs.Common.{◌≡◌, ℕ, ◌≤◌, Option, None, Some, List, [], ◌∷◌, ◌++◌, refl, sym, ap, ◌∙◌, subst, append_assoc, arith}
use Rattle.std.specs.Prelude.{Contains}
use Rattle.std.proofs.lemmas.List.Elements.{Contains-append_left, Contains-append_right}
use Rattle.vt_journal.specs.Shape.{Shape}
use Rattle.vt_sampler.specs.Lookups.{Note, EntryNote, WordNote}
use Rattle.vt_sampler.specs.GraceTypes.views.EntryNote.{EntryNote as ReadEntry}
use Rattle.vt_sampler.specs.GraceTypes.views.WordNote.{WordNote as ReadWord}
use Rattle.vt_sampler.specs.GraceTypes.views.PassView.{PassView}
use Rattle.vt_sampler.specs.GraceTypes.views.Returned.{Returned}
use Rattle.vt_sampler.specs.GraceTypes.views.WriterView.{WriterView}
use Rattle.vt_sampler.specs.Values.{WordsValue, PassValue}
use Rattle.vt_sampler.proofs.Holding.{none_held, held_then, was_held_then, was_held_now, not_above}
use Rattle.vt_word_notes.specs.Noted.{IsNotedBy}
use Rattle.vt_word_notes.proofs.Handed.{among_left, among_right}
use Rattle.vt_word_table.specs.WordReaders.{HasOwnPass, HeldRow, HeldRows, HeldAt, EnteredWith, given_of, IsNotedIf}
use Rattle.vt_word_table.specs.WordWriters.{HasTakenMore, CameHomeIf, WasBack}

-- lists that grew at the front three times
grew_thrice : {X : Type 0} (xs ys zs t u v w : List X) → u ≡ zs ++ t → v ≡ ys ++ u → w ≡ xs ++ v → w ≡ (xs ++ (ys ++ zs)) ++ t
grew_thrice xs ys zs t u v w a b c = c ∙ ap (λ l. xs ++ l) (b ∙ ap (λ l. ys ++ l) a ∙ sym (append_assoc ys zs t)) ∙ sym (append_assoc xs (ys ++ zs) t)

pub fewer : (n m spare : ℕ) → n ≤ m → m ≤ spare → n ≤ spare
fewer n m spare less room = omega (arith, less, room)

pub taken_none : (w : WriterView) → HasTakenMore w w
taken_none w = record { returned = []; returned_are = refl; entries = []; noted = refl; words = []; worded = refl }

pub taken_twice : (u v w : WriterView) → HasTakenMore u v → HasTakenMore v w → HasTakenMore u w
taken_twice u v w one two = record {
  returned = two.returned ++ one.returned;
  returned_are = two.returned_are ∙ ap (λ (l : List Returned). two.returned ++ l) one.returned_are ∙ sym (append_assoc two.returned one.returned u.returned);
  entries = two.entries ++ one.entries;
  noted = two.noted ∙ ap (λ (l : List ReadEntry). two.entries ++ l) one.noted ∙ sym (append_assoc two.entries one.entries u.notes);
  words = two.words ++ one.words;
  worded = two.worded ∙ ap (λ (l : List ReadWord). two.words ++ l) one.worded ∙ sym (append_assoc two.words one.words u.word_notes);
}

pub noted_later : (v w : WriterView) (note : Note) → HasTakenMore v w → IsNotedBy v note → IsNotedBy w note
noted_later v w (EntryNote version page entry) more known =
    let n : ReadEntry = record { version = version; page = page; entry = entry } in
    subst (λ (l : List ReadEntry). Contains l n) (sym more.noted) (Contains-append_right more.entries v.notes n known)
noted_later v w (WordNote version frame place word) more known =
    let n : ReadWord = record { version = version; frame = frame; place = place; word = word } in
    subst (λ (l : List ReadWord). Contains l n) (sym more.worded) (Contains-append_right more.words v.word_notes n known)

pub back_later : (v w : WriterView) (number version : ℕ) → HasTakenMore v w → WasBack v number version → WasBack w number version
back_later v w number version more was = record {
  by = was.by;
  among = subst (λ (l : List Returned). Contains l was.by) (sym more.returned_are) (Contains-append_right more.returned v.returned was.by was.among);
  sampler = was.sampler;
  held = was.held;
}

pub came_within : (t u v w : WriterView) (number : ℕ) (o : Option PassValue) → HasTakenMore t u → HasTakenMore v w → CameHomeIf u v number o
    → CameHomeIf t w number o
came_within t u v w number None one two came = absurd came
came_within t u v w number (Some p) one two came =
    let c = came.taken in
    record {
      taken = record {
        returned = two.returned ++ (c.returned ++ one.returned);
        returned_are = grew_thrice two.returned c.returned one.returned t.returned u.returned v.returned w.returned one.returned_are c.returned_are two.returned_are;
        entries = two.entries ++ (c.entries ++ one.entries);
        noted = grew_thrice two.entries c.entries one.entries t.notes u.notes v.notes w.notes one.noted c.noted two.noted;
        words = two.words ++ (c.words ++ one.words);
        worded = grew_thrice two.words c.words one.words t.word_notes u.word_notes v.word_notes w.word_notes one.worded c.worded two.worded;
      };
      among = Contains-append_right two.returned (c.returned ++ one.returned) _ (Contains-append_left c.returned one.returned _ came.among);
      notes = λ note noted. among_right two.entries (c.entries ++ one.entries) two.words (c.words ++ one.words) note
          (among_left c.entries one.entries c.words one.words note (came.notes note noted));
    }

pub rows_none_if : (words : WordsValue) (s : Shape) (number : ℕ) (o : Option PassValue) → HasOwnPass words s number o → HeldRows o o []
rows_none_if words s number o own = subst (λ (x : Option PassValue). HeldRows x x []) (sym own.has) (none_held own.pass.view)

pub rows_more_if : (o p q : Option PassValue) (versions : List ℕ) (v : ℕ) → HeldRows o p versions → HeldRow p q v → HeldRows o q (v ∷ versions)
rows_more_if None p q versions v one two = absurd one
rows_more_if (Some a) None q versions v one two = absurd one
rows_more_if (Some a) (Some b) None versions v one two = absurd two
rows_more_if (Some a) (Some b) (Some c) versions v one two = held_then a.view b.view c.view versions v one two.more

pub held_now_if : (o p q : Option PassValue) (versions : List ℕ) (v : ℕ) → HeldRows o p versions → HeldRow p q v → HeldAt o q v
held_now_if None p q versions v one two = absurd one
held_now_if (Some a) None q versions v one two = absurd one
held_now_if (Some a) (Some b) None versions v one two = absurd two
held_now_if (Some a) (Some b) (Some c) versions v one two = record {
  held = was_held_now a.view b.view c.view versions v one two.more two.since two.later;
  given = ap (λ (x : PassView). x.given) two.more.rest ∙ ap (λ (x : PassView). x.given) one.rest;
}

pub held_then_if : (o p q : Option PassValue) (u v : ℕ) → HeldAt o p u → HeldRow p q v → HeldAt o q u
held_then_if None p q u v one two = absurd one
held_then_if (Some a) None q u v one two = absurd one
held_then_if (Some a) (Some b) None u v one two = absurd two
held_then_if (Some a) (Some b) (Some c) u v one two = record {
  held = was_held_then a.view b.view c.view u v two.more one.held;
  given = ap (λ (x : PassView). x.given) two.more.rest ∙ one.given;
}

pub held_since_if : (o p q : Option PassValue) (v : ℕ) → EnteredWith o p → HeldAt p q v → HeldAt o q v
held_since_if o p q v same at = subst (λ (x : Option PassValue). HeldAt x q v) same at

pub held_rises_if : (o p q : Option PassValue) (u v : ℕ) → HeldAt o p u → HeldRow p q v → u ≤ v
held_rises_if None p q u v one two = absurd one
held_rises_if (Some a) None q u v one two = absurd one
held_rises_if (Some a) (Some b) None u v one two = absurd two
held_rises_if (Some a) (Some b) (Some c) u v one two = not_above a.view b.view u v two.later one.held

pub since_if : (p q : Option PassValue) (v : ℕ) → HeldRow p q v → given_of p ≤ v
since_if None q v one = absurd one
since_if (Some b) None v one = absurd one
since_if (Some b) (Some c) v one = one.since

pub same_given_if : (p q : Option PassValue) (v : ℕ) → HeldRow p q v → given_of q ≡ given_of p
same_given_if None q v one = absurd one
same_given_if (Some b) None v one = absurd one
same_given_if (Some b) (Some c) v one = ap (λ (x : PassView). x.given) one.more.rest

pub said_more_if : (p q : Option PassValue) (v : ℕ) (note : Note) → HeldRow p q v → IsNotedIf p note → IsNotedIf q note
said_more_if None q v note one said = absurd one
said_more_if (Some b) None v note one said = absurd one
said_more_if (Some b) (Some c) v note one said = one.more.notes note said

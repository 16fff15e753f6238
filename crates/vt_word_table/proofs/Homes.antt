-- Readers that are at home, and passes that are given and taken back.
use Rattle.std.proofs.Common.{◌≡◌, ◌≢◌, ℕ, zero, suc, ◌≤◌, ◌<◌, inl, inr, ◌⊎◌, true, false, Option, None, Some, List, [], ◌∷◌, length, get_or, replicate, refl, sym, ap, ◌∙◌, subst, arith}
use Rattle.std.specs.Prelude.{All, Contains, IsSome, slice_set}
use Rattle.std.proofs.lemmas.Bool.{cases_lt}
use Rattle.std.proofs.lemmas.List.{get_or-set_other, get_or_past}
use Rattle.std.proofs.lemmas.List.Elements.{All-contains, Contains-append_left}
use Rattle.std.proofs.lemmas.Option.{get_or_from_slice_get, slice_get_within}
use Rattle.vt_journal.specs.Pages.{root_of}
use Rattle.vt_journal.specs.Changes.{newest}
use Rattle.vt_journal.specs.Lookups.{is_mapped}
use Rattle.vt_page_table.specs.Readers.{AreHome}
use Rattle.vt_sampler.specs.Lookups.{Note, EntryNote, WordNote}
use Rattle.vt_sampler.specs.GraceTypes.sizes.Sizes.{Sizes}
use Rattle.vt_sampler.specs.GraceTypes.views.EntryNote.{EntryNote as ReadEntry}
use Rattle.vt_sampler.specs.GraceTypes.views.WordNote.{WordNote as ReadWord}
use Rattle.vt_sampler.specs.GraceTypes.views.PassView.{PassView}
use Rattle.vt_sampler.specs.GraceTypes.views.WriterView.{WriterView}
use Rattle.vt_sampler.specs.Values.{WordsValue, PassValue}
use Rattle.vt_sampler.specs.Tokens.{IsPassOf}
use Rattle.vt_sampler.specs.LookupNotes.{FitsShape, IsNotedIn}
use Rattle.vt_grace.specs.WriterViews.{is_out, first_writer, after_look, version_of}
use Rattle.vt_grace.specs.Giving.{after_giving, after_return, new_pass}
use Rattle.vt_word_notes.specs.Views.{StreamerView, IsStreamerOf}
use Rattle.vt_grace.specs.Sound.{IsSound, IsSoundReturn}
use Rattle.vt_word_notes.specs.Noted.{IsAmong, IsNotedBy}
use Rattle.vt_word_table.specs.declared.table.WordReader.{WordReader}
use Rattle.vt_word_table.specs.WordReaders.{IsAtHome, HasOwnPass, HeldAt}
use Rattle.vt_word_table.specs.WordWriters.{HasTakenMore, CameHome, WasBack}

none_out : (m n : ℕ) → get_or (replicate m false) n false ≡ false
none_out zero n = refl
none_out (suc m) zero = refl
none_out (suc m) (suc n) = none_out m n

-- the readers of a new table are at home
pub first_home : (z : Sizes) (readers : List WordReader) → length readers ≡ z.samplers → All (λ r. r.pass ≡ None) readers
    → AreHome (λ k r. IsAtHome (first_writer z) k r.pass) z.samplers readers
first_home z readers number none = record {
  number = number;
  each = λ k r is.
      let inside = slice_get_within readers k r is in
      record {
        none = ap (λ (x : WordReader). x.pass) (sym (get_or_from_slice_get readers k r r is)) ∙ none k r inside;
        absent = none_out z.samplers k;
        inside = omega (arith, inside, number);
      };
}

-- a table of words is as large as its shape asks
pub table_fits : (words : WordsValue) (v : StreamerView) → IsStreamerOf words v → FitsShape v.shape words.sizes
table_fits words v of = record {
  pages = ap (λ (z : Sizes). z.pages) of.sizes;
  texels = ap (λ (z : Sizes). z.texels) of.sizes;
  root = ap (λ (z : Sizes). z.root) of.sizes;
}

-- a pass was given to a sampler
module _ (words : WordsValue) (v : StreamerView) (of : IsStreamerOf words v) (number : ℕ) (pass : PassValue) (is_of : IsPassOf words pass)
    (is : pass.view ≡ new_pass v.writer number) where
  root_is : v.writer.sizes.root ≡ root_of v.shape
  root_is = ap (λ (z : Sizes). z.root) (of.seen ∙ of.sizes)

  pub own_pass : IsSome (newest v.writer.journal (root_of v.shape)) → number < v.writer.sizes.samplers → HasOwnPass words v.shape number (Some pass)
  own_pass root inside = record {
    fits = table_fits words v of;
    pass = pass;
    has = refl;
    of = is_of;
    rooted = ap (λ (p : PassView). p.rooted) is ∙ ap (is_mapped (newest v.writer.journal)) root_is
        ∙ root;
    own = ap (λ (p : PassView). p.sampler) is;
    inside = subst (λ (z : Sizes). number < z.samplers) of.seen inside;
  }

  pub given_is : pass.view.given ≡ length v.writer.journal
  given_is = ap (λ (p : PassView). p.given) is

-- another sampler's pass is home as before
module _ (v w : WriterView) (number : ℕ) (is : w ≡ after_giving (after_look v number 0) number) where
  pub given_taken : HasTakenMore v w
  given_taken = record {
    returned = [];
    returned_are = ap (λ (x : WriterView). x.returned) is;
    entries = [];
    noted = ap (λ (x : WriterView). x.notes) is;
    words = [];
    worded = ap (λ (x : WriterView). x.word_notes) is;
  }

  pub others_home : (k : ℕ) (o : Option PassValue) → k ≢ number → IsAtHome v k o → IsAtHome w k o
  others_home k o other home = record {
    none = home.none;
    absent = ap (λ (x : WriterView). is_out x k) is ∙ get_or-set_other v.out number k true false other ∙ home.absent;
    inside = subst (λ (x : WriterView). k < x.sizes.samplers) (sym is) home.inside;
  }

-- a pass was taken back
module _ (v w : WriterView) (p : PassView) (is : w ≡ after_return v p) where
  pub return_taken : HasTakenMore v w
  return_taken = record {
    returned = record { sampler = p.sampler; given = p.given; held = p.held } ∷ [];
    returned_are = ap (λ (x : WriterView). x.returned) is;
    entries = p.notes;
    noted = ap (λ (x : WriterView). x.notes) is;
    words = p.word_notes;
    worded = ap (λ (x : WriterView). x.word_notes) is;
  }

  pub came_home : (number : ℕ) → p.sampler ≡ number → CameHome v w number p
  unfolding return_taken
  came_home number own = record {
    taken = return_taken;
    among = (0, omega arith, ap (λ (n : ℕ). record { sampler = n; given = p.given; held = p.held }) own);
    notes = notes;
  } where
    notes : (note : Note) → IsNotedIn p note → IsAmong p.notes p.word_notes note
    notes (EntryNote version page entry) has = has
    notes (WordNote version frame place word) has = has

  pub now_known : (note : Note) → IsNotedIn p note → IsNotedBy w note
  now_known (EntryNote version page entry) has =
      let n : ReadEntry = record { version = version; page = page; entry = entry } in
      subst (λ (x : WriterView). Contains x.notes n) (sym is) (Contains-append_left p.notes v.notes n has)
  now_known (WordNote version frame place word) has =
      let n : ReadWord = record { version = version; frame = frame; place = place; word = word } in
      subst (λ (x : WriterView). Contains x.word_notes n) (sym is) (Contains-append_left p.word_notes v.word_notes n has)

  pub was_back : (number version : ℕ) → p.sampler ≡ number → Contains p.held version → WasBack w number version
  was_back number version own has = record {
    by = record { sampler = p.sampler; given = p.given; held = p.held };
    among = subst (λ (x : WriterView). Contains x.returned (record { sampler = p.sampler; given = p.given; held = p.held })) (sym is) (0, omega arith, refl);
    sampler = own;
    held = has;
  }

  pub own_home : (number : ℕ) → p.sampler ≡ number → number < v.sizes.samplers → IsAtHome w number None
  own_home number own inside = record {
    none = refl;
    absent = ap (λ (x : WriterView). is_out x number) is ∙ gone;
    inside = subst (λ (x : WriterView). number < x.sizes.samplers) (sym is) inside;
  } where
    gone : get_or (slice_set v.out p.sampler false) number false ≡ false
    gone = ap (λ (n : ℕ). get_or (slice_set v.out p.sampler false) n false) (sym own) ∙ set_false v.out p.sampler where
      set_false : (l : List _) (i : ℕ) → get_or (slice_set l i false) i false ≡ false
      set_false [] i = refl
      set_false (x ∷ xs) zero = refl
      set_false (x ∷ xs) (suc i) = set_false xs i

  pub others_back : (k : ℕ) (o : Option PassValue) → IsAtHome v k o → IsAtHome w k o
  others_back k o home = record {
    none = home.none;
    absent = ap (λ (x : WriterView). is_out x k) is ∙ still v.out p.sampler k home.absent;
    inside = subst (λ (x : WriterView). k < x.sizes.samplers) (sym is) home.inside;
  } where
    still : (l : List _) (i j : ℕ) → get_or l j false ≡ false → get_or (slice_set l i false) j false ≡ false
    still [] i j e = e
    still (x ∷ xs) zero zero e = refl
    still (x ∷ xs) zero (suc j) e = e
    still (x ∷ xs) (suc i) zero e = e
    still (x ∷ xs) (suc i) (suc j) e = still xs i j e

-- a version that was held and is back is one of the journal
pub not_later : (w : WriterView) (number version : ℕ) → IsSound w → WasBack w number version → version ≤ version_of w
not_later w number version sound back =
    All-contains (λ (u : ℕ). u ≤ version_of w) back.by.held version
    (All-contains (IsSoundReturn (version_of w)) w.returned back.by sound.returned back.among).held back.held

-- what was held between two views of a pass is among what it held
pub held_among : (o : Option PassValue) (p : PassValue) (version : ℕ) → HeldAt o (Some p) version → Contains p.view.held version
held_among None p version was = absurd was
held_among (Some q) p version was = subst (λ (l : List ℕ). Contains l version) (sym was.held.held)
    (Contains-append_left was.held.more q.view.held version was.held.among)

-- the streamer of words stays so with more room
pub streamer_still : (words : WordsValue) (v w : StreamerView) → w ≡ record v { spare = w.spare } → IsStreamerOf words v → IsStreamerOf words w
streamer_still words v w rest of =
    let t = of.lawful in
    subst (λ (x : StreamerView). IsStreamerOf words x) (sym rest) (record {
      table = of.table;
      seen = of.seen;
      sizes = of.sizes;
      limits = of.limits;
      sound = of.sound;
      lawful = record {
        limits = t.limits;
        some_frame = t.some_frame;
        few_frames = t.few_frames;
        legal = t.legal;
        one_to_one = t.one_to_one;
        pages_inside = t.pages_inside;
        frames_inside = t.frames_inside;
        filled = t.filled;
      };
    })

-- where no sampler of a table has a pass, none has
pub all_in : (w : WriterView) (count : ℕ) → length w.out ≡ count → ((n : ℕ) → n < count → is_out w n ≡ false) → (n : ℕ) → is_out w n ≡ false
all_in w count number each n = by_case (cases_lt n count) where
  by_case : (n < count) ⊎ (count ≤ n) → is_out w n ≡ false
  by_case (inl low) = each n low
  by_case (inr high) = get_or_past w.out n false (omega (arith, number, high))

-- A pass is given and taken back.
use Rattle.std.proofs.Common.{◌≡◌, ◌≢◌, ◌⊎◌, ℕ, zero, suc, ◌+◌, ◌*◌, ◌<◌, ◌≤◌, Bool, true, false, List, [], ◌∷◌, ◌++◌, length, replicate, get_or, set, sym, refl, ap, ◌∙◌, subst, ⊎_elim, inl, inr, arith, is_some, Option, Some, None, length-set, get_or-set_other, get_or-set_same}
use mathlib.Core.Logic.{dite}
use mathlib.Core.Option.{some, some-injective}
use native.Mathlib.Decide.{ℕ_discrete}
use lib.ListN.{get_elem?, length-replicate}
use Rattle.std.proofs.lemmas.List.Elements.{All-nil, All-cons, All-append, All-replicate}
use Rattle.atomic_table.specs.Table.{Splits, Joins, opening}
use Rattle.atomic_table.proofs.Lists.{set_here, set_else, at_longer}
use Rattle.vt_journal.specs.declared.changes.Change.{Change}
use Rattle.vt_grace.specs.declared.sizes.Sizes.{Sizes}
use Rattle.vt_grace.specs.declared.views.Stage.TheVariants.{Idle}
use Rattle.vt_grace.specs.declared.views.PassView.{PassView}
use Rattle.vt_grace.specs.declared.views.WriterView.{WriterView}
use Rattle.vt_grace.specs.declared.views.View.{View}
use Rattle.vt_grace.specs.declared.views.View.TheVariants.{Writing, Passing, Spent}
use Rattle.vt_journal.specs.Changes.{Table, at, newest}
use Rattle.vt_grace.specs.Contents.{backed}
use Rattle.vt_journal.specs.Lookups.{is_mapped}
use Rattle.vt_grace.specs.Places.{words_of, entry_place, bank_of}
use Rattle.vt_grace.specs.Stages.{announcement}
use Rattle.vt_grace.specs.WriterViews.{version_of, is_out, first_writer}
use Rattle.vt_grace.specs.Giving.{aimed, giving, fresh_pass, new_pass, taken, after_giving, after_return, writers_first_view}
use Rattle.vt_grace.specs.PassViews.{idle}
use Rattle.vt_grace.specs.Seats.{Sat, passing, writing}
use Rattle.vt_grace.specs.Notes.{entry_number, IsTrueNote, IsTrueWord}
use Rattle.vt_grace.specs.Sound.{IsSoundReturn, IsSound}
use Rattle.vt_grace.specs.Rules.{IsSeatedPass, IsSeated, IsRuledBy, Ruled}
use Rattle.vt_grace.proofs.Keeping.{put, put_here, put_else, true≢false, same_writer, seats_stay}
use Rattle.vt_grace.proofs.Legal.{legal-none}

at_snoc_here : {A : Type 0} → (l : List A) (a b : A) (j : ℕ) → get_elem? (l ++ a ∷ []) j ≡ some b → (get_elem? l j ≡ some b) ⊎ ((j ≡ length l) × (a ≡ b))
at_snoc_here [] a b zero e = inr (refl, some-injective a b e)
at_snoc_here [] a b (suc j) e = cc
at_snoc_here (x ∷ xs) a b zero e = inl e
at_snoc_here (x ∷ xs) a b (suc j) e = ⊎_elim (λ t. inl t) (λ t. inr (ap suc t.0, t.1)) (at_snoc_here xs a b j e)

there : (vs : List View) (v : View) → get_elem? vs 0 ≡ some v → 0 < length vs
there [] v e = cc
there (x ∷ xs) v e = omega arith

-- what is known of the flag of another sampler
flag_else : (w : WriterView) (sampler k : ℕ) (b : Bool) → k ≢ sampler → get_or (set w.out sampler b) k false ≡ is_out w k
flag_else w sampler k b other = get_or-set_other w.out sampler k b false other

pub gives : (key : Sizes) (id : ℕ) (w : WriterView) → w.sizes ≡ key → aimed w.looks < key.samplers → is_out w (aimed w.looks) ≡ false
    → Splits (Ruled key) id (Writing w) (giving (Writing w)) (fresh_pass (Writing w))
gives key id w sizes inside gone s r at =
    let seat = same_writer key w r.w r.owner s id r.is at in let k : IsRuledBy key w r.owner s = subst (λ (x : WriterView). IsRuledBy key x r.owner s) seat.1 r.is in
    let sampler : ℕ = aimed w.looks in let p : PassView = new_pass w sampler in let w' : WriterView = after_giving w sampler in let count : w.sizes.samplers ≡ key.samplers = ap (λ z. z.samplers) sizes in
    let inside' : sampler < w.sizes.samplers = omega arith in let outs : length w.out ≡ w.sizes.samplers = k.sound.outs in
    let owner' : ℕ → ℕ = put r.owner sampler (length s.views) in let seats' : List View = set s.views 0 (Writing w') in
    let flag_here : is_out w' sampler ≡ true = get_or-set_same w.out sampler true false (omega arith) in
    let fresh : (q : PassView) → is_out w q.sampler ≡ true → q.sampler ≢ sampler = λ q out e. true≢false (sym out ∙ (ap (is_out w) e ∙ gone)) in
    let moves : (j : ℕ) (x : View) → IsSeated w s.words r.owner j x → IsSeated w' s.words owner' j x = given_to w sampler (length s.views) s.words r.owner fresh in
    subst (λ (j : ℕ). Ruled key record { words = s.words; homes = s.homes; views = set s.views j (Writing w') ++ Passing p ∷ [] }) (sym seat.0) record {
      w = w';
      owner = owner';
      is = record {
        sizes = k.sizes;
        writer = at_longer seats' (Passing p ∷ []) 0 (Writing w') (set_here s.views 0 (Writing w') (there s.views (Writing w) k.writer));
        wide = k.wide;
        agrees = record {
          version = k.agrees.version;
          absent = λ i low off. dite (ℕ_discrete i sampler) (λ e. absurd (true≢false (sym flag_here ∙ (ap (is_out w') (sym e) ∙ off)))) (λ other. k.agrees.absent i low (sym (flag_else w sampler i true other) ∙ off));
          announced = k.agrees.announced;
          entries = k.agrees.entries;
          texels = k.agrees.texels;
        };
        sound = record {
          legal = k.sound.legal;
          most = k.sound.most;
          floors = k.sound.floors;
          low = k.sound.low;
          outs = length-set w.out sampler true ∙ outs;
          returned = k.sound.returned;
          entries = k.sound.entries;
          small = k.sound.small;
          window = k.sound.window;
          notes = k.sound.notes;
          contents = k.sound.contents;
          texels = k.sound.texels;
          filled = k.sound.filled;
          word_notes = k.sound.word_notes;
        };
        seats = λ j x e. ⊎_elim
            (λ before. seats_stay (IsSeated w s.words r.owner) (IsSeated w' s.words owner') s.views 0 (Writing w') refl (λ i y _ there. moves i y (k.seats i y there)) j x before)
            (λ t. subst (λ (z : View). IsSeated w' s.words owner' j z) t.1 record {
              owned = put_here r.owner sampler (length s.views) ∙ (sym (length-set s.views 0 (Writing w')) ∙ sym t.0);
              is_out = flag_here;
              word = k.agrees.absent sampler inside' gone;
              sound = record {
                sizes = refl;
                inside = inside';
                stage = tt;
                since = tt;
                given = omega arith;
                rooted = λ was v from to. let here : v ≡ version_of w = omega arith in subst (λ (m : Table). m w.sizes.root ≢ None) (ap (at_version w.journal) (sym here)) (mapped_now w was);
                rose = tt;
                held = All-nil (λ v. v ≤ version_of w);
                notes = All-nil (IsTrueNote w.sizes w.journal);
                word_notes = All-nil (IsTrueWord w.journal w.contents);
              };
            })
            (at_snoc_here seats' (Passing p) x j e);
      };
    }
  where
    at_version : List Change → ℕ → Table
    at_version = Rattle.vt_journal.specs.Changes.at

    mapped : (o : Option ℕ) → is_some o ≡ true → o ≢ None
    mapped o was e = cc

    mapped_now : (w : WriterView) → is_mapped (newest w.journal) w.sizes.root ≡ true → newest w.journal w.sizes.root ≢ None
    mapped_now w was = mapped (newest w.journal w.sizes.root) was

    given_to : (w : WriterView) (sampler seat : ℕ) (words : List ℕ) (owner : ℕ → ℕ) → ((q : PassView) → is_out w q.sampler ≡ true → q.sampler ≢ sampler)
        → (j : ℕ) (x : View) → IsSeated w words owner j x → IsSeated (after_giving w sampler) words (put owner sampler seat) j x
    given_to w sampler seat words owner fresh j (Writing y) sat = sat
    given_to w sampler seat words owner fresh j (Passing q) sat = let other : q.sampler ≢ sampler = fresh q sat.is_out in record {
      owned = put_else owner sampler seat q.sampler other ∙ sat.owned;
      is_out = flag_else w sampler q.sampler true other ∙ sat.is_out;
      word = sat.word;
      sound = sat.sound;
    }
    given_to w sampler seat words owner fresh j Spent sat = tt

pub takes_back : (key : Sizes) (id other : ℕ) (w : WriterView) (p : PassView) → p.stage ≡ Idle → Joins (Ruled key) id (Writing w) other (Passing p) (taken (Writing w) (Passing p)) Spent
takes_back key id other w p rests s r at apart there' =
    let seat = same_writer key w r.w r.owner s id r.is at in let k : IsRuledBy key w r.owner s = subst (λ (x : WriterView). IsRuledBy key x r.owner s) seat.1 r.is in
    let w' : WriterView = after_return w p in let other≢0 : other ≢ 0 = λ e. apart (e ∙ sym seat.0) in
    let before : IsSeatedPass w s.words r.owner other p = k.seats other (Passing p) (sym (set_else s.views id other (Writing w') apart) ∙ there') in
    let flag_here : is_out w' p.sampler ≡ false = get_or-set_same' w.out p.sampler in
    let word : get_or s.words (1 + p.sampler) 0 ≡ 0 = before.word ∙ ap announcement rests in
    subst (λ (j : ℕ). Ruled key record { words = s.words; homes = s.homes; views = set (set s.views j (Writing w')) other Spent }) (sym seat.0) record {
      w = w';
      owner = r.owner;
      is = record {
        sizes = k.sizes;
        writer = set_else (set s.views 0 (Writing w')) other 0 Spent (λ e. other≢0 (sym e)) ∙ set_here s.views 0 (Writing w') (there s.views (Writing w) k.writer);
        wide = k.wide;
        agrees = record {
          version = k.agrees.version;
          absent = λ i low off. dite (ℕ_discrete i p.sampler) (λ e. ap (λ j. get_or s.words (1 + j) 0) e ∙ word) (λ else. k.agrees.absent i low (sym (flag_else w p.sampler i false else) ∙ off));
          announced = k.agrees.announced;
          entries = k.agrees.entries;
          texels = k.agrees.texels;
        };
        sound = record {
          legal = k.sound.legal;
          most = k.sound.most;
          floors = k.sound.floors;
          low = k.sound.low;
          outs = length-set w.out p.sampler false ∙ k.sound.outs;
          returned = All-cons (IsSoundReturn (version_of w)) _ w.returned record { given = before.sound.given; rose = before.sound.rose; held = before.sound.held } k.sound.returned;
          entries = k.sound.entries;
          small = k.sound.small;
          window = k.sound.window;
          notes = All-append (IsTrueNote w.sizes w.journal) p.notes w.notes before.sound.notes k.sound.notes;
          contents = k.sound.contents;
          texels = k.sound.texels;
          filled = k.sound.filled;
          word_notes = All-append (IsTrueWord w.journal w.contents) p.word_notes w.word_notes before.sound.word_notes k.sound.word_notes;
        };
        seats = seats_stay (λ j x. j ≢ other → IsSeated w' s.words r.owner j x) (IsSeated w' s.words r.owner) (set s.views 0 (Writing w')) other Spent tt
            (λ j x else here. seats_stay (IsSeated w s.words r.owner) (λ i y. i ≢ other → IsSeated w' s.words r.owner i y) s.views 0 (Writing w') (λ _. refl)
            (λ i y _ there away. rest i y away (k.seats i y there) before.owned) j x here else);
      };
    }
  where
    get_or-set_same' : (out : List Bool) (i : ℕ) → get_or (set out i false) i false ≡ false
    get_or-set_same' [] i = refl
    get_or-set_same' (b ∷ bs) zero = refl
    get_or-set_same' (b ∷ bs) (suc i) = get_or-set_same' bs i

    rest : (j : ℕ) (x : View) → j ≢ other → IsSeated w s.words r.owner j x → r.owner p.sampler ≡ other → IsSeated (after_return w p) s.words r.owner j x
    rest j (Writing y) else sat own = sat
    rest j (Passing q) else sat own = let away : q.sampler ≢ p.sampler = λ e. else (sym sat.owned ∙ (ap r.owner e ∙ own)) in record {
      owned = sat.owned;
      is_out = flag_else w p.sampler q.sampler false away ∙ sat.is_out;
      word = sat.word;
      sound = sat.sound;
    }
    rest j Spent else sat own = tt

pub zeros : (n i : ℕ) → (let z : ℕ = 0 in get_or (replicate n z) i z ≡ z)
zeros zero i = refl
zeros (suc n) zero = refl
zeros (suc n) (suc i) = zeros n i

nothing_0 : (page : ℕ) → entry_number (at [] 0 page) ≡ 0
unfolding at
nothing_0 page = refl

pub nothing : (v : ℕ) → v ≡ 0 → (page : ℕ) → entry_number (at [] v page) ≡ 0
nothing v none_yet page = ap (λ (x : ℕ). entry_number (at [] x page)) none_yet ∙ nothing_0 page

unbacked_0 : (page : ℕ) (b : ℕ × List ℕ) → backed [] [] 0 page ≡ Some b → ⊥
unfolding backed
unbacked_0 page b e = cc

unbacked : (v : ℕ) → v ≡ 0 → (page : ℕ) (b : ℕ × List ℕ) → backed [] [] v page ≡ Some b → ⊥
unbacked v none_yet page b e = unbacked_0 page b (ap (λ (x : ℕ). backed [] [] x page) (sym none_yet) ∙ e)

-- what is true of the writer's view of a new table
pub sound_first : (key : Sizes) → IsSound (first_writer key)
sound_first key = record {
  legal = legal-none key.root;
  most = omega arith;
  floors = length-replicate key.samplers 0;
  low = λ k below. let z = zeros key.samplers k in omega arith;
  outs = length-replicate key.samplers false;
  returned = All-nil (IsSoundReturn 0);
  entries = length-replicate (4 * key.pages) 0;
  small = All-replicate (λ x. x ≤ key.frames) (4 * key.pages) 0 (omega arith);
  window = λ v inw page low. zeros (4 * key.pages) (entry_place key (bank_of v) page) ∙ sym (nothing v (let top = inw.0 in omega arith) page);
  notes = All-nil (IsTrueNote key []);
  contents = refl;
  texels = length-replicate (key.frames * key.texels) 0;
  filled = λ v inw page frame content e. absurd (unbacked v (let top = inw.0 in omega arith) page (frame, content) e);
  word_notes = All-nil (IsTrueWord [] []);
}

-- a new table, all of whose words are 0, keeps the rule
pub starts : (key : Sizes) (n : ℕ) → n ≡ words_of key → Ruled key (opening (replicate n 0) [] (writers_first_view key))
starts key n wide = record {
  w = first_writer key;
  owner = λ _. 0;
  is = record {
    sizes = refl;
    writer = refl;
    wide = length-replicate n 0 ∙ wide;
    agrees = record {
      version = zeros n 0;
      absent = λ k inside gone. zeros n (1 + k);
      announced = λ k inside. let z = zeros n (1 + k) in omega arith;
      entries = λ i inside. zeros n (1 + key.samplers + i) ∙ sym (zeros (4 * key.pages) i);
      texels = λ i inside. zeros n (1 + key.samplers + 4 * key.pages + i) ∙ sym (zeros (key.frames * key.texels) i);
    };
    sound = sound_first key;
    seats = first;
  };
}
  where
    first : (j : ℕ) (v : View) → get_elem? (writers_first_view key ∷ []) j ≡ some v → IsSeated (first_writer key) (replicate n 0) (λ _. 0) j v
    first zero v e = subst (IsSeated (first_writer key) (replicate n 0) (λ _. 0) 0) (some-injective (writers_first_view key) v e) refl
    first (suc j) v e = cc

pub gives_at : (key : Sizes) (id sampler : ℕ) (m : Sat) (w : WriterView) → m ≡ writing w → w.sizes ≡ key → aimed w.looks ≡ sampler → sampler < key.samplers → is_out w sampler ≡ false
    → Splits (Ruled key) id m.0 (giving m.0) (fresh_pass m.0)
gives_at key id sampler m w is sizes aim inside gone = subst (λ (z : Sat). Splits (Ruled key) id z.0 (giving z.0) (fresh_pass z.0)) (sym is)
    (gives key id w sizes (subst (λ (k : ℕ). k < key.samplers) (sym aim) inside) (ap (is_out w) aim ∙ gone))

pub takes_back_at : (key : Sizes) (id other : ℕ) (m n : Sat) (w : WriterView) (p : PassView) → m ≡ writing w → n ≡ passing p → p.stage ≡ Idle → Joins (Ruled key) id m.0 other n.0 (taken m.0 n.0) Spent
takes_back_at key id other m n w p is that idle = subst (λ (z : Sat × Sat). Joins (Ruled key) id z.0.0 other z.1.0 (taken z.0.0 z.1.0) Spent) (λ i. (sym is i, sym that i)) (takes_back key id other w p idle)

-- giving a pass changes nothing of what is true of the writer's view
pub sound_giving : (w : WriterView) (sampler : ℕ) → IsSound w → IsSound (after_giving w sampler)
sound_giving w sampler h = record {
  legal = h.legal;
  most = h.most;
  floors = h.floors;
  low = h.low;
  outs = length-set w.out sampler true ∙ h.outs;
  returned = h.returned;
  entries = h.entries;
  small = h.small;
  window = h.window;
  notes = h.notes;
  contents = h.contents;
  texels = h.texels;
  filled = h.filled;
  word_notes = h.word_notes;
}

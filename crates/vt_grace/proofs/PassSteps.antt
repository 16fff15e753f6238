-- Each step of a pass keeps the rule.
use Rattle.std.proofs.Common.{◌≡◌, ◌≢◌, ℕ, ◌+◌, ◌*◌, ◌%◌, ◌<◌, ◌≤◌, List, ◌∷◌, length, get_or, set, sym, refl, ap, ◌∙◌, subst, arith, Option, Some, None, length-set, get_or-set_other, get_or-set_same}
use mathlib.Core.Option.{some, none}
use lib.ListN.{get_elem?}
use lib.Seq.{set-get_or}
use Rattle.std.proofs.lemmas.List.Elements.{All-cons, All-get_or, All-contains}
use Rattle.atomic_table.specs.Table.{State, step, keeps, Allows}
use Rattle.vt_journal.specs.declared.changes.Change.{Change}
use Rattle.vt_grace.specs.declared.sizes.Sizes.{Sizes}
use Rattle.vt_grace.specs.declared.views.Stage.{Stage}
use Rattle.vt_grace.specs.declared.views.Stage.TheVariants.{Idle, Hinted, Announced, Holding}
use Rattle.vt_grace.specs.declared.views.EntryNote.{EntryNote}
use Rattle.vt_grace.specs.declared.views.PassView.{PassView}
use Rattle.vt_grace.specs.declared.views.WriterView.{WriterView}
use Rattle.vt_grace.specs.declared.views.View.{View}
use Rattle.vt_grace.specs.declared.views.View.TheVariants.{Passing}
use Rattle.vt_journal.specs.Changes.{at}
use Rattle.vt_grace.specs.Contents.{backed}
use Rattle.vt_grace.specs.Places.{words_of, entry_place, entry_word, texel_place, texel_word, bank_of}
use Rattle.vt_grace.specs.Stages.{announcement, hint_of, held_of, IsStageIn, IsSince}
use Rattle.vt_grace.specs.WriterViews.{version_of, floor_of, is_out}
use Rattle.vt_grace.specs.PassViews.{at_stage, idle, holding, noting, wording, HasEntry, NoneAbove}
use Rattle.vt_grace.specs.Seats.{Sat, passing, pass_in}
use Rattle.vt_grace.specs.Notes.{entry_number, IsTrueNote, IsTrueWord}
use Rattle.vt_grace.specs.Banks.{IsInWindow}
use Rattle.vt_grace.specs.Sound.{IsSoundPass}
use Rattle.vt_grace.specs.Rules.{IsSeatedPass, IsRuledBy, Ruled}
use Rattle.vt_grace.specs.Plays.{hinted, announced, HoldsNow, held, unpinned, HasRead, read, worded}
use Rattle.vt_grace.proofs.Keeping.{pass_step}
use Rattle.vt_grace.proofs.Rows.{place_low, before_row, same_texel}
use Rattle.vt_grace.proofs.Contents.{has_content}

-- the facts of a seat that is in a stage
stage_in : (v f : ℕ) (s t : Stage) → s ≡ t → IsStageIn v f s → IsStageIn v f t
stage_in v f s t is h = subst (IsStageIn v f) is h

-- a pass at another stage
restaged : (z : Sizes) (journal : List Change) (contents : List (List ℕ)) (floor : ℕ) (p : PassView) (stage : Stage) → IsStageIn (length journal) floor stage → IsSince p.given stage → IsSoundPass z journal contents floor p
    → IsSoundPass z journal contents floor (at_stage stage p)
restaged z journal contents floor p stage stays since sound = record {
  sizes = sound.sizes;
  inside = sound.inside;
  stage = stays;
  since = since;
  given = sound.given;
  rooted = sound.rooted;
  rose = sound.rose;
  held = sound.held;
  notes = sound.notes;
  word_notes = sound.word_notes;
}

-- the rule after a load by a pass
pass_loads : (key : Sizes) (w : WriterView) (owner : ℕ → ℕ) (s : State (Unit {0}) View) (i id : ℕ) (p p' : PassView) → IsRuledBy key w owner s → get_elem? s.views id ≡ some (Passing p)
    → p'.sampler ≡ p.sampler → announcement p'.stage ≡ announcement p.stage → IsSoundPass w.sizes w.journal w.contents (floor_of w p'.sampler) p'
    → IsRuledBy key w owner record { words = set s.words i (get_or s.words i 0); homes = s.homes; views = set s.views id (Passing p') }
pass_loads key w owner s i id p p' r at same word sound = let before : IsSeatedPass w s.words owner id p = r.seats id (Passing p) at in
    subst (λ (ws : List ℕ). IsRuledBy key w owner record { words = ws; homes = s.homes; views = set s.views id (Passing p') }) (sym (set-get_or s.words i 0))
    (pass_step key w owner s id p p' s.words r at same refl (λ _ _. refl)
    record { owned = ap owner same ∙ before.owned; is_out = ap (is_out w) same ∙ before.is_out; word = ap (λ k. get_or s.words (1 + k) 0) same ∙ (before.word ∙ sym word); sound = sound })

-- the rule after a pass stored its own word
pass_stores : (key : Sizes) (w : WriterView) (owner : ℕ → ℕ) (s : State (Unit {0}) View) (n id : ℕ) (p p' : PassView) → IsRuledBy key w owner s → get_elem? s.views id ≡ some (Passing p)
    → p'.sampler ≡ p.sampler → n ≡ announcement p'.stage → IsSoundPass w.sizes w.journal w.contents (floor_of w p'.sampler) p'
    → IsRuledBy key w owner record { words = set s.words (1 + p.sampler) n; homes = s.homes; views = set s.views id (Passing p') }
pass_stores key w owner s n id p p' r at same word sound = let before : IsSeatedPass w s.words owner id p = r.seats id (Passing p) at in
    let wide : length s.words ≡ words_of key = r.wide in let inside : p.sampler < w.sizes.samplers = before.sound.inside in let sizes : w.sizes.samplers ≡ key.samplers = ap (λ z. z.samplers) r.sizes in
    pass_step key w owner s id p p' (set s.words (1 + p.sampler) n) r at same (length-set s.words (1 + p.sampler) n) (λ i other. get_or-set_other s.words (1 + p.sampler) i n 0 other)
    record {
      owned = ap owner same ∙ before.owned;
      is_out = ap (is_out w) same ∙ before.is_out;
      word = ap (λ k. get_or (set s.words (1 + p.sampler) n) (1 + k) 0) same ∙ (get_or-set_same s.words (1 + p.sampler) n 0 (omega arith) ∙ word);
      sound = sound;
    }

-- a load by a pass, which finds its own facts, and the writer's
pass_allows : (key : Sizes) (slots id i : ℕ) (me : Sat) (p : PassView) (then : ℕ → Sat → Type 0) → me ≡ passing p
    → ((s : State (Unit {0}) View) (w : WriterView) (owner : ℕ → ℕ) → IsRuledBy key w owner s → IsSeatedPass w s.words owner id p
    → (p' : PassView) × (p'.sampler ≡ p.sampler) × (announcement p'.stage ≡ announcement p.stage) × IsSoundPass w.sizes w.journal w.contents (floor_of w p'.sampler) p' × then (get_or s.words i 0) (passing p'))
    → Allows (Ruled key) slots id me i (λ n. n) then
pass_allows key slots id i me p then is does = subst (λ (m : Sat). Allows (Ruled key) slots id m i (λ n. n) then) (sym is) (λ s r _ at _.
    let out = does s r.w r.owner r.is (r.is.seats id (Passing p) at) in (
      Passing out.0,
      keeps,
      tt,
      record { w = r.w; owner = r.owner; is = pass_loads key r.w r.owner s i id p out.0 r.is at out.1 out.2 out.3 },
      out.4,
    ))

-- a store by a pass of its own word
pass_sets : (key : Sizes) (slots id sampler n : ℕ) (me : Sat) (p : PassView) (then : Sat → Type 0) → p.sampler ≡ sampler → me ≡ passing p
    → ((s : State (Unit {0}) View) (w : WriterView) (owner : ℕ → ℕ) → IsRuledBy key w owner s → IsSeatedPass w s.words owner id p
    → (p' : PassView) × (p'.sampler ≡ p.sampler) × (n ≡ announcement p'.stage) × IsSoundPass w.sizes w.journal w.contents (floor_of w p'.sampler) p' × then (passing p'))
    → Allows (Ruled key) slots id me (1 + sampler) (λ _. n) (λ _. then)
pass_sets key slots id sampler n me p then where_ is does = subst (λ (z : Sat × ℕ). Allows (Ruled key) slots id z.0 (1 + z.1) (λ _. n) (λ _. then)) (λ i. (sym is i, where_ i)) (λ s r _ at _.
    let out = does s r.w r.owner r.is (r.is.seats id (Passing p) at) in (
      Passing out.0,
      keeps,
      tt,
      record { w = r.w; owner = r.owner; is = pass_stores key r.w r.owner s n id p out.0 r.is at out.1 out.2 out.3 },
      out.4,
    ))

pub hints : (key : Sizes) (slots id : ℕ) (me : Sat) (p : PassView) → me ≡ passing p → p.stage ≡ Idle → Allows (Ruled key) slots id me 0 (λ n. n) (hinted (step slots 0 0 0 none) me)
hints key slots id me p is rests = pass_allows key slots id 0 me p (hinted (step slots 0 0 0 none) me) is (λ s w owner r before.
    let n : ℕ = get_or s.words 0 0 in let now : n ≡ version_of w = r.agrees.version in let most = r.sound.most in (
      at_stage (Hinted n) p,
      refl,
      ap announcement (sym rests),
      restaged w.sizes w.journal w.contents (floor_of w p.sampler) p (Hinted n) (omega arith) tt before.sound,
      subst (λ (z : Sat). hinted (step slots 0 0 0 none) z n (passing (at_stage (Hinted n) p))) (sym is) (omega arith, refl),
    ))

pub announces : (key : Sizes) (slots id sampler : ℕ) (me : Sat) (p : PassView) (k : ℕ) → p.sampler ≡ sampler → me ≡ passing p → p.stage ≡ Hinted k
    → Allows (Ruled key) slots id me (1 + sampler) (λ _. k + 1) (λ _. announced (step slots (1 + sampler) (k + 1) 0 none) me (k + 1))
announces key slots id sampler me p k where_ is hint = pass_sets key slots id sampler (k + 1) me p (announced (step slots (1 + sampler) (k + 1) 0 none) me (k + 1)) where_ is (λ s w owner r before. (
  at_stage (Announced k) p,
  refl,
  refl,
  restaged w.sizes w.journal w.contents (floor_of w p.sampler) p (Announced k) (stage_in (version_of w) (floor_of w p.sampler) p.stage (Hinted k) hint before.sound.stage) tt before.sound,
  subst (λ (z : Sat). passing (at_stage (Announced k) p) ≡ passing (at_stage (Announced (hint_of (pass_in z.0).stage)) (pass_in z.0))) (sym is)
      (ap (λ (st : Stage). let x : Sat = passing (at_stage (Announced (hint_of st)) p) in x) (sym hint)),
))

pub holds : (key : Sizes) (slots id : ℕ) (me : Sat) (p : PassView) (k : ℕ) → me ≡ passing p → p.stage ≡ Announced k → Allows (Ruled key) slots id me 0 (λ n. n) (held (step slots 0 0 0 none) me)
holds key slots id me p k is heard = pass_allows key slots id 0 me p (held (step slots 0 0 0 none) me) is (λ s w owner r before.
    let n : ℕ = get_or s.words 0 0 in let now : n ≡ version_of w = r.agrees.version in let k' : ℕ = hint_of p.stage in let same : k' ≡ k = ap hint_of heard in
    let low : k ≤ version_of w = stage_in (version_of w) (floor_of w p.sampler) p.stage (Announced k) heard before.sound.stage in
    let floor : floor_of w p.sampler ≤ version_of w = r.sound.low p.sampler before.sound.inside in
    let given : p.given ≤ version_of w = before.sound.given in
    let below : NoneAbove n p.held = subst (λ (v : ℕ). NoneAbove v p.held) (sym now) before.sound.held in
    let taken : HoldsNow p n (passing (holding n p)) = record { now = refl; above = omega arith; given = omega arith; held = below } in (
      holding n p,
      refl,
      ap (λ (j : ℕ). j + 1) same ∙ ap announcement (sym heard),
      record {
        sizes = before.sound.sizes;
        inside = before.sound.inside;
        stage = (omega arith, omega arith, omega arith);
        since = omega arith;
        given = given;
        rooted = before.sound.rooted;
        rose = (omega arith, below, before.sound.rose);
        held = All-cons (λ v. v ≤ version_of w) n p.held (omega arith) before.sound.held;
        notes = before.sound.notes;
        word_notes = before.sound.word_notes;
      },
      subst (λ (z : Sat). held (step slots 0 0 0 none) z n (passing (holding n p))) (sym is) taken,
    ))

pub unpins : (key : Sizes) (slots id sampler : ℕ) (me : Sat) (p : PassView) → p.sampler ≡ sampler → me ≡ passing p
    → Allows (Ruled key) slots id me (1 + sampler) (λ _. 0) (λ _. unpinned (step slots (1 + sampler) 0 0 none) me 0)
unpins key slots id sampler me p where_ is = pass_sets key slots id sampler 0 me p (unpinned (step slots (1 + sampler) 0 0 none) me 0) where_ is (λ s w owner r before. (
  idle p,
  refl,
  refl,
  restaged w.sizes w.journal w.contents (floor_of w p.sampler) p Idle tt tt before.sound,
  subst (λ (z : Sat). passing (idle p) ≡ passing (idle (pass_in z.0))) (sym is) refl,
))

-- what a held version's entry is
read_entry : (key : Sizes) (w : WriterView) (owner : ℕ → ℕ) (s : State (Unit {0}) View) (p : PassView) (page k u : ℕ) → IsRuledBy key w owner s → IsSoundPass w.sizes w.journal w.contents (floor_of w p.sampler) p
    → IsStageIn (version_of w) (floor_of w p.sampler) (Holding k u) → page < w.sizes.pages
    → (get_or s.words (entry_word w.sizes (bank_of u) page) 0 ≡ entry_number (at w.journal u page)) × (get_or s.words (entry_word w.sizes (bank_of u) page) 0 ≤ w.sizes.frames)
read_entry key w owner s p page k u r sound stage inside =
    let place : ℕ = entry_place w.sizes (bank_of u) page in let low : place < 4 * w.sizes.pages = place_low (bank_of u) w.sizes.pages page (omega arith) inside in
    let found : get_or s.words (entry_word w.sizes (bank_of u) page) 0 ≡ get_or w.entries place 0 = r.agrees.entries place low in let long = r.sound.entries in (
      found ∙ r.sound.window u (stage.2, (p.sampler, sound.inside, stage.1)) page inside,
      subst (λ (x : ℕ). x ≤ w.sizes.frames) (sym found) (All-get_or (λ e. e ≤ w.sizes.frames) w.entries place 0 (omega arith) r.sound.small),
    )

entry_some : (o : Option ℕ) → o ≢ None → entry_number o ≢ 0
entry_some None there e = there refl
entry_some (Some f) there e = absurd (omega arith)

pub reads : (key : Sizes) (slots id page k u : ℕ) (me : Sat) (p : PassView) → me ≡ passing p → p.stage ≡ Holding k u → page < p.sizes.pages
    → (i : ℕ) → i ≡ entry_word p.sizes (bank_of u) page → Allows (Ruled key) slots id me i (λ n. n) (read (step slots i 0 0 none) me)
reads key slots id page k u me p is holds_it inside i where_ = pass_allows key slots id i me p (read (step slots i 0 0 none) me) is (λ s w owner r before.
    let n : ℕ = get_or s.words i 0 in let z : Sizes = w.sizes in let sizes : p.sizes ≡ z = before.sound.sizes in
    let inside' : page < z.pages = subst (λ (x : Sizes). page < x.pages) sizes inside in
    let stage : IsStageIn (version_of w) (floor_of w p.sampler) (Holding k u) = stage_in (version_of w) (floor_of w p.sampler) p.stage (Holding k u) holds_it before.sound.stage in
    let since : p.given ≤ u = subst (IsSince p.given) holds_it before.sound.since in
    let got = read_entry key w owner s p page k u r before.sound stage inside' in
    let there : i ≡ entry_word z (bank_of u) page = where_ ∙ ap (λ (x : Sizes). entry_word x (bank_of u) page) sizes in
    let value : n ≡ entry_number (at w.journal u page) = ap (λ (j : ℕ). get_or s.words j 0) there ∙ got.0 in
    let most : n ≤ z.frames = subst (λ (j : ℕ). get_or s.words j 0 ≤ z.frames) (sym there) got.1 in
    let v : ℕ = held_of p.stage in let held_is : v ≡ u = ap held_of holds_it in
    let true_note : IsTrueNote z w.journal record { version = v; page = page; entry = n } = record {
      inside = inside';
      known = let up = stage.2 in omega arith;
      small = most;
      is = value ∙ ap (λ (x : ℕ). entry_number (at w.journal x page)) (sym held_is);
    } in
    let heard : HasRead p page n (passing (noting v page n p)) = record {
      now = refl;
      most = subst (λ (x : Sizes). n ≤ x.frames) (sym sizes) most;
      root = λ at_root was e. entry_some (at w.journal u page)
          (subst (λ (x : ℕ). at w.journal u x ≢ None) (sym (at_root ∙ ap (λ x. x.root) sizes)) (before.sound.rooted was u since stage.2)) (sym value ∙ e);
    } in (
      noting v page n p,
      refl,
      refl,
      record {
        sizes = before.sound.sizes;
        inside = before.sound.inside;
        stage = before.sound.stage;
        since = before.sound.since;
        given = before.sound.given;
        rooted = before.sound.rooted;
        rose = before.sound.rose;
        held = before.sound.held;
        notes = All-cons (IsTrueNote z w.journal) _ p.notes true_note before.sound.notes;
        word_notes = before.sound.word_notes;
      },
      subst (λ (y : Sat). read (step slots i 0 0 none) y n (passing (noting v page n p))) (sym is) (λ q at_q.
          let same : page ≡ q = let a : i ≡ entry_word p.sizes (bank_of v) page = where_ ∙ ap (λ (x : ℕ). entry_word p.sizes (bank_of x) page) (sym held_is) in
          let b : i ≡ entry_word p.sizes (bank_of v) q = at_q in same_place p.sizes.samplers (bank_of v * p.sizes.pages) page q (sym a ∙ b) in
          subst (λ (x : ℕ). HasRead p x n (passing (noting v page n p))) same heard),
    ))
  where
    same_place : (a b x y : ℕ) → 1 + a + (b + x) ≡ 1 + a + (b + y) → x ≡ y
    same_place a b x y e = omega arith

-- what a step told of a pass's seat, and of the writer's
pub sees_pass : (m : Sat) (p : PassView) → m ≡ passing p → (m ≡ passing (pass_in m.0)) × (pass_in m.0 ≡ p)
sees_pass m p is = let same : pass_in m.0 ≡ p = ap (λ (z : Sat). pass_in z.0) is in (is ∙ ap passing (sym same), same)

-- what the three steps of a pin told together
pub record HasPinned (p : PassView) (h v : ℕ) (m : Sat) : Type 0 where
  pub is : m ≡ passing (record p { stage = Holding h v; held = v ∷ p.held })
  pub above : h ≤ v
  pub given : p.given ≤ v
  pub held : NoneAbove v p.held

pub pins : (p : PassView) (h v : ℕ) (m₁ m₂ m₃ : Sat) → m₁ ≡ passing (at_stage (Hinted h) p) → m₂ ≡ passing (at_stage (Announced (hint_of (pass_in m₁.0).stage)) (pass_in m₁.0))
    → HoldsNow (pass_in m₂.0) v m₃ → HasPinned p h v m₃
pins p h v m₁ m₂ m₃ hint heard took =
    let second : pass_in m₂.0 ≡ at_stage (Announced h) p = (sees_pass m₂ _ heard).1 ∙ ap (λ (q : PassView). at_stage (Announced (hint_of q.stage)) q) (sees_pass m₁ _ hint).1 in
    let all : HoldsNow (at_stage (Announced h) p) v m₃ = subst (λ (q : PassView). HoldsNow q v m₃) second took in
    record { is = all.now; above = all.above; given = all.given; held = all.held }

-- the word of an entry, as the call computes it
pub word_of_held : (z z' : Sizes) (k u i page : ℕ) (stage : Stage) → z' ≡ z → stage ≡ Holding k u → i ≡ entry_word z (u % 4) page → i ≡ entry_word z' (bank_of (held_of stage)) page
word_of_held z z' k u i page stage sizes holds_it is = is ∙ ap (λ (x : Sizes × ℕ). entry_word x.0 (bank_of x.1) page) (λ j. (sym sizes j, sym (ap held_of holds_it) j))

-- what the word of a frame is that a held version maps
read_word : (key : Sizes) (w : WriterView) (owner : ℕ → ℕ) (s : State (Unit {0}) View) (p : PassView) (page frame place u : ℕ) (content : List ℕ) → IsRuledBy key w owner s → IsInWindow w u
    → backed w.journal w.contents u page ≡ Some (frame, content) → frame < w.sizes.frames → place < w.sizes.texels
    → get_or s.words (texel_word w.sizes frame place) 0 ≡ get_or content place 0
read_word key w owner s p page frame place u content r inw is low inside =
    r.agrees.texels (texel_place w.sizes frame place) (before_row frame w.sizes.frames w.sizes.texels place low inside) ∙ r.sound.filled u inw page frame content is place inside

frame_of_entry : (o : Option ℕ) (frame : ℕ) → frame + 1 ≡ entry_number o → o ≡ Some frame
frame_of_entry None frame e = absurd (omega arith)
frame_of_entry (Some f) frame e = let same : f ≡ frame = omega arith in ap (λ (x : ℕ). Some x) same

pub words : (key : Sizes) (slots id frame place k u : ℕ) (me : Sat) (p : PassView) → me ≡ passing p → p.stage ≡ Holding k u → place < p.sizes.texels → HasEntry u p frame
    → (i : ℕ) → i ≡ texel_word p.sizes frame place → Allows (Ruled key) slots id me i (λ n. n) (worded (step slots i 0 0 none) me)
words key slots id frame place k u me p is holds_it inside noted i where_ = pass_allows key slots id i me p (worded (step slots i 0 0 none) me) is (λ s w owner r before.
    let n : ℕ = get_or s.words i 0 in let z : Sizes = w.sizes in let sizes : p.sizes ≡ z = before.sound.sizes in
    let inside' : place < z.texels = subst (λ (x : Sizes). place < x.texels) sizes inside in
    let stage : IsStageIn (version_of w) (floor_of w p.sampler) (Holding k u) = stage_in (version_of w) (floor_of w p.sampler) p.stage (Holding k u) holds_it before.sound.stage in
    let note : EntryNote = noted.0 in let true_note : IsTrueNote z w.journal note = All-contains (IsTrueNote z w.journal) p.notes note before.sound.notes noted.1 in
    let v : ℕ = held_of p.stage in let held_is : v ≡ u = ap held_of holds_it in let at_v : note.version ≡ v = noted.2 ∙ sym held_is in let entry_is : note.entry ≡ frame + 1 = noted.3 in
    let mapped : at w.journal v note.page ≡ Some frame = frame_of_entry (at w.journal v note.page) frame (sym entry_is ∙ (true_note.is ∙ ap (λ (x : ℕ). entry_number (at w.journal x note.page)) at_v)) in
    let content = has_content w.journal w.contents v note.page frame mapped in
    let low : frame < z.frames = let small = true_note.small in omega arith in
    let inw : IsInWindow w v = (let up = stage.2 in omega arith, (p.sampler, before.sound.inside, (let from = stage.1 in omega arith))) in
    let there : i ≡ texel_word z frame place = where_ ∙ ap (λ (x : Sizes). texel_word x frame place) sizes in
    let value : n ≡ get_or content.0 place 0 = ap (λ (j : ℕ). get_or s.words j 0) there ∙ read_word key w owner s p note.page frame place v content.0 r inw content.1 low inside' in
    let true_word : IsTrueWord w.journal w.contents record { version = v; frame = frame; place = place; word = n } = record {
      known = inw.0;
      page = note.page;
      content = content.0;
      is = content.1;
      word = sym value;
    } in (
      wording v frame place n p,
      refl,
      refl,
      record {
        sizes = before.sound.sizes;
        inside = before.sound.inside;
        stage = before.sound.stage;
        since = before.sound.since;
        given = before.sound.given;
        rooted = before.sound.rooted;
        rose = before.sound.rose;
        held = before.sound.held;
        notes = before.sound.notes;
        word_notes = All-cons (IsTrueWord w.journal w.contents) _ p.word_notes true_word before.sound.word_notes;
      },
      subst (λ (y : Sat). worded (step slots i 0 0 none) y n (passing (wording v frame place n p))) (sym is) (λ g q low_q at_q.
          let same = same_texel p.sizes frame g place q inside low_q (sym where_ ∙ at_q) in
          ap (λ (x : ℕ × ℕ). let y : Sat = passing (wording v x.0 x.1 n p) in y) (λ j. (same.0 j, same.1 j))),
    ))

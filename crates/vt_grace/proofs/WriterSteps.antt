-- Each step of the writer keeps the rule.
use Rattle.std.proofs.Common.{◌≡◌, ◌≢◌, ℕ, zero, suc, ◌+◌, ◌-◌, ◌*◌, ◌%◌, ◌<◌, ◌≤◌, List, [], ◌∷◌, ◌++◌, length, get_or, set, sym, refl, ap, ◌∙◌, subst, inl, inr, arith, Option, Some, None, All, length-set, length-append, get_or-set_other, get_or-set_same}
use mathlib.Core.Logic.{dite}
use mathlib.Core.Option.{none}
use native.Mathlib.Decide.{ℕ_discrete}
use lib.Seq.{set-get_or}
use Rattle.std.proofs.lemmas.List.Elements.{All-weaker, All-set}
use Rattle.atomic_table.specs.Table.{State, step, keeps, Allows}
use Rattle.vt_journal.specs.declared.changes.Change.{Change}
use Rattle.vt_grace.specs.declared.sizes.Sizes.{Sizes}
use Rattle.vt_grace.specs.declared.views.Stage.{Stage}
use Rattle.vt_grace.specs.declared.views.Stage.TheVariants.{Idle, Hinted, Announced, Holding}
use Rattle.vt_grace.specs.declared.views.EntryNote.{EntryNote}
use Rattle.vt_grace.specs.declared.views.PassView.{PassView}
use Rattle.vt_grace.specs.declared.views.WriterView.{WriterView}
use Rattle.vt_grace.specs.declared.views.View.{View}
use Rattle.vt_grace.specs.declared.views.View.TheVariants.{Writing}
use Rattle.vt_journal.specs.Changes.{Table, at, newest, changed, with_entry, IsNext}
use Rattle.vt_journal.specs.Lookups.{change_page}
use Rattle.vt_grace.specs.Changes.{IsNextKeeping}
use Rattle.vt_journal.specs.Limits.{most_versions}
use Rattle.vt_grace.specs.Places.{words_of, entry_place, entry_word, texel_place, texel_word, content_of, bank_of}
use Rattle.vt_grace.specs.Stages.{announcement, IsStageIn}
use Rattle.vt_grace.specs.WriterViews.{version_of, floor_of, raised, after_look, after_change, after_entry, after_word}
use Rattle.vt_grace.specs.Seats.{Sat, writing, writer_in}
use Rattle.vt_grace.specs.PassViews.{NoneAbove}
use Rattle.vt_grace.specs.Notes.{entry_number, IsTrueNote, IsTrueWord}
use Rattle.vt_grace.specs.Banks.{StandsForTable, IsInWindow, MayWriteNext, MayFill, MayPublishBank}
use Rattle.vt_grace.specs.Sound.{IsSoundPass, IsSoundReturn, IsSound}
use Rattle.vt_grace.specs.Rules.{IsRuledBy, Ruled}
use Rattle.vt_grace.specs.Plays.{held, HasLooked, looked, published, learnt, entered, filled}
use Rattle.vt_grace.proofs.Keeping.{same_writer, writer_step}
use Rattle.vt_grace.proofs.Legal.{legal-more, root_stays}
use Rattle.vt_journal.proofs.Versions.{at-front, newest-more, entry-same, entry-other, same_page}
use Rattle.vt_journal.specs.declared.changes.Change.TheVariants.{Map, Unmap}
use Rattle.vt_grace.proofs.Rows.{place_low, banks_apart, before_row, same_texel}
use Rattle.vt_grace.proofs.Contents.{next_filled, other_frames, later_word}

raised_low : (v f n : ℕ) → f ≤ v → n ≤ v + 1 → raised v f n ≤ v
raised_low v f zero low most = omega arith
raised_low v f (suc k) low most = omega arith

raised_up : (v f n : ℕ) → f ≤ v → f ≤ raised v f n
raised_up v f zero low = low
raised_up v f (suc k) low = omega arith

-- a stage stays sound where the floor is raised by its own word
raised_stage : (v f n : ℕ) (stage : Stage) → n ≡ announcement stage → IsStageIn v f stage → IsStageIn v (raised v f n) stage
raised_stage v f n Idle word h = tt
raised_stage v f n (Hinted k) word h = h
raised_stage v f n (Announced k) word h = h
raised_stage v f zero (Holding k u) word h = absurd (omega arith)
raised_stage v f (suc m) (Holding k u) word h = let a = h.0 in let b = h.1 in let c = h.2 in (a, omega arith, c)

-- a stage under a version that is one higher
later_stage : (v f : ℕ) (stage : Stage) → IsStageIn v f stage → IsStageIn (v + 1) f stage
later_stage v f Idle h = tt
later_stage v f (Hinted k) h = omega arith
later_stage v f (Announced k) h = omega arith
later_stage v f (Holding k u) h = let a = h.0 in let b = h.1 in let c = h.2 in (a, b, omega arith)

later_all : (v v' : ℕ) (held : List ℕ) → v ≤ v' → NoneAbove v held → NoneAbove v' held
later_all v v' held more = All-weaker (λ x. x ≤ v) (λ x. x ≤ v') (λ x low. omega arith) held

-- a note stays true as the journal grows
later_note : (z : Sizes) (journal : List Change) (change : Change) (n : EntryNote) → IsTrueNote z journal n → IsTrueNote z (journal ++ change ∷ []) n
later_note z journal change n h = let grown = length-append journal (change ∷ []) in let known = h.known in record {
  inside = h.inside;
  known = omega arith;
  small = h.small;
  is = h.is ∙ ap (λ (m : Table). entry_number (m n.page)) (sym (at-front journal (change ∷ []) n.version h.known));
}

later_notes : (z : Sizes) (journal : List Change) (change : Change) (ns : List EntryNote) → All (IsTrueNote z journal) ns → All (IsTrueNote z (journal ++ change ∷ [])) ns
later_notes z journal change = All-weaker (IsTrueNote z journal) (IsTrueNote z (journal ++ change ∷ [])) (later_note z journal change)

-- a pass under another floor
refloored : (z : Sizes) (journal : List Change) (contents : List (List ℕ)) (f f' : ℕ) (p : PassView) → IsStageIn (length journal) f' p.stage → IsSoundPass z journal contents f p → IsSoundPass z journal contents f' p
refloored z journal contents f f' p stays sound = record {
  sizes = sound.sizes;
  inside = sound.inside;
  stage = stays;
  since = sound.since;
  given = sound.given;
  rooted = sound.rooted;
  rose = sound.rose;
  held = sound.held;
  notes = sound.notes;
  word_notes = sound.word_notes;
}

-- a pass after a change
later_pass : (z : Sizes) (journal : List Change) (contents : List (List ℕ)) (change : Change) (content : List ℕ) (f : ℕ) (p : PassView) → length contents ≡ length journal → IsNextKeeping z.root (newest journal) change → IsSoundPass z journal contents f p → IsSoundPass z (journal ++ change ∷ []) (contents ++ content ∷ []) f p
later_pass z journal contents change content f p long next sound = let grown : length (journal ++ change ∷ []) ≡ length journal + 1 = length-append journal (change ∷ []) in let given = sound.given in record {
  sizes = sound.sizes;
  inside = sound.inside;
  stage = subst (λ (x : ℕ). IsStageIn x f p.stage) (sym grown) (later_stage (length journal) f p.stage sound.stage);
  since = sound.since;
  given = omega arith;
  rooted = λ was. root_stays z.root journal change p.given given next (sound.rooted was);
  rose = sound.rose;
  held = later_all _ _ p.held (omega arith) sound.held;
  notes = later_notes z journal change p.notes sound.notes;
  word_notes = All-weaker (IsTrueWord journal contents) (IsTrueWord (journal ++ change ∷ []) (contents ++ content ∷ [])) (later_word journal contents change content long) p.word_notes sound.word_notes;
}

-- a step by the writer, which finds its view at seat 0
writer_allows : (key : Sizes) (slots id i : ℕ) (f : ℕ → ℕ) (me : Sat) (w : WriterView) (then : ℕ → Sat → Type 0) → me ≡ writing w
    → ((s : State (Unit {0}) View) (owner : ℕ → ℕ) → IsRuledBy key w owner s
    → (w' : WriterView) × (IsRuledBy key w' owner record { words = set s.words i (f (get_or s.words i 0)); homes = s.homes; views = set s.views 0 (Writing w') } × then (get_or s.words i 0) (writing w')))
    → Allows (Ruled key) slots id me i f then
writer_allows key slots id i f me w then is does = subst (λ (m : Sat). Allows (Ruled key) slots id m i f then) (sym is) (λ s r _ at _.
    let seat = same_writer key w r.w r.owner s id r.is at in
    let out = does s r.owner (subst (λ (x : WriterView). IsRuledBy key x r.owner s) seat.1 r.is) in (
      Writing out.0,
      keeps,
      tt,
      subst (λ (j : ℕ). Ruled key record { words = set s.words i (f (get_or s.words i 0)); homes = s.homes; views = set s.views j (Writing out.0) }) (sym seat.0) record { w = out.0; owner = r.owner; is = out.1.0 },
      out.1.1,
    ))

pub looks : (key : Sizes) (slots id sampler : ℕ) (me : Sat) (w : WriterView) → me ≡ writing w → w.sizes ≡ key → sampler < key.samplers
    → Allows (Ruled key) slots id me (1 + sampler) (λ n. n) (looked (step slots (1 + sampler) 0 0 none) me)
looks key slots id sampler me w is sizes inside = writer_allows key slots id (1 + sampler) (λ n. n) me w (looked (step slots (1 + sampler) 0 0 none) me) is (λ s owner r.
    let n : ℕ = get_or s.words (1 + sampler) 0 in let w' : WriterView = after_look w sampler n in let v : ℕ = version_of w in let f : ℕ = floor_of w sampler in
    let count : w.sizes.samplers ≡ key.samplers = ap (λ z. z.samplers) sizes in let inside' : sampler < w.sizes.samplers = omega arith in
    let most : n ≤ v + 1 = r.agrees.announced sampler inside' in let long : length w.floors ≡ w.sizes.samplers = r.sound.floors in
    let floor_here : floor_of w' sampler ≡ raised v f n = get_or-set_same w.floors sampler (raised v f n) 0 (omega arith) in
    let floor_else : (k : ℕ) → k ≢ sampler → floor_of w' k ≡ floor_of w k = λ k other. get_or-set_other w.floors sampler k (raised v f n) 0 other in
    let floor_up : (k : ℕ) → floor_of w k ≤ floor_of w' k = λ k. dite (ℕ_discrete k sampler)
    (λ e. subst (λ (x : ℕ). floor_of w k ≤ x) (sym (ap (floor_of w') e ∙ floor_here)) (subst (λ (x : ℕ). x ≤ raised v f n) (sym (ap (floor_of w) e)) (raised_up v f n (r.sound.low sampler inside'))))
    (λ other. let same = floor_else k other in omega arith) in
    let sound : IsSound w' = record {
      legal = r.sound.legal;
      most = r.sound.most;
      floors = length-set w.floors sampler (raised v f n) ∙ long;
      low = λ k below. dite (ℕ_discrete k sampler) (λ e. subst (λ (x : ℕ). x ≤ v) (sym (ap (floor_of w') e ∙ floor_here)) (raised_low v f n (r.sound.low sampler inside') most))
          (λ other. subst (λ (x : ℕ). x ≤ v) (sym (floor_else k other)) (r.sound.low k below));
      outs = r.sound.outs;
      returned = r.sound.returned;
      entries = r.sound.entries;
      small = r.sound.small;
      window = λ u inw. r.sound.window u (inw.0, (inw.1.0, inw.1.1, (let up = floor_up inw.1.0 in let low = inw.1.2 in omega arith)));
      notes = r.sound.notes;
      contents = r.sound.contents;
      texels = r.sound.texels;
      filled = λ u inw. r.sound.filled u (inw.0, (inw.1.0, inw.1.1, (let up = floor_up inw.1.0 in let low = inw.1.2 in omega arith)));
      word_notes = r.sound.word_notes;
    } in
    let heard : HasLooked w sampler n (writing w') = record { now = refl; sound = sound; absent = λ gone. r.agrees.absent sampler inside' gone; most = most } in
    let where_ : sampler ≡ 1 + sampler - 1 = omega arith in (
      w',
      (
        subst (λ (ws : List ℕ). IsRuledBy key w' owner record { words = ws; homes = s.homes; views = set s.views 0 (Writing w') }) (sym (set-get_or s.words (1 + sampler) 0))
            (writer_step key w w' owner s s.words r refl refl record { version = r.agrees.version; absent = r.agrees.absent; announced = r.agrees.announced; entries = r.agrees.entries; texels = r.agrees.texels } sound
            (λ j p sat. record {
              owned = sat.owned;
              is_out = sat.is_out;
              word = sat.word;
              sound = refloored w.sizes w.journal w.contents (floor_of w p.sampler) (floor_of w' p.sampler) p
                  (dite (ℕ_discrete p.sampler sampler)
                  (λ e. subst (λ (x : ℕ). IsStageIn v x p.stage) (sym (ap (floor_of w') e ∙ floor_here))
                  (raised_stage v f n p.stage (ap (λ k. get_or s.words (1 + k) 0) (sym e) ∙ sat.word) (subst (λ (x : ℕ). IsStageIn v x p.stage) (ap (floor_of w) e) sat.sound.stage)))
                  (λ other. subst (λ (x : ℕ). IsStageIn v x p.stage) (sym (floor_else p.sampler other)) sat.sound.stage))
                  sat.sound;
            })),
        subst (λ (z : Sat). looked (step slots (1 + sampler) 0 0 none) z n (writing w')) (sym is) (subst (λ (k : ℕ). HasLooked w k n (writing w')) where_ heard),
      ),
    ))

pub learns : (key : Sizes) (slots id i : ℕ) (me : Sat) (w : WriterView) → me ≡ writing w → Allows (Ruled key) slots id me i (λ n. n) (learnt (step slots i 0 0 none) me)
learns key slots id i me w is = writer_allows key slots id i (λ n. n) me w (learnt (step slots i 0 0 none) me) is (λ s owner r. (
  w,
  (
    subst (λ (ws : List ℕ). IsRuledBy key w owner record { words = ws; homes = s.homes; views = set s.views 0 (Writing w) }) (sym (set-get_or s.words i 0))
        (writer_step key w w owner s s.words r refl refl r.agrees r.sound (λ j p sat. sat)),
    subst (λ (m : Sat). learnt (step slots i 0 0 none) m (get_or s.words i 0) (writing w)) (sym is) (refl, r.sound),
  ),
))

-- the bank of the newest version is there, and those of the versions before it are as before
next_window : (w : WriterView) (change : Change) → StandsForTable w.sizes w.entries (changed (newest w.journal) change) (bank_of (version_of w + 1))
    → ((v : ℕ) → IsInWindow w v → StandsForTable w.sizes w.entries (at w.journal v) (bank_of v))
    → (v : ℕ) → IsInWindow (after_change w change) v → StandsForTable w.sizes w.entries (at (w.journal ++ change ∷ []) v) (bank_of v)
next_window w change stands before v inw = let grown : version_of (after_change w change) ≡ version_of w + 1 = length-append w.journal (change ∷ []) in
    dite (ℕ_discrete v (version_of w + 1))
    (λ last. let table : changed (newest w.journal) change ≡ at (w.journal ++ change ∷ []) v = sym (newest-more w.journal change) ∙ ap (at (w.journal ++ change ∷ [])) (grown ∙ sym last) in
    subst (λ (x : ℕ × Table). StandsForTable w.sizes w.entries x.1 (bank_of x.0)) (λ i. (sym last i, table i)) stands)
    (λ other. let top = inw.0 in let low : v ≤ version_of w = omega arith in
    subst (λ (m : Table). StandsForTable w.sizes w.entries m (bank_of v)) (sym (at-front w.journal (change ∷ []) v low)) (before v (low, inw.1)))

some_none : (f : ℕ) → Some f ≡ None → ⊥
some_none f e = cc

entry_one : (a b : Option ℕ) → entry_number a ≡ entry_number b → a ≡ b
entry_one None None e = refl
entry_one None (Some g) e = absurd (omega arith)
entry_one (Some f) None e = absurd (omega arith)
entry_one (Some f) (Some g) e = let same : f ≡ g = omega arith in ap (λ (x : ℕ). Some x) same

-- what a change does to the page of another one
shows : (z : Sizes) (entries : List ℕ) (m n : Table) (bank page : ℕ) → page < z.pages → StandsForTable z entries m bank → StandsForTable z entries n bank → m page ≡ n page
shows z entries m n bank page inside first second = entry_one (m page) (n page) (sym (first page inside) ∙ second page inside)

-- a bank shows only one change of a table
only_change : (z : Sizes) (entries : List ℕ) (m : Table) (bank : ℕ) (c d : Change) → change_page c < z.pages → change_page d < z.pages → IsNext m c → IsNext m d
    → StandsForTable z entries (changed m c) bank → StandsForTable z entries (changed m d) bank → c ≡ d
only_change z entries m bank (Map p f) (Map q g) low high this that first second = elim (same_page p q) [
  | inl same ↦ let at_p : Some f ≡ Some g = sym (entry-same m p (Some f)) ∙ (shows z entries (changed m (Map p f)) (changed m (Map q g)) bank p low first second ∙ (ap (with_entry m q (Some g)) same ∙ entry-same m q (Some g))) in
      let frames : f ≡ g = cc in ap (λ (x : ℕ × ℕ). Map x.0 x.1) (λ i. (same i, frames i))
  | inr other ↦ let at_p : Some f ≡ None = sym (entry-same m p (Some f)) ∙ (shows z entries (changed m (Map p f)) (changed m (Map q g)) bank p low first second ∙ (entry-other m q p (Some g) other ∙ this.0)) in absurd (some_none f at_p)
]
only_change z entries m bank (Map p f) (Unmap q g) low high this that first second = elim (same_page p q) [
  | inl same ↦ let at_p : Some f ≡ None = sym (entry-same m p (Some f)) ∙ (shows z entries (changed m (Map p f)) (changed m (Unmap q g)) bank p low first second ∙ (ap (with_entry m q None) same ∙ entry-same m q None)) in absurd (some_none f at_p)
  | inr other ↦ let at_p : Some f ≡ None = sym (entry-same m p (Some f)) ∙ (shows z entries (changed m (Map p f)) (changed m (Unmap q g)) bank p low first second ∙ (entry-other m q p None other ∙ this.0)) in absurd (some_none f at_p)
]
only_change z entries m bank (Unmap p f) (Map q g) low high this that first second = elim (same_page p q) [
  | inl same ↦ let at_p : Some g ≡ None = sym (ap (with_entry m q (Some g)) same ∙ entry-same m q (Some g)) ∙ (sym (shows z entries (changed m (Unmap p f)) (changed m (Map q g)) bank p low first second) ∙ entry-same m p None) in absurd (some_none g at_p)
  | inr other ↦ let at_p : Some f ≡ None = sym (entry-other m q p (Some g) other ∙ this) ∙ (sym (shows z entries (changed m (Unmap p f)) (changed m (Map q g)) bank p low first second) ∙ entry-same m p None) in absurd (some_none f at_p)
]
only_change z entries m bank (Unmap p f) (Unmap q g) low high this that first second = elim (same_page p q) [
  | inl same ↦ let at_p : Some f ≡ Some g = sym this ∙ (ap m same ∙ that) in let frames : f ≡ g = cc in ap (λ (x : ℕ × ℕ). Unmap x.0 x.1) (λ i. (same i, frames i))
  | inr other ↦ let at_p : Some f ≡ None = sym (entry-other m q p None other ∙ this) ∙ (sym (shows z entries (changed m (Unmap p f)) (changed m (Unmap q g)) bank p low first second) ∙ entry-same m p None) in absurd (some_none f at_p)
]

pub publishes : (key : Sizes) (slots id v : ℕ) (me : Sat) (w : WriterView) (change : Change) → me ≡ writing w → v ≡ version_of w → v < most_versions → MayPublishBank w change
    → Allows (Ruled key) slots id me 0 (λ _. v + 1) (λ _. published (step slots 0 (v + 1) 0 none) me (v + 1))
publishes key slots id v me w change is newest_is room asked = writer_allows key slots id 0 (λ _. v + 1) me w (λ _. published (step slots 0 (v + 1) 0 none) me (v + 1)) is (λ s owner r.
    let next = asked.next in let stands = asked.stands in
    let content : List ℕ = content_of w.sizes w.texels change in let m : ℕ = v + 1 in let w' : WriterView = after_change w change in let words' : List ℕ = set s.words 0 m in
    let grown : version_of w' ≡ version_of w + 1 = length-append w.journal (change ∷ []) in let wide : length s.words ≡ words_of key = r.wide in
    let here : get_or words' 0 0 ≡ m = get_or-set_same s.words 0 m 0 (omega arith) in let others : (k : ℕ) → get_or words' (1 + k) 0 ≡ get_or s.words (1 + k) 0 = λ k. get_or-set_other s.words 0 (1 + k) m 0 (λ e. omega arith) in
    let grows : version_of w ≤ version_of w' = omega arith in
    let sound : IsSound w' = record {
      legal = legal-more w.sizes.root w.journal change r.sound.legal next;
      most = omega arith;
      floors = r.sound.floors;
      low = λ k below. let low = r.sound.low k below in omega arith;
      outs = r.sound.outs;
      returned = All-weaker (IsSoundReturn (version_of w)) (IsSoundReturn (version_of w')) (λ x h. let given = h.given in record { given = omega arith; rose = h.rose; held = later_all _ _ x.held grows h.held }) w.returned r.sound.returned;
      entries = r.sound.entries;
      small = r.sound.small;
      window = next_window w change stands r.sound.window;
      notes = later_notes w.sizes w.journal change w.notes r.sound.notes;
      contents = (let long = r.sound.contents in let more = length-append w.contents (content ∷ []) in omega arith);
      texels = r.sound.texels;
      filled = next_filled w change r.sound.contents r.sound.low r.sound.filled;
      word_notes = All-weaker (IsTrueWord w.journal w.contents) (IsTrueWord w'.journal w'.contents) (later_word w.journal w.contents change content r.sound.contents) w.word_notes r.sound.word_notes;
    } in (
      w',
      (
        writer_step key w w' owner s words' r refl (length-set s.words 0 m)
            record {
              version = here ∙ (ap (λ (x : ℕ). x + 1) newest_is ∙ sym grown);
              absent = λ k inside gone. others k ∙ r.agrees.absent k inside gone;
              announced = λ k inside. let low = r.agrees.announced k inside in let same = others k in omega arith;
              entries = λ i inside. get_or-set_other s.words 0 (1 + w.sizes.samplers + i) m 0 (λ e. omega arith) ∙ r.agrees.entries i inside;
              texels = λ i inside. get_or-set_other s.words 0 (1 + w.sizes.samplers + 4 * w.sizes.pages + i) m 0 (λ e. omega arith) ∙ r.agrees.texels i inside;
            }
            sound
            (λ j p sat. record { owned = sat.owned; is_out = sat.is_out; word = others p.sampler ∙ sat.word; sound = later_pass w.sizes w.journal w.contents change (content_of w.sizes w.texels change) (floor_of w p.sampler) p r.sound.contents next sat.sound }),
        subst (λ (z : Sat). published (step slots 0 (v + 1) 0 none) z (v + 1) (writing w')) (sym is)
            (λ c heard. let same : change ≡ c = only_change w.sizes w.entries (newest w.journal) (bank_of (version_of w + 1)) change c asked.page heard.page next.0 heard.next.0 stands heard.stands in
            subst (λ (x : Change). (writing w' ≡ writing (after_change w x)) × IsSound (after_change w x)) same (refl, sound)),
      ),
    ))

-- an entry of the next bank leaves each version of the window as it is
other_banks : (w : WriterView) (page entry : ℕ) → page < w.sizes.pages → MayWriteNext w → ((v : ℕ) → IsInWindow w v → StandsForTable w.sizes w.entries (at w.journal v) (bank_of v))
    → (v : ℕ) → IsInWindow w v → StandsForTable w.sizes (set w.entries (entry_place w.sizes (bank_of (version_of w + 1)) page) entry) (at w.journal v) (bank_of v)
other_banks w page entry inside may before v inw q low =
    let up = may inw.1.0 inw.1.1 in let from = inw.1.2 in let to = inw.0 in let apart : bank_of v ≢ bank_of (version_of w + 1) = λ e. omega arith in
    get_or-set_other w.entries (entry_place w.sizes (bank_of (version_of w + 1)) page) (entry_place w.sizes (bank_of v) q) entry 0
    (banks_apart (bank_of v) (bank_of (version_of w + 1)) w.sizes.pages q page apart low inside)
    ∙ before v inw q low

pub enters : (key : Sizes) (slots id page e : ℕ) (me : Sat) (w : WriterView) → me ≡ writing w → page < w.sizes.pages → e ≤ w.sizes.frames → MayWriteNext w
    → (i : ℕ) → i ≡ entry_word w.sizes (bank_of (version_of w + 1)) page → Allows (Ruled key) slots id me i (λ _. e) (λ _. entered (step slots i e 0 none) me e)
enters key slots id page e me w is inside small may i where_ = writer_allows key slots id i (λ _. e) me w (λ _. entered (step slots i e 0 none) me e) is (λ s owner r.
    let w' : WriterView = after_entry w page e in let z : Sizes = w.sizes in let place : ℕ = entry_place z (bank_of (version_of w + 1)) page in let words' : List ℕ = set s.words i e in
    let low : place < 4 * z.pages = place_low (bank_of (version_of w + 1)) z.pages page (omega arith) inside in
    let sizes : w.sizes ≡ key = r.sizes in let wide : length s.words ≡ words_of w.sizes = r.wide ∙ ap words_of (sym sizes) in
    let others : (k : ℕ) → k ≢ i → get_or words' k 0 ≡ get_or s.words k 0 = λ k other. get_or-set_other s.words i k e 0 other in
    let long = r.sound.entries in
    let sound : IsSound w' = record {
      legal = r.sound.legal;
      most = r.sound.most;
      floors = r.sound.floors;
      low = r.sound.low;
      outs = r.sound.outs;
      returned = r.sound.returned;
      entries = length-set w.entries place e ∙ r.sound.entries;
      small = All-set (λ x. x ≤ z.frames) w.entries place e small r.sound.small;
      window = other_banks w page e inside may r.sound.window;
      notes = r.sound.notes;
      contents = r.sound.contents;
      texels = r.sound.texels;
      filled = r.sound.filled;
      word_notes = r.sound.word_notes;
    } in (
      w',
      (
        writer_step key w w' owner s words' r refl (length-set s.words i e)
            record {
              version = others 0 (λ x. omega arith) ∙ r.agrees.version;
              absent = λ k below gone. others (1 + k) (λ x. omega arith) ∙ r.agrees.absent k below gone;
              announced = λ k below. subst (λ (x : ℕ). x ≤ version_of w + 1) (sym (others (1 + k) (λ x. omega arith))) (r.agrees.announced k below);
              entries = λ j below. dite (ℕ_discrete j place)
                  (λ here. ap (λ (x : ℕ). get_or words' (1 + z.samplers + x) 0) here ∙ (ap (λ (x : ℕ). get_or words' x 0) (sym where_) ∙ (get_or-set_same s.words i e 0 (omega arith)
                  ∙ (sym (get_or-set_same w.entries place e 0 (omega arith)) ∙ ap (λ (x : ℕ). get_or w'.entries x 0) (sym here)))))
                  (λ other. others (1 + z.samplers + j) (λ x. other (omega arith)) ∙ (r.agrees.entries j below ∙ sym (get_or-set_other w.entries place j e 0 other)));
              texels = λ j below. others (1 + z.samplers + 4 * z.pages + j) (λ x. omega arith) ∙ r.agrees.texels j below;
            }
            sound
            (λ j p sat. record { owned = sat.owned; is_out = sat.is_out; word = others (1 + p.sampler) (λ x. let low = sat.sound.inside in omega arith) ∙ sat.word; sound = sat.sound }),
        subst (λ (y : Sat). entered (step slots i e 0 none) y e (writing w')) (sym is)
            (λ q at_q. let same : page ≡ q = same_place z.samplers (bank_of (version_of w + 1) * z.pages) page q (sym where_ ∙ at_q) in
            subst (λ (x : ℕ). (writing w' ≡ writing (after_entry w x e)) × IsSound (after_entry w x e)) same (refl, sound)),
      ),
    ))
  where
    same_place : (a b x y : ℕ) → 1 + a + (b + x) ≡ 1 + a + (b + y) → x ≡ y
    same_place a b x y e = omega arith

-- the rule after a store of a word of a frame
pub fills : (key : Sizes) (slots id frame place word : ℕ) (me : Sat) (w : WriterView) → me ≡ writing w → frame < w.sizes.frames → place < w.sizes.texels → MayFill w frame
    → (i : ℕ) → i ≡ texel_word w.sizes frame place → Allows (Ruled key) slots id me i (λ _. word) (λ _. filled (step slots i word 0 none) me word)
fills key slots id frame place word me w is inside_frame inside may i where_ = writer_allows key slots id i (λ _. word) me w (λ _. filled (step slots i word 0 none) me word) is (λ s owner r.
    let w' : WriterView = after_word w frame place word in let z : Sizes = w.sizes in let spot : ℕ = texel_place z frame place in let words' : List ℕ = set s.words i word in
    let low : spot < z.frames * z.texels = before_row frame z.frames z.texels place inside_frame inside in
    let sizes : w.sizes ≡ key = r.sizes in let wide : length s.words ≡ words_of w.sizes = r.wide ∙ ap words_of (sym sizes) in
    let others : (k : ℕ) → k ≢ i → get_or words' k 0 ≡ get_or s.words k 0 = λ k other. get_or-set_other s.words i k word 0 other in
    let long = r.sound.texels in
    let sound : IsSound w' = record {
      legal = r.sound.legal;
      most = r.sound.most;
      floors = r.sound.floors;
      low = r.sound.low;
      outs = r.sound.outs;
      returned = r.sound.returned;
      entries = r.sound.entries;
      small = r.sound.small;
      window = r.sound.window;
      notes = r.sound.notes;
      contents = r.sound.contents;
      texels = length-set w.texels spot word ∙ r.sound.texels;
      filled = other_frames w frame place word inside may r.sound.filled;
      word_notes = r.sound.word_notes;
    } in (
      w',
      (
        writer_step key w w' owner s words' r refl (length-set s.words i word)
            record {
              version = others 0 (λ x. omega arith) ∙ r.agrees.version;
              absent = λ k below gone. others (1 + k) (λ x. omega arith) ∙ r.agrees.absent k below gone;
              announced = λ k below. subst (λ (x : ℕ). x ≤ version_of w + 1) (sym (others (1 + k) (λ x. omega arith))) (r.agrees.announced k below);
              entries = λ j below. others (1 + z.samplers + j) (λ x. omega arith) ∙ r.agrees.entries j below;
              texels = λ j below. dite (ℕ_discrete j spot)
                  (λ here. ap (λ (x : ℕ). get_or words' (1 + z.samplers + 4 * z.pages + x) 0) here ∙ (ap (λ (x : ℕ). get_or words' x 0) (sym where_) ∙ (get_or-set_same s.words i word 0 (omega arith)
                  ∙ (sym (get_or-set_same w.texels spot word 0 (omega arith)) ∙ ap (λ (x : ℕ). get_or w'.texels x 0) (sym here)))))
                  (λ other. others (1 + z.samplers + 4 * z.pages + j) (λ x. other (omega arith)) ∙ (r.agrees.texels j below ∙ sym (get_or-set_other w.texels spot j word 0 other)));
            }
            sound
            (λ j p sat. record { owned = sat.owned; is_out = sat.is_out; word = others (1 + p.sampler) (λ x. let low = sat.sound.inside in omega arith) ∙ sat.word; sound = sat.sound }),
        subst (λ (y : Sat). filled (step slots i word 0 none) y word (writing w')) (sym is)
            (λ g q low_q at_q. let same = same_texel z frame g place q inside low_q (sym where_ ∙ at_q) in
            subst (λ (x : ℕ × ℕ). (writing w' ≡ writing (after_word w x.0 x.1 word)) × IsSound (after_word w x.0 x.1 word)) (λ j. (same.0 j, same.1 j)) (refl, sound)),
      ),
    ))

pub sees_writer : (m : Sat) (w : WriterView) → m ≡ writing w → (m ≡ writing (writer_in m.0)) × (writer_in m.0 ≡ w)
sees_writer m w is = let same : writer_in m.0 ≡ w = ap (λ (z : Sat). writer_in z.0) is in (is ∙ ap writing (sym same), same)

-- the word of an entry of the next bank, as the call computes it
pub word_of_next : (z z' : Sizes) (v v' i page : ℕ) → z' ≡ z → v ≡ v' → i ≡ entry_word z ((v + 1) % 4) page → i ≡ entry_word z' (bank_of (v' + 1)) page
word_of_next z z' v v' i page sizes same is = is ∙ ap (λ (x : Sizes × ℕ). entry_word x.0 (bank_of (x.1 + 1)) page) (λ j. (sym sizes j, same j))

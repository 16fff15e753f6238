-- The banks as entries are written, and as versions are published.
use Rattle.std.proofs.Common.{◌≡◌, ◌≢◌, ℕ, ◌+◌, ◌-◌, ◌*◌, ◌<◌, List, [], ◌∷◌, ◌++◌, length, get_or, set, refl, sym, ap, ◌∙◌, subst, arith, Some, None, slice_get, get_or-set_same, get_or-set_other, length-append}
use mathlib.Core.Logic.{dite}
use native.Mathlib.Decide.{ℕ_discrete}
use Rattle.vt_table.specs.JournalTypes.changes.Change.{Change}
use Rattle.vt_table.specs.JournalTypes.changes.Change.TheVariants.{Map, Unmap}
use Rattle.vt_table.specs.Changes.{Table, at, newest, changed, with_entry}
use Rattle.vt_table.specs.Lookups.{change_page}
use Rattle.vt_table.proofs.Versions.{entry-same, entry-other, at-front, at-next, newest-more}
use Rattle.vt_grace.specs.declared.sizes.Sizes.{Sizes}
use Rattle.vt_grace.specs.declared.views.WriterView.{WriterView}
use Rattle.vt_grace.specs.Changes.{IsNextKeeping}
use Rattle.vt_grace.specs.WriterViews.{version_of, after_entry, after_change}
use Rattle.vt_grace.specs.Places.{entry_place, bank_of}
use Rattle.vt_grace.specs.Notes.{entry_number}
use Rattle.vt_grace.specs.Banks.{StandsForTable, MayWriteNext, MayPublishBank}
use Rattle.vt_grace.proofs.Rows.{place_low, banks_apart}
use Rattle.vt_streamer.specs.Banks.{new_entry, AreRotated, HasWrittenBank, HasPublished}
use Rattle.vt_streamer.proofs.Looking.{looked_none}

-- the table after a change, at its page and at another
at_page : (m : Table) (c : Change) (q : ℕ) → q ≡ change_page c → new_entry c ≡ entry_number (changed m c q)
at_page m (Map p f) q same = ap entry_number (sym (ap (with_entry m p (Some f)) same ∙ entry-same m p (Some f)))
at_page m (Unmap p f) q same = ap entry_number (sym (ap (with_entry m p None) same ∙ entry-same m p None))

elsewhere : (m : Table) (c : Change) (q : ℕ) → q ≢ change_page c → m q ≡ changed m c q
elsewhere m (Map p f) q other = sym (entry-other m p q (Some f) other)
elsewhere m (Unmap p f) q other = sym (entry-other m p q None other)

-- a bank that is as a table, with the entry of a change, is as the table after it
pub advanced : (z : Sizes) (entries : List ℕ) (m : Table) (bank : ℕ) (c : Change) → change_page c < z.pages → length entries ≡ 4 * z.pages → bank < 4 → StandsForTable z entries m bank
    → StandsForTable z (set entries (entry_place z bank (change_page c)) (new_entry c)) (changed m c) bank
advanced z entries m bank c inside long low before q within = dite (ℕ_discrete q (change_page c))
    (λ same. let room = place_low bank z.pages (change_page c) low inside in
    ap (λ (x : ℕ). get_or (set entries (entry_place z bank (change_page c)) (new_entry c)) (entry_place z bank x) 0) same
    ∙ (get_or-set_same entries (entry_place z bank (change_page c)) (new_entry c) 0 (omega arith) ∙ at_page m c q same))
    (λ other. get_or-set_other entries (entry_place z bank (change_page c)) (entry_place z bank q) (new_entry c) 0 (λ e. other (omega arith))
    ∙ (before q within ∙ ap entry_number (elsewhere m c q other)))

pub entered_more : (v w w' : WriterView) (page entry : ℕ) → HasWrittenBank v w → w' ≡ after_entry w page entry → page < w.sizes.pages → HasWrittenBank v w'
entered_more v w w' page entry before after inside =
    let sizes : w.sizes ≡ v.sizes = ap (λ x. x.sizes) before.rest in let version : version_of w ≡ version_of v = ap (λ x. version_of x) before.rest in
    let place : ℕ = entry_place w.sizes (bank_of (version_of w + 1)) page in
    let made : HasWrittenBank v (after_entry w page entry) = record {
      rest = ap (λ (x : WriterView). record x { entries = set w.entries place entry }) before.rest;
      others = λ bank q apart within. get_or-set_other w.entries place (entry_place v.sizes bank q) entry 0
          (λ e. banks_apart bank (bank_of (version_of w + 1)) w.sizes.pages q page (λ same. apart (same ∙ ap (λ (x : ℕ). bank_of (x + 1)) version))
          (subst (λ (z : Sizes). q < z.pages) (sym sizes) within) inside (ap (λ (z : Sizes). entry_place z bank q) sizes ∙ e))
          ∙ before.others bank q apart within;
    } in
    subst (λ (x : WriterView). HasWrittenBank v x) (sym after) made

-- the version that the next change of a journal makes
pub next_table : (js : List Change) (i : ℕ) (c : Change) → slice_get js i ≡ Some c → changed (at js i) c ≡ at js (i + 1)
next_table js i c is = sym (at-next js i c is)

-- one step of the lead, from any table
pub lead_any : (z : Sizes) (v w w' : WriterView) (m : Table) (c : Change) → w.sizes ≡ z → HasWrittenBank v w → w' ≡ after_entry w (change_page c) (new_entry c)
    → change_page c < z.pages → length w.entries ≡ 4 * w.sizes.pages → StandsForTable z w.entries m (bank_of (version_of v + 1))
    → StandsForTable z w'.entries (changed m c) (bank_of (version_of v + 1))
lead_any z v w w' m c sizes before after inside long stands =
    let bank : ℕ = bank_of (version_of v + 1) in let version : version_of w ≡ version_of v = ap (λ x. version_of x) before.rest in
    let count = ap (λ (y : Sizes). y.pages) sizes in
    let all : StandsForTable z (set w.entries (entry_place z bank (change_page c)) (new_entry c)) (changed m c) bank = advanced z w.entries m bank c inside (omega arith) (omega arith) stands in
    let place : entry_place z bank (change_page c) ≡ entry_place w.sizes (bank_of (version_of w + 1)) (change_page c) = ap (λ (x : Sizes × ℕ). entry_place x.0 (bank_of (x.1 + 1)) (change_page c)) (λ j. (sym sizes j, sym version j)) in
    let entries : set w.entries (entry_place z bank (change_page c)) (new_entry c) ≡ w'.entries = ap (λ (x : ℕ). set w.entries x (new_entry c)) place ∙ sym (ap (λ x. x.entries) after) in
    subst (λ (x : List ℕ). StandsForTable z x (changed m c) bank) entries all

-- and from a version of the journal
pub lead_step : (z : Sizes) (v w w' : WriterView) (js : List Change) (i : ℕ) (c : Change) → w.sizes ≡ z → HasWrittenBank v w → w' ≡ after_entry w (change_page c) (new_entry c)
    → slice_get js i ≡ Some c → change_page c < z.pages → length w.entries ≡ 4 * w.sizes.pages → StandsForTable z w.entries (at js i) (bank_of (version_of v + 1))
    → StandsForTable z w'.entries (at js (i + 1)) (bank_of (version_of v + 1))
lead_step z v w w' js i c sizes before after here inside long stands =
    subst (λ (m : Table). StandsForTable z w'.entries m (bank_of (version_of v + 1))) (next_table js i c here) (lead_any z v w w' (at js i) c sizes before after inside long stands)

-- what publishing asks, once the bank of the next version is written
pub asked_for : (z : Sizes) (v w : WriterView) (js : List Change) (c : Change) → w.sizes ≡ z → w.journal ≡ js → version_of w ≡ version_of v → change_page c < z.pages
    → IsNextKeeping z.root (newest js) c → StandsForTable z w.entries (changed (newest js) c) (bank_of (version_of v + 1)) → MayPublishBank w c
asked_for z v w js c sizes journal version inside next stands = record {
  page = subst (λ (x : Sizes). change_page c < x.pages) (sym sizes) inside;
  next = subst (λ (x : Sizes × List Change). IsNextKeeping x.0.root (newest x.1) c) (λ j. (sym sizes j, sym journal j)) next;
  stands = subst (λ (x : Sizes × List Change × ℕ). StandsForTable x.0 w.entries (changed (newest x.1) c) (bank_of (x.2 + 1))) (λ j. (sym sizes j, sym journal j, sym version j)) stands;
}

pub may_still : (w w' : WriterView) (page entry : ℕ) → w' ≡ after_entry w page entry → MayWriteNext w → MayWriteNext w'
may_still w w' page entry after may = subst MayWriteNext (sym after) may

-- the banks after a publication are those of the newest four versions
rotated_more : (v : WriterView) (entries : List ℕ) (change : Change)
    → ((bank page : ℕ) → bank ≢ bank_of (version_of v + 1) → page < v.sizes.pages → get_or entries (entry_place v.sizes bank page) 0 ≡ get_or v.entries (entry_place v.sizes bank page) 0)
    → AreRotated v → StandsForTable v.sizes entries (changed (newest v.journal) change) (bank_of (version_of v + 1))
    → AreRotated (after_change (record v { entries = entries }) change)
rotated_more v entries change others before stands i low page within =
    let grown : length (v.journal ++ change ∷ []) ≡ version_of v + 1 = length-append v.journal (change ∷ []) in let now : ℕ = length (v.journal ++ change ∷ []) in
    dite (ℕ_discrete i 0)
    (λ none_back. let bank : bank_of (version_of v + 1) ≡ bank_of (now + 4 - i) = omega arith in let newest_is : now ≡ now - i = omega arith in
    let table : changed (newest v.journal) change ≡ at (v.journal ++ change ∷ []) (now - i) = sym (newest-more v.journal change) ∙ ap (at (v.journal ++ change ∷ [])) newest_is in
    subst (λ (x : ℕ × Table). get_or entries (entry_place v.sizes x.0 page) 0 ≡ entry_number (x.1 page)) (λ j. (bank j, table j)) (stands page within))
    (λ back. let place : now + 4 - i ≡ version_of v + 4 - (i - 1) = omega arith in let older : now - i ≡ version_of v - (i - 1) = omega arith in
    let apart : bank_of (now + 4 - i) ≢ bank_of (version_of v + 1) = λ e. omega arith in
    others (bank_of (now + 4 - i)) page apart within
    ∙ (ap (λ (x : ℕ). get_or v.entries (entry_place v.sizes (bank_of x) page) 0) place
    ∙ (before (i - 1) (omega arith) page within
    ∙ (ap (λ (m : Table). entry_number (m page)) (sym (at-front v.journal (change ∷ []) (version_of v - (i - 1)) (omega arith)))
    ∙ ap (λ (x : ℕ). entry_number (at (v.journal ++ change ∷ []) x page)) (sym older)))))

pub rotated_next : (v w w' : WriterView) (change : Change) → HasWrittenBank v w → w' ≡ after_change w change → AreRotated v
    → StandsForTable v.sizes w.entries (changed (newest v.journal) change) (bank_of (version_of v + 1)) → AreRotated w'
rotated_next v w w' change entered after before stands =
    subst AreRotated (sym (after ∙ ap (λ (x : WriterView). after_change x change) entered.rest)) (rotated_more v w.entries change entered.others before stands)

-- a change was published after the next bank was written
pub published_by : (v x y w : WriterView) (page entry : ℕ) (change : Change) → HasWrittenBank v x → y ≡ after_entry x page entry → w ≡ after_change y change
    → HasPublished v w change
published_by v x y w page entry change entered step after =
    let all : w ≡ after_change (after_entry (record v { entries = x.entries }) page entry) change =
    after ∙ ap (λ (z : WriterView). after_change z change) (step ∙ ap (λ (z : WriterView). after_entry z page entry) entered.rest) in
    subst (λ (z : WriterView). HasPublished v z change) (sym all) record { journal = refl; contents = refl; rest = refl; looked = looked_none v }

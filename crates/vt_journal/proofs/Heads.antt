-- A head alone is a lawful content, and the pinned pages of a lawful content are pinned.
use Rattle.std.proofs.Common.{◌≡◌, ℕ, zero, suc, ◌+◌, ◌-◌, ◌<◌, ◌≤◌, inl, inr, Option, List, [], ◌∷◌, ◌++◌, length, map, refl, sym, ap, ◌∙◌, subst, arith, None, Some}
use Rattle.std.specs.List.{range_with_len}
use Rattle.std.proofs.lemmas.List.{append-nil}
use Rattle.std.proofs.lemmas.List.FromFn.{length-map-range_with_len, map-range_with_len_more}
use Rattle.vt_pages.specs.Shape.{Shape}
use Rattle.vt_pages.specs.Pages.{pages_of}
use Rattle.vt_journal.specs.declared.changes.Change.TheVariants.{Map}
use Rattle.vt_journal.specs.declared.lines.Line.{Line}
use Rattle.vt_journal.specs.declared.lines.Line.TheVariants.{Makes}
use Rattle.vt_journal.specs.Changes.{Table, changed, newest, IsNext}
use Rattle.vt_journal.specs.JournalText.{pinned_change, head_lines, pinned_changes}
use Rattle.vt_journal.specs.JournalFlaws.{Reading, nothing_read, Admits, AreAdmitted, after_all, IsComplete, IsLawfulJournal, pinned_by}
use Rattle.vt_journal.specs.JournalReading.{head_reading}
use Rattle.vt_journal.specs.Following.{MayBePinned}
use Rattle.vt_journal.proofs.Versions.{newest-none, newest-more, mapped_after_map}
use Rattle.vt_journal.proofs.Stepping.{admitted-append}
use Rattle.vt_journal.proofs.Heading.{lines_to, changes_to, spelled_heads, pinned_by_first}

-- no page is mapped by the maps of the pinned pages but these, each to its own frame
newest_of_pinned : (s : Shape) (pinned n q f : ℕ) → newest (map (pinned_change s pinned) (range_with_len 0 n)) q ≡ Some f
    → (f < n) × (q ≡ pages_of s - pinned + f)
newest_of_pinned s pinned zero q f e = let both : None ≡ Some f = sym (newest-none q) ∙ e in cc
newest_of_pinned s pinned (suc n) q f e =
    let js = map (pinned_change s pinned) (range_with_len 0 n) in
    let next : suc n ≡ n + 1 = omega arith in
    let grown : map (pinned_change s pinned) (range_with_len 0 (suc n)) ≡ js
    ++ pinned_change s pinned n ∷ [] = ap (λ k. map (pinned_change s pinned) (range_with_len 0 k)) next
    ∙ map-range_with_len_more (pinned_change s pinned) 0 n n (omega arith) in
    let was : changed (newest js) (Map (pages_of s - pinned + n) n) q ≡ Some f = sym (ap (λ (t : Table). t q) (ap newest grown
    ∙ newest-more js (pinned_change s pinned n))) ∙ e in
    elim (mapped_after_map (newest js) (pages_of s - pinned + n) n q f was) [
      | inl (page, frame) ↦ (omega (arith, frame), page ∙ ap (λ k. pages_of s - pinned + k) frame)
      | inr (other, before) ↦ let rest = newest_of_pinned s pinned n q f before in (omega (arith, rest.0), rest.1)
    ]

-- so each of these maps may come next
pinned_is_next : (s : Shape) (pinned n : ℕ) → IsNext (newest (changes_to s pinned n)) (pinned_change s pinned n)
pinned_is_next s pinned n = (
  unmapped (newest (changes_to s pinned n) (pages_of s - pinned + n)) refl,
  λ q e. let was = newest_of_pinned s pinned n q n e in omega (arith, was.0),
)
  where
    unmapped : (o : Option ℕ) → newest (changes_to s pinned n) (pages_of s - pinned + n) ≡ o → newest (changes_to s pinned n) (pages_of s - pinned + n) ≡ None
    unmapped None e = e
    unmapped (Some f) e = let was = newest_of_pinned s pinned n (pages_of s - pinned + n) f e in absurd (omega (arith, was.0, was.1))

pub count_to : (s : Shape) (pinned n : ℕ) → length (changes_to s pinned n) ≡ n
count_to s pinned n = length-map-range_with_len (pinned_change s pinned) 0 n

-- the lines of the head may come one after another
pub heads_admitted : (s : Shape) (height pinned n : ℕ) → MayBePinned s pinned → n ≤ pinned
    → AreAdmitted s height nothing_read (lines_to s pinned n)
heads_admitted s height pinned zero may low = tt
heads_admitted s height pinned (suc n) may low =
    let next : suc n ≡ n + 1 = omega arith in
    let js = changes_to s pinned n in
    let before = heads_admitted s height pinned n may (omega arith) in
    let grown : lines_to s pinned (suc n) ≡ lines_to s pinned n ++ Makes (n + 1) (pinned_change s pinned n) ∷ [] = ap (lines_to s pinned) next
    ∙ map-range_with_len_more (λ i. Makes (i + 1) (pinned_change s pinned i)) 0 n n (omega arith) in
    let count = count_to s pinned n in
    let page_is : 1 ≤ length js → pages_of s - pinned + n + pinned_by s js ≡ pages_of s + length js = λ some. omega
    (arith, count, pinned_by_first s pinned n (omega (arith, some, count)) may.few, may.few) in
    let one : Admits s height (head_reading js) (Makes (n + 1) (pinned_change s pinned n)) = (
      omega (arith, count),
      (
        omega (arith, may.few, low),
        omega (arith, may.framed, low),
        inl
            (record { no_pass = refl; next_frame = sym count; next_page = page_is }),
      ),
      pinned_is_next s pinned n,
    ) in
    subst (AreAdmitted s height nothing_read) (sym grown)
    (admitted-append s height nothing_read (lines_to s pinned n) (Makes (n + 1) (pinned_change s pinned n) ∷ []) before
    (subst (λ (r : Reading). AreAdmitted s height r (Makes (n + 1) (pinned_change s pinned n) ∷ [])) (sym (spelled_heads s pinned n js refl)) (one, tt)))

-- what the head said
pub spelled_by_head : (s : Shape) (pinned : ℕ)
    → after_all nothing_read (head_lines s pinned) ≡ head_reading (pinned_changes s pinned)
spelled_by_head s pinned = spelled_heads s pinned pinned (pinned_changes s pinned) refl

pub head_complete : (s : Shape) (height pinned : ℕ) → MayBePinned s pinned
    → IsComplete s height (head_reading (pinned_changes s pinned))
head_complete s height pinned may =
    let count = count_to s pinned pinned in
    let by = pinned_by_first s pinned pinned may.some may.few in
    record { head = λ none. (omega (arith, count, may.some), count ∙ sym by); rows = λ some. absurd (omega (arith, some)) }

-- a head alone
pub head_lawful : (s : Shape) (height pinned : ℕ) → MayBePinned s pinned
    → IsLawfulJournal s height (record { pinned = pinned; passes = [] })
head_lawful s height pinned may =
    let same : head_lines s pinned ≡ head_lines s pinned ++ [] = sym (append-nil (head_lines s pinned)) in
    record {
      admitted = subst (AreAdmitted s height nothing_read) same (heads_admitted s height pinned pinned may (omega arith));
      complete = subst (λ (ls : List Line). IsComplete s height (after_all nothing_read ls)) same
          (subst (IsComplete s height) (sym (spelled_by_head s pinned)) (head_complete s height pinned may));
    }

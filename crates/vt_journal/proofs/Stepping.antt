-- The lines of a journal, one after another.
use Rattle.std.proofs.Common.{◌≡◌, ◌≢◌, ℕ, zero, suc, ◌+◌, ◌<◌, ◌≤◌, ◌⊎◌, inl, inr, List, [], ◌∷◌, ◌++◌, length, map, drop, refl, sym, ap, ◌∙◌, subst, arith, append_assoc, length-append, codes, eqb}
use Rattle.std.specs.List.{join_with_byte}
use Rattle.std.proofs.lemmas.List.{map-append}
use Rattle.std.proofs.lemmas.List.Splits.{length-slice_split, join_with_byte-slice_split}
use Rattle.vt_text.specs.Numbers.{number_spelling}
use Rattle.vt_text.specs.Lines.{fields_of, lines_of}
use Rattle.vt_text.proofs.Spelling.{number_spelling_injective}
use Rattle.vt_pages.specs.Shape.{Shape}
use Rattle.vt_pages.specs.Pages.{pages_of, name_at, index_of}
use Rattle.vt_pages.proofs.Names.{same_name, index_of-name_at}
use Rattle.vt_journal.specs.declared.changes.Change.TheVariants.{Map, Unmap}
use Rattle.vt_journal.specs.declared.changes.RowLine.{RowLine}
use Rattle.vt_journal.specs.declared.lines.Line.{Line}
use Rattle.vt_journal.specs.declared.lines.Line.TheVariants.{Begins, Makes, Loses, Draws}
use Rattle.vt_journal.specs.declared.parse.JournalError.{JournalError}
use Rattle.vt_journal.specs.declared.parse.JournalError.TheVariants.{BadLine, NoMemory}
use Rattle.vt_journal.specs.JournalText.{page_fields, line_fields, IsLineInChain}
use Rattle.vt_journal.specs.JournalFlaws.{Reading, Admits, after, AreAdmitted, after_all, IsComplete, SaysNext, IsJournalFlawFrom}
use Rattle.vt_journal.specs.JournalReading.{IsReadable, line_bytes, IsCursor, IsLineRead, IsNoLine, Advances, IsJournalRefusal, IsSmall}
use Rattle.vt_journal.proofs.SpelledLines.{fields_of-line, line_of-fields}

-- the fields of a page tell the page
pub page_injective : (s : Shape) (p q : ℕ) → 1 ≤ s.tile → p < pages_of s → q < pages_of s → page_fields s p ≡ page_fields s q
    → p ≡ q
page_injective s p q tile pin qin e =
    let level : (name_at s p).level ≡ (name_at s q).level = number_spelling_injective (name_at s p).level (name_at s q).level (cc) in
    let col : (name_at s p).col ≡ (name_at s q).col = number_spelling_injective (name_at s p).col (name_at s q).col (cc) in
    let row : (name_at s p).row ≡ (name_at s q).row = number_spelling_injective (name_at s p).row (name_at s q).row (cc) in
    let name : name_at s p ≡ name_at s q = same_name (name_at s p).level (name_at s p).col (name_at s p).row (name_at s q).level (name_at s q).col
    (name_at s q).row level col row in
    sym (index_of-name_at s p tile pin) ∙ ap (index_of s) name ∙ index_of-name_at s q tile qin

-- the fields of a change tell the change and its version
pair_injective : (s : Shape) (v w p q f g : ℕ) (word : List ℕ) → 1 ≤ s.tile → p < pages_of s → q < pages_of s
    → word ∷ number_spelling v ∷ page_fields s p ++ number_spelling f ∷ [] ≡ word ∷ number_spelling w ∷ page_fields s q ++ number_spelling g ∷ []
    → (v ≡ w) × (p ≡ q) × (f ≡ g)
pair_injective s v w p q f g word tile pin qin e =
    let fields : page_fields s p ≡ page_fields s q = cc in
    (number_spelling_injective v w (cc), page_injective s p q tile pin qin fields, number_spelling_injective f g (cc))

-- the fields of a line tell the line
pub line_injective : (s : Shape) (l m : Line) → 1 ≤ s.tile → IsLineInChain s l → IsLineInChain s m
    → line_fields s l ≡ line_fields s m → l ≡ m
line_injective s (Begins n k v) (Begins n' k' v') tile a b e =
    let en : n ≡ n' = number_spelling_injective n n' (cc) in
    let ek : k ≡ k' = number_spelling_injective k k' (cc) in
    let ev : v ≡ v' = number_spelling_injective v v' (cc) in
    ap (λ x. Begins x k v) en ∙ ap (λ x. Begins n' x v) ek ∙ ap (λ x. Begins n' k' x) ev
line_injective s (Begins n k v) (Makes w (Map q g)) tile a b e = cc
line_injective s (Begins n k v) (Makes w (Unmap q g)) tile a b e = cc
line_injective s (Begins n k v) (Loses q) tile a b e = cc
line_injective s (Begins n k v) (Draws row) tile a b e = cc
line_injective s (Makes v (Map p f)) (Begins n k w) tile a b e = cc
line_injective s (Makes v (Map p f)) (Makes w (Map q g)) tile a b e =
    let same = pair_injective s v w p q f g (codes "map") tile a b e in
    ap (λ x. Makes x (Map p f)) same.0 ∙ ap (λ x. Makes w (Map x f)) same.1 ∙ ap (λ x. Makes w (Map q x)) same.2
line_injective s (Makes v (Map p f)) (Makes w (Unmap q g)) tile a b e = cc
line_injective s (Makes v (Map p f)) (Loses q) tile a b e = cc
line_injective s (Makes v (Map p f)) (Draws row) tile a b e = cc
line_injective s (Makes v (Unmap p f)) (Begins n k w) tile a b e = cc
line_injective s (Makes v (Unmap p f)) (Makes w (Map q g)) tile a b e = cc
line_injective s (Makes v (Unmap p f)) (Makes w (Unmap q g)) tile a b e =
    let same = pair_injective s v w p q f g (codes "unmap") tile a b e in
    ap (λ x. Makes x (Unmap p f)) same.0 ∙ ap (λ x. Makes w (Unmap x f)) same.1 ∙ ap (λ x. Makes w (Unmap q x)) same.2
line_injective s (Makes v (Unmap p f)) (Loses q) tile a b e = cc
line_injective s (Makes v (Unmap p f)) (Draws row) tile a b e = cc
line_injective s (Loses p) (Begins n k v) tile a b e = cc
line_injective s (Loses p) (Makes w (Map q g)) tile a b e = cc
line_injective s (Loses p) (Makes w (Unmap q g)) tile a b e = cc
line_injective s (Loses p) (Loses q) tile a b e = let fields : page_fields s p ≡ page_fields s q = cc in ap Loses (page_injective s p q tile a b fields)
line_injective s (Loses p) (Draws row) tile a b e = cc
line_injective s (Draws r) (Begins n k v) tile a b e = cc
line_injective s (Draws r) (Makes w (Map q g)) tile a b e = cc
line_injective s (Draws r) (Makes w (Unmap q g)) tile a b e = cc
line_injective s (Draws r) (Loses q) tile a b e = cc
line_injective s (Draws r) (Draws t) tile a b e =
    let er : r.row ≡ t.row = number_spelling_injective r.row t.row (cc) in
    let es : r.sampler ≡ t.sampler = number_spelling_injective r.sampler t.sampler (cc) in
    let ev : r.version ≡ t.version = number_spelling_injective r.version t.version (cc) in
    let made : ℕ → ℕ → ℕ → RowLine = λ x y z. record { row = x; sampler = y; version = z } in
    ap (λ x. Draws (made x r.sampler r.version)) er ∙ ap (λ x. Draws (made t.row x r.version)) es
    ∙ ap (λ x. Draws (made t.row t.sampler x)) ev

-- a line that may come next names pages of the chain
pub admitted_in_chain : (s : Shape) (height : ℕ) (r : Reading) (l : Line) → Admits s height r l → IsLineInChain s l
admitted_in_chain s height r (Begins n k v) a = tt
admitted_in_chain s height r (Makes v (Map p f)) a = a.1.0
admitted_in_chain s height r (Makes v (Unmap p f)) a = a.1.0
admitted_in_chain s height r (Loses p) a = a.1
admitted_in_chain s height r (Draws row) a = tt

pub readable_in_chain : (s : Shape) (l : Line) → IsReadable s l → IsLineInChain s l
readable_in_chain s (Begins n k v) a = tt
readable_in_chain s (Makes v (Map p f)) a = a.page_inside
readable_in_chain s (Makes v (Unmap p f)) a = a.page_inside
readable_in_chain s (Loses p) a = a
readable_in_chain s (Draws row) a = tt

-- a line that may come next can be read
pub admitted_readable : (s : Shape) (height : ℕ) (r : Reading) (l : Line) → IsSmall s height r → Admits s height r l
    → IsReadable s l
admitted_readable s height r (Begins n k v) small a =
    let picture : k ≤ r.passes + 1 = elim (none_or_more r.passes) [
      | inl none ↦ omega (arith, a.2.first none)
      | inr some ↦ elim (a.2.later some) [ inl same ↦ omega (arith, same, small.picture) | inr next ↦ omega (arith, next, small.picture) ]
    ] in
    record { pass_inside = omega (arith, a.1, small.passes); picture_inside = omega (arith, small.passes); start_inside = omega (arith, a.3, small.changes) }
  where
    none_or_more : (n : ℕ) → (n ≡ 0) ⊎ (1 ≤ n)
    none_or_more zero = inl refl
    none_or_more (suc n) = inr (omega arith)
admitted_readable s height r (Makes v (Map p f)) small a = record {
  version_inside = omega (arith, a.0, small.changes);
  page_inside = a.1.0;
  frame_inside = a.1.1;
}
admitted_readable s height r (Makes v (Unmap p f)) small a = record {
  version_inside = omega (arith, a.0, small.changes);
  page_inside = a.1.0;
  frame_inside = a.1.1;
}
admitted_readable s height r (Loses p) small a = a.1
admitted_readable s height r (Draws row) small a = record {
  row_inside = omega (arith, a.inside, small.short);
  sampler_inside = a.sampler;
  version_inside = omega (arith, a.to, small.changes);
}

-- a text has a line
pub some_lines : (bs : List ℕ) → lines_of bs ≢ []
some_lines bs e = absurd (omega (arith, length-slice_split (λ b. eqb b 10) bs, ap length e))

-- an empty text has an empty line, and no other text has that alone
pub one_empty : (bs : List ℕ) → lines_of bs ≡ [] ∷ [] → bs ≡ []
one_empty bs e = sym (join_with_byte-slice_split 10 bs) ∙ ap (join_with_byte 10) e

-- a line that may come next is the only one with its fields
pub one_line : (s : Shape) (height : ℕ) (r : Reading) (bytes : List ℕ) (l m : Line) → 1 ≤ s.tile → SaysNext s height r bytes l
    → IsLineInChain s m → fields_of bytes ≡ line_fields s m → l ≡ m
one_line s height r bytes l m tile says chain fields =
    line_injective s l m tile (admitted_in_chain s height r l says.0) chain (sym says.1 ∙ fields)

-- where no line is read
pub flaw_unread : (s : Shape) (height number : ℕ) (r : Reading) (lines : List (List ℕ)) → lines ≢ []
    → (lines ≡ [] ∷ [] → ¬ IsComplete s height r)
    → ((l : Line) (bytes next : List ℕ) (rest : List (List ℕ)) → lines ≡ bytes ∷ next ∷ rest → ¬ SaysNext s height r bytes l)
    → IsJournalFlawFrom s height number r lines (BadLine number)
flaw_unread s height number r [] some ends none = absurd (some refl)
flaw_unread s height number r (rest ∷ []) some ends none = (λ e. ends (ap (λ x. x ∷ []) e), refl)
flaw_unread s height number r (bytes ∷ next ∷ rest) some ends none = inl (λ l says. none l bytes next rest refl says, refl)

-- where a line is read that may not come next
pub flaw_refused : (s : Shape) (height number : ℕ) (r : Reading) (bytes : List ℕ) (rest : List (List ℕ)) (l : Line) → 1 ≤ s.tile
    → rest ≢ [] → IsLineInChain s l → fields_of bytes ≡ line_fields s l
    → ¬ Admits s height r l → IsJournalFlawFrom s height number r (bytes ∷ rest) (BadLine number)
flaw_refused s height number r bytes [] l tile some chain fields refused = absurd (some refl)
flaw_refused s height number r bytes (next ∷ rest) l tile some chain fields refused =
    inl (λ m says. refused (subst (Admits s height r) (one_line s height r bytes m l tile says chain fields) says.0), refl)

-- a flaw after a line that may come next
pub flaw_later : (s : Shape) (height number : ℕ) (r : Reading) (bytes : List ℕ) (rest : List (List ℕ)) (l : Line) (e : JournalError) → rest ≢ []
    → SaysNext s height r bytes l
    → IsJournalFlawFrom s height (number + 1) (after r l) rest e → IsJournalFlawFrom s height number r (bytes ∷ rest) e
flaw_later s height number r bytes [] l e some says flaw = absurd (some refl)
flaw_later s height number r bytes (next ∷ rest) l e some says flaw = inr (l, says, flaw)

-- a flaw after lines that may come next
pub flaw_after_all : (s : Shape) (height number : ℕ) (r : Reading) (lines : List Line) (rest : List (List ℕ)) (e : JournalError)
    → rest ≢ [] → AreAdmitted s height r lines
    → IsJournalFlawFrom s height (number + length lines) (after_all r lines) rest e → IsJournalFlawFrom s height number r (map (line_bytes s) lines ++ rest) e
flaw_after_all s height number r [] rest e some all flaw = let z : number + 0 ≡ number = omega arith in subst (λ n. IsJournalFlawFrom s height n r rest e) z flaw
flaw_after_all s height number r (l ∷ ls) rest e some all flaw =
    let z : number + suc (length ls) ≡ number + 1 + length ls = omega arith in
    flaw_later s height number r (line_bytes s l) (map (line_bytes s) ls ++ rest) l e (more ls) (all.0, fields_of-line s l)
    (flaw_after_all s height (number + 1) (after r l) ls rest e some all.1 (subst (λ n. IsJournalFlawFrom s height n (after_all (after r l) ls) rest e) z flaw))
  where
    more : (ls : List Line) → map (line_bytes s) ls ++ rest ≢ []
    more [] e = some e
    more (l ∷ ls) e = cc

-- lines one after another
pub admitted-append : (s : Shape) (height : ℕ) (r : Reading) (ls ms : List Line) → AreAdmitted s height r ls
    → AreAdmitted s height (after_all r ls) ms → AreAdmitted s height r (ls ++ ms)
admitted-append s height r [] ms a b = b
admitted-append s height r (l ∷ ls) ms a b = (a.0, admitted-append s height (after r l) ls ms a.1 b)

pub admitted-parts : (s : Shape) (height : ℕ) (r : Reading) (ls ms : List Line) → AreAdmitted s height r (ls ++ ms)
    → AreAdmitted s height r ls × AreAdmitted s height (after_all r ls) ms
admitted-parts s height r [] ms a = (tt, a)
admitted-parts s height r (l ∷ ls) ms a = let rest = admitted-parts s height (after r l) ls ms a.1 in ((a.0, rest.0), rest.1)

pub after_all-append : (r : Reading) (ls ms : List Line) → after_all r (ls ++ ms) ≡ after_all (after_all r ls) ms
after_all-append r [] ms = refl
after_all-append r (l ∷ ls) ms = after_all-append (after r l) ls ms

-- lines have one first refusal
pub flaw_unique : (s : Shape) (height number : ℕ) (r : Reading) (lines : List (List ℕ)) (e f : JournalError) → 1 ≤ s.tile
    → IsJournalFlawFrom s height number r lines e → IsJournalFlawFrom s height number r lines f → e ≡ f
flaw_unique s height number r [] e f tile a b = absurd a
flaw_unique s height number r (rest ∷ []) e f tile a b = a.1 ∙ sym b.1
flaw_unique s height number r (bytes ∷ next ∷ rest) e f tile (inl a) (inl b) = a.1 ∙ sym b.1
flaw_unique s height number r (bytes ∷ next ∷ rest) e f tile (inl a) (inr (m, says, later)) = absurd (a.0 m says)
flaw_unique s height number r (bytes ∷ next ∷ rest) e f tile (inr (l, says, later)) (inl b) = absurd (b.0 l says)
flaw_unique s height number r (bytes ∷ next ∷ rest) e f tile (inr (l, says, later)) (inr (m, says', later')) =
    let same : l ≡ m = one_line s height r bytes l m tile says (admitted_in_chain s height r m says'.0) says'.1 in
    flaw_unique s height (number + 1) (after r l) (next ∷ rest) e f tile later
    (subst (λ z. IsJournalFlawFrom s height (number + 1) (after r z) (next ∷ rest) f) (sym same) later')

-- a flaw of a line that may come next and of those after it is one of those after it
flaw_rest : (s : Shape) (height number : ℕ) (r : Reading) (l : Line) (next : List ℕ) (rest : List (List ℕ)) (e : JournalError)
    → 1 ≤ s.tile → Admits s height r l
    → IsJournalFlawFrom s height number r (line_bytes s l ∷ next ∷ rest) e → IsJournalFlawFrom s height (number + 1) (after r l) (next ∷ rest) e
flaw_rest s height number r l next rest e tile admits (inl a) = absurd (a.0 l (admits, fields_of-line s l))
flaw_rest s height number r l next rest e tile admits (inr (m, says, flaw)) =
    let same : m ≡ l = one_line s height r (line_bytes s l) m l tile says (admitted_in_chain s height r l admits) (fields_of-line s l) in
    subst (λ z. IsJournalFlawFrom s height (number + 1) (after r z) (next ∷ rest) e) same flaw

-- lines that may come one after another, and are complete, have no flaw
pub no_flaw : (s : Shape) (height number : ℕ) (r : Reading) (lines : List Line) (e : JournalError) → 1 ≤ s.tile
    → AreAdmitted s height r lines → IsComplete s height (after_all r lines)
    → IsJournalFlawFrom s height number r (map (line_bytes s) lines ++ ([] ∷ [])) e → ⊥
no_flaw s height number r [] e tile all whole flaw = flaw.0 refl whole
no_flaw s height number r (l ∷ []) e tile all whole flaw =
    no_flaw s height (number + 1) (after r l) [] e tile all.1 whole (flaw_rest s height number r l [] [] e tile all.0 flaw)
no_flaw s height number r (l ∷ m ∷ ms) e tile all whole flaw =
    no_flaw s height (number + 1) (after r l) (m ∷ ms) e tile all.1 whole (flaw_rest s height number r l (line_bytes s m) (map (line_bytes s) ms
    ++ ([] ∷ [])) e tile all.0 flaw)

module _ (s : Shape) (height : ℕ) (text : List ℕ) (r : Reading) (at number : ℕ) where
  -- a refusal where no line is read, and the text may not end
  pub refused_unread : IsSmall s height r → IsNoLine s text at → (drop at text ≡ [] → ¬ IsComplete s height r)
      → IsJournalFlawFrom s height number r (lines_of (drop at text)) (BadLine number)
  refused_unread small none ends =
      flaw_unread s height number r (lines_of (drop at text)) (some_lines (drop at text)) (λ e. ends (one_empty (drop at text) e))
      (λ l bytes next rest cut says. none l bytes next rest cut (record { readable = admitted_readable s height r l small says.0; fields = says.1 }))

  -- a refusal by a number
  pub refusal_by : (e : JournalError) → (e ≡ NoMemory) ⊎ (e ≡ BadLine number)
      → IsJournalFlawFrom s height number r (lines_of (drop at text)) (BadLine number) → IsJournalRefusal s height text r at number e
  refusal_by e (inl memory) flaw = inl memory
  refusal_by e (inr line) flaw = inr (subst (λ e. IsJournalFlawFrom s height number r (lines_of (drop at text)) e) (sym line) flaw)

  -- a refusal where a line is read that may not come next
  pub refused_read : (l : Line) (next_at next_number : ℕ) → 1 ≤ s.tile → IsLineRead s text at number l next_at next_number → ¬ Admits s height r l
      → IsJournalFlawFrom s height number r (lines_of (drop at text)) (BadLine number)
  refused_read l next_at next_number tile read refused =
      subst (λ ls. IsJournalFlawFrom s height number r ls (BadLine number)) (sym read.cut)
      (flaw_refused s height number r read.bytes (lines_of (drop next_at text)) l tile (some_lines (drop next_at text))
      (readable_in_chain s l read.says.readable) read.says.fields refused)

  -- a line that may come next
  pub advance_line : (l : Line) (next_at next_number : ℕ) → IsLineRead s text at number l next_at next_number → Admits s height r l
      → Advances s height text r at number (l ∷ []) next_at next_number
  advance_line l next_at next_number read admits = record {
    spelled = read.cut ∙ ap (λ bs. bs ∷ lines_of (drop next_at text)) (line_of-fields s read.bytes l read.says.fields);
    admitted = (admits, tt);
    number_is = read.number_is;
    forward = omega (arith, read.forward);
    cursor = read.cursor;
  }

  pub advance_none : IsCursor text at number → Advances s height text r at number [] at number
  advance_none cursor = record { spelled = refl; admitted = tt; number_is = omega arith; forward = omega arith; cursor = cursor }

  -- lines after lines
  pub advance_more : (ls ms : List Line) (at1 number1 at2 number2 : ℕ) → Advances s height text r at number ls at1 number1
      → Advances s height text (after_all r ls) at1 number1 ms at2 number2
      → Advances s height text r at number (ls ++ ms) at2 number2
  advance_more ls ms at1 number1 at2 number2 a b =
      let count = length-append ls ms in
      record {
        spelled = a.spelled ∙ ap (λ x. map (line_bytes s) ls ++ x) b.spelled
            ∙ sym (append_assoc (map (line_bytes s) ls) (map (line_bytes s) ms) (lines_of (drop at2 text)))
            ∙ ap (λ x. x ++ lines_of (drop at2 text)) (sym (map-append (line_bytes s) ls ms));
        admitted = admitted-append s height r ls ms a.admitted b.admitted;
        number_is = omega (arith, a.number_is, b.number_is);
        forward = omega (arith, a.forward, b.forward);
        cursor = b.cursor;
      }

  -- a refusal after lines is one of the whole
  pub refused_later : (ls : List Line) (at1 number1 : ℕ) (e : JournalError) → Advances s height text r at number ls at1 number1
      → IsJournalRefusal s height text (after_all r ls) at1 number1 e → IsJournalRefusal s height text r at number e
  refused_later ls at1 number1 e a (inl memory) = inl memory
  refused_later ls at1 number1 e a (inr flaw) =
      inr (subst (λ x. IsJournalFlawFrom s height number r x e) (sym a.spelled)
      (flaw_after_all s height number r ls (lines_of (drop at1 text)) e (some_lines (drop at1 text)) a.admitted
      (subst (λ n. IsJournalFlawFrom s height n (after_all r ls) (lines_of (drop at1 text)) e) a.number_is flaw)))

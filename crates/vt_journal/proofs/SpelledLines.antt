-- The lines of a journal's text: their fields are words, so the text and its lines tell each other.
use Rattle.std.proofs.Common.{◌≡◌, ℕ, List, [], ◌∷◌, ◌++◌, map, refl, sym, ap, ◌∙◌, arith}
use Rattle.std.specs.List.{join_with_byte}
use Rattle.vt_text.specs.Limits.{blank}
use Rattle.vt_text.specs.Lines.{fields_of, lines_of, text_of}
use Rattle.vt_text.proofs.Words.{HasWords, AllHaveWords, word-number_spelling, fields_of-join, join-fields_of, lines_of-text_of, text_of-lines_of}
use Rattle.vt_pages.specs.Shape.{Shape}
use Rattle.vt_journal.specs.declared.changes.Change.TheVariants.{Map, Unmap}
use Rattle.vt_journal.specs.declared.lines.Line.{Line}
use Rattle.vt_journal.specs.declared.lines.Line.TheVariants.{Begins, Makes, Loses, Draws}
use Rattle.vt_journal.specs.JournalText.{line_fields, line_text, lines_text}
use Rattle.vt_journal.specs.JournalReading.{line_bytes}

-- the fields of a journal's line are words
has_words : (s : Shape) (line : Line) → HasWords (line_fields s line)
has_words s (Begins n k v) = (
  omega arith,
  (
    (omega arith, (omega arith, (omega arith, (omega arith, tt)))),
    (
      word-number_spelling n,
      (
        (omega arith, (omega arith, (omega arith, (omega arith, (omega arith, (omega arith, (omega arith, tt))))))),
        (
          word-number_spelling k,
          ((omega arith, (omega arith, (omega arith, (omega arith, (omega arith, tt))))), (word-number_spelling v, tt)),
        ),
      ),
    ),
  ),
)
has_words s (Makes v (Map p f)) = (
  omega arith,
  (
    (omega arith, (omega arith, (omega arith, tt))),
    (
      word-number_spelling v,
      (word-number_spelling _, (word-number_spelling _, (word-number_spelling _, (word-number_spelling f, tt)))),
    ),
  ),
)
has_words s (Makes v (Unmap p f)) = (
  omega arith,
  (
    (omega arith, (omega arith, (omega arith, (omega arith, (omega arith, tt))))),
    (
      word-number_spelling v,
      (word-number_spelling _, (word-number_spelling _, (word-number_spelling _, (word-number_spelling f, tt)))),
    ),
  ),
)
has_words s (Loses p) = (
  omega arith,
  (
    (omega arith, (omega arith, (omega arith, (omega arith, tt)))),
    (word-number_spelling _, (word-number_spelling _, (word-number_spelling _, tt))),
  ),
)
has_words s (Draws row) = (
  omega arith,
  (
    (omega arith, (omega arith, (omega arith, tt))),
    (word-number_spelling row.row, (word-number_spelling row.sampler, (word-number_spelling row.version, tt))),
  ),
)

all_have_words : (s : Shape) (lines : List Line) → AllHaveWords (map (line_fields s) lines)
all_have_words s [] = tt
all_have_words s (l ∷ ls) = (has_words s l, all_have_words s ls)

-- the text of lines is that of their fields
lines_text-fields : (s : Shape) (lines : List Line) → lines_text s lines ≡ text_of (map (line_fields s) lines)
lines_text-fields s [] = refl
lines_text-fields s (l ∷ ls) = ap (λ xs. line_text s l ++ xs) (lines_text-fields s ls)

-- so are their bytes
line_bytes-fields : (s : Shape) (lines : List Line)
    → map (join_with_byte blank) (map (line_fields s) lines) ≡ map (line_bytes s) lines
line_bytes-fields s [] = refl
line_bytes-fields s (l ∷ ls) = ap (λ xs. line_bytes s l ∷ xs) (line_bytes-fields s ls)

-- the bytes of a line have its fields
pub fields_of-line : (s : Shape) (line : Line) → fields_of (line_bytes s line) ≡ line_fields s line
fields_of-line s line = fields_of-join (line_fields s line) (has_words s line)

-- and no other bytes have them
pub line_of-fields : (s : Shape) (bytes : List ℕ) (line : Line) → fields_of bytes ≡ line_fields s line → bytes ≡ line_bytes s line
line_of-fields s bytes line e = join-fields_of bytes (line_fields s line) e

-- the lines of a text that was joined from lines, with the empty rest
pub lines_of-text : (s : Shape) (lines : List Line) → lines_of (lines_text s lines) ≡ map (line_bytes s) lines ++ ([] ∷ [])
lines_of-text s lines =
    ap lines_of (lines_text-fields s lines) ∙ lines_of-text_of (map (line_fields s) lines) (all_have_words s lines)
    ∙ ap (λ xs. xs ++ ([] ∷ [])) (line_bytes-fields s lines)

-- lines with an empty rest are those of their text alone
pub text_of-lines : (s : Shape) (text : List ℕ) (lines : List Line) → lines_of text ≡ map (line_bytes s) lines ++ ([] ∷ [])
    → text ≡ lines_text s lines
text_of-lines s text lines e =
    text_of-lines_of text (map (line_fields s) lines) (e ∙ ap (λ xs. xs ++ ([] ∷ [])) (sym (line_bytes-fields s lines)))
    ∙ sym (lines_text-fields s lines)

-- The lines of a text and the fields of a line, taken apart and joined again.
use Rattle.std.proofs.Common.{◌≡◌, ℕ, ◌<◌, List, [], ◌∷◌, ◌++◌, length, map, refl, sym, ap, ◌∙◌, arith, ℤ, pos, negsuc, suc, false, eqb}
use Rattle.std.specs.List.{AllByRecursion, join_with_byte}
use Rattle.std.specs.Int.{IsInRange}
use Rattle.std.specs.Str.Parse.{AllDigits}
use Rattle.std.proofs.lemmas.List.{append_assoc, append-nil, append_cancel_right}
use Rattle.std.proofs.lemmas.List.Elements.{All-from_recursion}
use Rattle.std.proofs.lemmas.List.Splits.{slice_split_at, slice_split_none, join_with_byte-slice_split}
use Rattle.std.proofs.lemmas.Str.Parse.{digit_from_value}
use Rattle.std.proofs.lemmas.Bool.Decides.{nat_tests}
use Rattle.vt_definitions.specs.Limits.{line_feed, blank}
use Rattle.vt_text.specs.Numbers.{number_spelling, spelling}
use Rattle.vt_text.specs.Lines.{fields_of, lines_of, text_of}
use Rattle.vt_text.proofs.Spelling.{plain-number_spelling}

-- a word: no byte of it is a blank or below
abbrev pub IsWord : List ℕ → Type 0
IsWord bs = AllByRecursion (λ b. blank < b) bs

-- each field of a line is a word
abbrev pub AreWords : List (List ℕ) → Type 0
AreWords fields = AllByRecursion IsWord fields

-- a line has a field, and its fields are words
abbrev pub HasWords : List (List ℕ) → Type 0
HasWords fields = (0 < length fields) × AreWords fields

-- so it is of each of these lines
abbrev pub AllHaveWords : List (List (List ℕ)) → Type 0
AllHaveWords lines = AllByRecursion HasWords lines

-- digits are a word
word_of_digits : (ds : List ℕ) → AllDigits 10 ds → IsWord ds
word_of_digits [] all = tt
word_of_digits (d ∷ ds) all = let r : IsInRange 48 57 d = digit_from_value d all.0 in (omega (arith, r), word_of_digits ds all.1)

-- the spelling of a number is a word
pub word-number_spelling : (n : ℕ) → IsWord (number_spelling n)
word-number_spelling n = word_of_digits (number_spelling n) (plain-number_spelling n).1

pub word-spelling : (z : ℤ) → IsWord (spelling z)
word-spelling (pos n) = word-number_spelling n
word-spelling (negsuc n) = (omega arith, word-number_spelling (suc n))

-- a test for a small byte fails at each byte of a word
larger : (b c : ℕ) → c < b → eqb b c ≡ false
larger b c h = grind (arith, nat_tests)

no_blank : (bs : List ℕ) → IsWord bs → AllByRecursion (λ b. eqb b blank ≡ false) bs
no_blank [] word = tt
no_blank (b ∷ bs) word = (larger b blank word.0, no_blank bs word.1)

-- joined bytes that are blanks or above hold no line feed
abbrev IsLine : List ℕ → Type 0
IsLine bs = AllByRecursion (λ b. eqb b line_feed ≡ false) bs

line-word : (bs : List ℕ) → IsWord bs → IsLine bs
line-word [] word = tt
line-word (b ∷ bs) word = (larger b line_feed (omega (arith, word.0)), line-word bs word.1)

line-append : (xs ys : List ℕ) → IsLine xs → IsLine ys → IsLine (xs ++ ys)
line-append [] ys a b = b
line-append (x ∷ xs) ys a b = (a.0, line-append xs ys a.1 b)

line-join : (fields : List (List ℕ)) → AreWords fields → IsLine (join_with_byte blank fields)
line-join [] words = tt
line-join (x ∷ []) words = line-word x words.0
line-join (x ∷ y ∷ xs) words = line-append x (blank ∷ join_with_byte blank (y ∷ xs)) (line-word x words.0) (refl, line-join (y ∷ xs) words.1)

-- the fields of joined words are those words
pub fields_of-join : (fields : List (List ℕ)) → HasWords fields → fields_of (join_with_byte blank fields) ≡ fields
fields_of-join [] words = absurd (omega (arith, words.0))
fields_of-join (x ∷ []) words = slice_split_none (λ b. eqb b blank) x (All-from_recursion (λ b. eqb b blank ≡ false) x (no_blank x words.1.0))
fields_of-join (x ∷ y ∷ xs) words =
    slice_split_at (λ b. eqb b blank) x blank (join_with_byte blank (y ∷ xs)) (All-from_recursion (λ b. eqb b blank ≡ false) x (no_blank x words.1.0)) refl
    ∙ ap (λ ys. x ∷ ys) (fields_of-join (y ∷ xs) (omega arith, words.1.1))

-- a line is its fields, joined
pub join-fields_of : (line : List ℕ) (fields : List (List ℕ)) → fields_of line ≡ fields → line ≡ join_with_byte blank fields
join-fields_of line fields e = sym (join_with_byte-slice_split blank line) ∙ ap (join_with_byte blank) e

-- the lines of a text that was joined from lines, with the empty rest
pub lines_of-text_of : (lines : List (List (List ℕ))) → AllHaveWords lines → lines_of (text_of lines) ≡ map (join_with_byte blank) lines ++ ([] ∷ [])
lines_of-text_of [] words = refl
lines_of-text_of (l ∷ ls) words =
    ap lines_of (append_assoc (join_with_byte blank l) (line_feed ∷ []) (text_of ls))
    ∙ slice_split_at (λ b. eqb b line_feed) (join_with_byte blank l) line_feed (text_of ls)
    (All-from_recursion (λ b. eqb b line_feed ≡ false) (join_with_byte blank l) (line-join l words.0.1)) refl
    ∙ ap (λ xs. join_with_byte blank l ∷ xs) (lines_of-text_of ls words.1)

-- lines with an empty rest, joined by line feeds, are the text of the lines
join-lines : (lines : List (List (List ℕ))) → join_with_byte line_feed (map (join_with_byte blank) lines ++ ([] ∷ [])) ≡ text_of lines
join-lines [] = refl
join-lines (l ∷ []) = sym (append-nil (join_with_byte blank l ++ line_feed ∷ []))
join-lines (l ∷ m ∷ ls) =
    ap (λ xs. join_with_byte blank l ++ (line_feed ∷ xs)) (join-lines (m ∷ ls))
    ∙ sym (append_assoc (join_with_byte blank l) (line_feed ∷ []) (text_of (m ∷ ls)))

-- a text of these lines, with the empty rest, is their text
pub text_of-lines_of : (text : List ℕ) (lines : List (List (List ℕ))) → lines_of text ≡ map (join_with_byte blank) lines ++ ([] ∷ []) → text ≡ text_of lines
text_of-lines_of text lines e = sym (join_with_byte-slice_split line_feed text) ∙ ap (join_with_byte line_feed) e ∙ join-lines lines

-- lines that are joined alike are alike
same_lines : (ls ms : List (List (List ℕ))) → AllHaveWords ls → AllHaveWords ms → map (join_with_byte blank) ls ≡ map (join_with_byte blank) ms → ls ≡ ms
same_lines [] [] a b e = refl
same_lines [] (m ∷ ms) a b e = cc
same_lines (l ∷ ls) [] a b e = cc
same_lines (l ∷ ls) (m ∷ ms) a b e =
    let heads : join_with_byte blank l ≡ join_with_byte blank m = cc in
    let tails : map (join_with_byte blank) ls ≡ map (join_with_byte blank) ms = cc in
    let same_head : l ≡ m = sym (fields_of-join l a.0) ∙ ap fields_of heads ∙ fields_of-join m b.0 in
    let same_tail : ls ≡ ms = same_lines ls ms a.1 b.1 tails in
    cc

-- one text is that of one list of lines
pub text_of_injective : (ls ms : List (List (List ℕ))) → AllHaveWords ls → AllHaveWords ms → text_of ls ≡ text_of ms → ls ≡ ms
text_of_injective ls ms a b e =
    same_lines ls ms a b
    (append_cancel_right (map (join_with_byte blank) ls) (map (join_with_byte blank) ms) ([] ∷ [])
    (sym (lines_of-text_of ls a) ∙ ap lines_of e ∙ lines_of-text_of ms b))

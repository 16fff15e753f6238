-- The file of a texture that is made from a number, row by row.
use Rattle.std.proofs.Common.{◌≡◌, ℕ, ◌+◌, ◌-◌, ◌*◌, ◌<◌, List, [], ◌++◌, length, take, Option, refl, sym, ap, ◌∙◌, append_assoc, arith}
use Rattle.std.specs.Prelude.{codes, decimal}
use Rattle.std.specs.Option.{option_map}
use Rattle.std.specs.List.{flat_map, range_with_len}
use Rattle.std.proofs.lemmas.List.{append-nil}
use Rattle.vt_outside.specs.Files.{Files, with_bytes, with_appended}
use Rattle.vt_outside.proofs.Changes.{known-bytes-appended}
use Rattle.vt_ppm.specs.Picture.{picture_bytes}
use Rattle.vt_tiles.proofs.Spans.{span_add, span_length}
use Rattle.vt_store.proofs.Writing.{longer_part}
use Rattle.vt_store_commands.specs.commands.Gen.{made_texel, made_row, made_rows, made_file}

-- what a function gives over a range with one number more
over_more : (f : ℕ → List ℕ) (n : ℕ) → flat_map f (range_with_len 0 (n + 1)) ≡ flat_map f (range_with_len 0 n) ++ f n
over_more f n =
    let e : 0 + n ≡ n = omega arith in
    span_add f 0 n 1 ∙ ap (λ (t : List ℕ). flat_map f (range_with_len 0 n) ++ t) (append-nil (f (0 + n)) ∙ ap f e)

pub row_none : (number y : ℕ) → ◌≡◌ {A = List ℕ} [] (made_row number y 0)
unfolding made_row
row_none number y = refl

row_more : (number y x : ℕ) → made_row number y x ++ made_texel number x y ≡ made_row number y (x + 1)
unfolding made_row
row_more number y x = sym (over_more (λ (i : ℕ). made_texel number i y) x)

-- one texel more of a row
pub texel_put : (number y x : ℕ) (before after : List ℕ) → take (3 * x) before ≡ made_row number y x
    → take (3 * x + 3) after ≡ take (3 * x) before ++ made_texel number x y → take (3 * (x + 1)) after ≡ made_row number y (x + 1)
texel_put number y x before after so_far put =
    ap (λ (n : ℕ). take n after) (let more : 3 * (x + 1) ≡ 3 * x + 3 = omega arith in more)
    ∙ put ∙ ap (λ (t : List ℕ). t ++ made_texel number x y) so_far ∙ row_more number y x

-- a picture's header and samples, and more samples
samples_then : (w h : ℕ) (s t : List ℕ) → picture_bytes 1 w h s ++ t ≡ picture_bytes 1 w h (s ++ t)
samples_then w h s t = append_assoc (codes "P6\n" ++ decimal w ++ codes " " ++ decimal h ++ codes "\n" ++ decimal 255 ++ codes "\n") s t

-- a picture's bytes before its samples
pub header_is : (w h : ℕ) (header : List ℕ) → header ≡ codes "P6\n" ++ decimal w ++ codes " " ++ decimal h ++ codes "\n" ++ decimal 255 ++ codes "\n"
    → header ≡ picture_bytes 1 w h []
header_is w h header is = is ∙ sym (append-nil (codes "P6\n" ++ decimal w ++ codes " " ++ decimal h ++ codes "\n" ++ decimal 255 ++ codes "\n"))

-- the texture's file as far as so many rows
abbrev pub made_front : ℕ → ℕ → ℕ → ℕ → List ℕ
made_front number w h rows = picture_bytes 1 w h (made_rows number w rows)

front_none : (number w h : ℕ) → picture_bytes 1 w h [] ≡ made_front number w h 0
unfolding made_rows
front_none number w h = refl

front_more : (number w h y : ℕ) → made_front number w h y ++ made_row number y w ≡ made_front number w h (y + 1)
unfolding made_rows
front_more number w h y =
    samples_then w h (made_rows number w y) (made_row number y w)
    ∙ ap (picture_bytes 1 w h) (sym (over_more (λ (i : ℕ). made_row number i w) y))

pub rows_none : (number w : ℕ) → ◌≡◌ {A = List ℕ} [] (made_rows number w 0)
unfolding made_rows
rows_none number w = refl

-- a row has three samples a texel
pub row_length : (number y w : ℕ) → length (made_row number y w) ≡ w * 3
unfolding made_row
row_length number y w = span_length (λ (x : ℕ). made_texel number x y) 0 w 3 (λ i. refl)

-- one row more
pub rows_more : (number w y : ℕ) → made_rows number w y ++ made_row number y w ≡ made_rows number w (y + 1)
unfolding made_rows
rows_more number w y = sym (over_more (λ (i : ℕ). made_row number i w) y)

-- the rows behind so many
rows_from : ℕ → ℕ → ℕ → ℕ → List ℕ
rows_from number w h y = flat_map (λ (i : ℕ). made_row number i w) (range_with_len (0 + (y + 1)) (h - (y + 1)))

file_split : (number w h y : ℕ) → y < h → made_file number w h ≡ (made_front number w h y ++ made_row number y w) ++ rows_from number w h y
unfolding made_rows rows_from
file_split number w h y less =
    let rows = λ (i : ℕ). made_row number i w in
    let all : y + 1 + (h - (y + 1)) ≡ h = omega arith in
    sym (ap (λ (l : List ℕ). l ++ rows_from number w h y) (front_more number w h y)
    ∙ samples_then w h (made_rows number w (y + 1)) (rows_from number w h y)
    ∙ ap (picture_bytes 1 w h) (sym (span_add rows 0 (y + 1) (h - (y + 1))) ∙ ap (λ (n : ℕ). flat_map rows (range_with_len 0 n)) all))

-- the header was appended to a name that was created
pub header_whole : (f0 f1 f2 : Option Files) (name header : List ℕ) (number w h : ℕ) → header ≡ picture_bytes 1 w h []
    → f1 ≡ option_map (with_bytes name []) f0 → f2 ≡ option_map (with_appended name header) f1
    → f2 ≡ option_map (with_bytes name (made_front number w h 0)) f0
header_whole f0 f1 f2 name header number w h is held added =
    added ∙ ap (option_map (with_appended name header)) held ∙ known-bytes-appended name [] header f0
    ∙ ap (λ (l : List ℕ). option_map (with_bytes name l) f0) (is ∙ front_none number w h)

-- a prefix of it was
pub header_part : (f0 f1 f2 : Option Files) (name header : List ℕ) (number w h : ℕ) → header ≡ picture_bytes 1 w h []
    → f1 ≡ option_map (with_bytes name []) f0 → (k : ℕ) × (f2 ≡ option_map (with_appended name (take k header)) f1)
    → (j : ℕ) × (f2 ≡ option_map (with_bytes name (take j (made_file number w h))) f0)
header_part f0 f1 f2 name header number w h is held added =
    longer_part f0 f1 f2 name (made_file number w h) [] header (made_rows number w h) added.0
    (sym (ap (λ (l : List ℕ). l ++ made_rows number w h) is ∙ samples_then w h [] (made_rows number w h))) held added.1

-- a row was appended
pub row_whole : (f0 f1 f2 : Option Files) (name row : List ℕ) (number w h y : ℕ) → row ≡ made_row number y w
    → f1 ≡ option_map (with_bytes name (made_front number w h y)) f0 → f2 ≡ option_map (with_appended name row) f1
    → f2 ≡ option_map (with_bytes name (made_front number w h (y + 1))) f0
row_whole f0 f1 f2 name row number w h y is held added =
    added ∙ ap (option_map (with_appended name row)) held ∙ known-bytes-appended name (made_front number w h y) row f0
    ∙ ap (λ (l : List ℕ). option_map (with_bytes name l) f0)
    (ap (λ (l : List ℕ). made_front number w h y ++ l) is ∙ front_more number w h y)

-- a prefix of it was
pub row_part : (f0 f1 f2 : Option Files) (name row : List ℕ) (number w h y : ℕ) → y < h → row ≡ made_row number y w
    → f1 ≡ option_map (with_bytes name (made_front number w h y)) f0
    → (k : ℕ) × (f2 ≡ option_map (with_appended name (take k row)) f1)
    → (j : ℕ) × (f2 ≡ option_map (with_bytes name (take j (made_file number w h))) f0)
row_part f0 f1 f2 name row number w h y less is held added =
    longer_part f0 f1 f2 name (made_file number w h) (made_front number w h y) (made_row number y w) (rows_from number w h y) added.0
    (file_split number w h y less) held (added.1 ∙ ap (λ (l : List ℕ). option_map (with_appended name (take added.0 l)) f1) is)

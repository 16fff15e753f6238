-- The samples of a picture, pixel by pixel and row by row.
use Rattle.std.proofs.Common.{◌≡◌, ℕ, zero, suc, ◌+◌, ◌*◌, ◌/◌, ◌^◌, ◌<◌, ◌≤◌, List, [], ◌∷◌, ◌++◌, length, take, drop, drop-cons, refl, sym, ap, ◌∙◌, add-one, arith}
use Rattle.std.specs.Prelude.{slice_index}
use Rattle.std.specs.List.{flat_map, range_with_len}
use Rattle.std.proofs.lemmas.List.{append-nil, length-append, length-take-le}
use Rattle.std.proofs.Math.Seq.{take-append_seam, take-append-add}
use Rattle.std.proofs.lemmas.List.Concat.{flat_map-append}
use borrow.Rule.Slice.PartMut.{put_mid, post_of}
use Rattle.vt_pages.specs.Depths.{word_bytes, red_of, green_of, blue_of, bytes_from, texel_bytes}
use Rattle.vt_pages.specs.Numbers.{number_bytes}
use Rattle.vt_pages.specs.Texels.{Source}
use Rattle.vt_mip.specs.Chains.{IsTexelRaster}
use Rattle.vt_camera.specs.declared.paths.Camera.{Camera}
use Rattle.vt_camera.specs.declared.surfaces.Surface.{Surface}
use Rattle.vt_camera.specs.Paths.{PathView}
use Rattle.vt_camera.specs.Rows.{RowView, row_of, row_level, row_place}
use Rattle.vt_draw.proofs.Ranges.{range_more}
use Rattle.vt_plain.specs.Plain.{shown_word, row_samples, first_rows}

-- what a function gives over a range with one number more
pub over_more : (f : ℕ → List ℕ) (n : ℕ) → flat_map f (range_with_len 0 (n + 1)) ≡ flat_map f (range_with_len 0 n) ++ f n
over_more f n =
    ap (λ (m : ℕ). flat_map f (range_with_len 0 m)) (add-one n)
    ∙ ap (flat_map f) (range_more 0 n ∙ ap (λ (m : ℕ). range_with_len 0 n ++ m ∷ []) (omega arith))
    ∙ flat_map-append f (range_with_len 0 n) (n ∷ [])
    ∙ ap (λ (t : List ℕ). flat_map f (range_with_len 0 n) ++ t) (append-nil (f n))

-- what two functions give that are alike over a range
over_same : (f g : ℕ → List ℕ) (n : ℕ) → ((i : ℕ) → i < n → f i ≡ g i) → flat_map f (range_with_len 0 n) ≡ flat_map g (range_with_len 0 n)
over_same f g zero same = refl
over_same f g (suc n) same =
    ap (λ (m : ℕ). flat_map f (range_with_len 0 m)) (sym (add-one n))
    ∙ over_more f n
    ∙ ap (λ (t : List ℕ). t ++ f n) (over_same f g n (λ i low. same i (omega (arith, low))))
    ∙ ap (λ (t : List ℕ). flat_map g (range_with_len 0 n) ++ t) (same n (omega arith))
    ∙ sym (over_more g n)
    ∙ ap (λ (m : ℕ). flat_map g (range_with_len 0 m)) (add-one n)

-- rows of sources that show the same words
pub rows_alike : (d : ℕ) (source other : Source) (surface : Surface) (path : PathView) (camera : Camera) (rows : ℕ)
    → ((y x : ℕ) → y < rows → x < path.width
    → shown_word source (row_of path camera y surface) x ≡ shown_word other (row_of path camera y surface) x)
    → first_rows d source surface path camera rows ≡ first_rows d other surface path camera rows
unfolding first_rows row_samples
rows_alike d source other surface path camera rows same =
    over_same (λ y. row_samples d source (row_of path camera y surface) path.width) (λ y. row_samples d other (row_of path camera y surface) path.width) rows
    (λ y low. over_same (λ x. word_bytes d (shown_word source (row_of path camera y surface) x))
    (λ x. word_bytes d (shown_word other (row_of path camera y surface) x)) path.width (λ x inside. ap (word_bytes d) (same y x low inside)))

pub row_samples-none : (d : ℕ) (source : Source) (row : RowView) → ◌≡◌ {A = List ℕ} [] (row_samples d source row 0)
unfolding row_samples
row_samples-none d source row = refl

pub row_samples-more : (d : ℕ) (source : Source) (row : RowView) (x : ℕ)
    → row_samples d source row x ++ word_bytes d (shown_word source row x) ≡ row_samples d source row (x + 1)
unfolding row_samples
row_samples-more d source row x = sym (over_more (λ (i : ℕ). word_bytes d (shown_word source row i)) x)

-- as many bytes for each number of a range
pub many : (f : ℕ → List ℕ) (m n : ℕ) → ((i : ℕ) → length (f i) ≡ m) → length (flat_map f (range_with_len 0 n)) ≡ m * n
many f m zero each = omega arith
many f m (suc n) each =
    ap (λ (t : List ℕ). length (flat_map f t)) (range_more 0 n ∙ ap (λ (i : ℕ). range_with_len 0 n ++ i ∷ []) (omega arith))
    ∙ ap length (flat_map-append f (range_with_len 0 n) (n ∷ []))
    ∙ length-append (flat_map f (range_with_len 0 n)) (flat_map f (n ∷ []))
    ∙ ap (λ (t : List ℕ). length (flat_map f (range_with_len 0 n)) + length t) (append-nil (f n))
    ∙ omega (arith, many f m n each, each n)

-- the bytes from a place on are what is cut out there
cut_bytes : (bytes : List ℕ) (at n : ℕ) → at + n ≤ length bytes → take n (drop at bytes) ≡ bytes_from bytes at n
cut_bytes bytes at zero room = refl
cut_bytes bytes at (suc n) room =
    ap (take (suc n)) (drop-cons bytes at 0 (omega arith))
    ∙ ap (λ (m : ℕ). slice_index bytes at ∷ take n (drop m bytes)) (let e : suc at ≡ at + 1 = omega arith in e)
    ∙ ap (λ (t : List ℕ). slice_index bytes at ∷ t) (cut_bytes bytes (at + 1) n (omega arith))

length-bytes_from : (bytes : List ℕ) (at n : ℕ) → length (bytes_from bytes at n) ≡ n
length-bytes_from bytes at zero = refl
length-bytes_from bytes at (suc n) = omega (arith, length-bytes_from bytes (at + 1) n)

-- a texel that was copied is behind what was there before its place
pub copied : (d : ℕ) (texels out copy : List ℕ) (r texel x from to m k : ℕ) → r ≡ 3 * d → from ≡ r * texel → to ≡ r * x → m ≡ r
    → 3 * d * texel + 3 * d ≤ length texels → 3 * d * x + 3 * d ≤ length out → copy ≡ take m (drop from texels)
    → take (3 * d * x + 3 * d) (put_mid to k out copy) ≡ take (3 * d * x) out ++ texel_bytes d texels texel
copied d texels out copy r texel x from to m k e f g h has room is =
    ap (λ (n : ℕ). take n (put_mid to k out copy)) (let s : 3 * d * x + 3 * d ≡ length (take to out) + length copy = omega (arith, front, whole, place) in s)
    ∙ take-append-add (take to out) (copy ++ post_of to k out) (length copy)
    ∙ ap (λ (t : List ℕ). take to out ++ t) (take-append_seam copy (post_of to k out) ∙ same)
    ∙ ap (λ (n : ℕ). take n out ++ texel_bytes d texels texel) place where
      start : from ≡ 3 * d * texel
      start = f ∙ ap (λ (n : ℕ). n * texel) e

      place : to ≡ 3 * d * x
      place = g ∙ ap (λ (n : ℕ). n * x) e

      same : copy ≡ texel_bytes d texels texel
      same =
          is
          ∙ ap (λ (n : ℕ). take n (drop from texels)) (h ∙ e)
          ∙ ap (λ (n : ℕ). take (3 * d) (drop n texels)) start
          ∙ cut_bytes texels (3 * d * texel) (3 * d) has

      front : length (take to out) ≡ to
      front = length-take-le to out (omega (arith, place, room))

      whole : length copy ≡ 3 * d
      whole = ap length same ∙ length-bytes_from texels (3 * d * texel) (3 * d)

-- one pixel more of a row that is drawn
pub pixel_drawn : (d : ℕ) (source : Source) (row : RowView) (x level column line columns lines at width : ℕ) (texels before after : List ℕ)
    → IsTexelRaster d (source level) columns lines texels
    → level ≡ row_level row → column ≡ (row_place row x).0 / 2 ^ row_level row
    → line ≡ (row_place row x).1 / 2 ^ row_level row → column < columns → line < lines → width ≡ columns
    → at ≡ line * width + column
    → take (3 * d * x) before ≡ row_samples d source row x
    → take (3 * d * x + 3 * d) after ≡ take (3 * d * x) before ++ texel_bytes d texels at
    → take (3 * d * (x + 1)) after ≡ row_samples d source row (x + 1)
pixel_drawn d source row x level column line columns lines at width texels before after is k i j wide high w e so_far written =
    let place : at ≡ line * columns + column = e ∙ ap (λ (n : ℕ). line * n + column) w in
    let texel : word_bytes d (source level column line) ≡ word_bytes d (shown_word source row x) = rw (k, i, j) refl in
    ap (λ (n : ℕ). take n after) (let more : 3 * d * (x + 1) ≡ 3 * d * x + 3 * d = omega arith in more)
    ∙ written
    ∙ ap (λ (t : List ℕ). t ++ texel_bytes d texels at) so_far
    ∙ ap (λ (t : List ℕ). row_samples d source row x ++ t) (ap (texel_bytes d texels) place ∙ is.each column line wide high ∙ texel)
    ∙ row_samples-more d source row x

length-number_bytes : (n value : ℕ) → length (number_bytes n value) ≡ n
length-number_bytes zero value = refl
length-number_bytes (suc n) value = omega (arith, length-number_bytes n value)

pub length-word_bytes : (d word : ℕ) → length (word_bytes d word) ≡ 3 * d
length-word_bytes d word =
    let red = number_bytes d (red_of d word) in
    let green = number_bytes d (green_of d word) in
    let blue = number_bytes d (blue_of d word) in
    length-append (red ++ green) blue
    ∙ omega (
      arith,
      length-append red green,
      length-number_bytes d (red_of d word),
      length-number_bytes d (green_of d word),
      length-number_bytes d (blue_of d word),
    )

pub length-row_samples : (d : ℕ) (source : Source) (row : RowView) (columns : ℕ) → length (row_samples d source row columns) ≡ 3 * d * columns
unfolding row_samples
length-row_samples d source row columns =
    many (λ (x : ℕ). word_bytes d (shown_word source row x)) (3 * d) columns (λ x. length-word_bytes d (shown_word source row x))

pub length-first_rows : (d : ℕ) (source : Source) (surface : Surface) (path : PathView) (camera : Camera) (rows : ℕ)
    → length (first_rows d source surface path camera rows) ≡ 3 * d * (path.width * rows)
unfolding first_rows
length-first_rows d source surface path camera rows =
    many (λ (y : ℕ). row_samples d source (row_of path camera y surface) path.width) (3 * d * path.width) rows
    (λ y. length-row_samples d source (row_of path camera y surface) path.width)
    ∙ omega arith

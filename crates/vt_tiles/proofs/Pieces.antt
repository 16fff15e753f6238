-- Bytes that are cut into pieces of one size, as texels are.
use Rattle.std.proofs.Common.{◌≡◌, ℕ, zero, suc, ◌+◌, ◌-◌, ◌*◌, ◌/◌, ◌%◌, ◌<◌, ◌≤◌, ◌⊎◌, inl, inr, List, [], ◌∷◌, ◌++◌, length, get_or, take, drop, refl, sym, ap, ◌∙◌, arith}
use Rattle.std.proofs.lemmas.List.{ext_get_or, length-append, length-take-le, get_or-take, get_or-drop, get_or_append_left, get_or-append_right, get_or-append-add}
use Rattle.std.proofs.lemmas.Nat.{mul-le, div-add-mod', div_below, mod_below}
use Rattle.std.proofs.lemmas.Slice.{drop-put_mid}
use Rattle.std.specs.Prelude.{slice_index, flat_map}
use borrow.Rule.Slice.PartMut.{put_mid, post_of}
use Rattle.vt_pages.specs.Depths.{IsDepth, texel_length, sample_at, word_of, word_at, word_bytes, bytes_from}
use Rattle.vt_tiles.specs.TileLines.{piece_at}
use Rattle.vt_tiles.proofs.Headers.{number_same}

-- a byte, its place counted otherwise
moved : (xs : List ℕ) (i k : ℕ) → i ≡ k → slice_index xs i ≡ slice_index xs k
moved xs i k e = ap (slice_index xs) e

grown : (x y : ℕ) (xs ys : List ℕ) → x ≡ y → xs ≡ ys → x ∷ xs ≡ y ∷ ys
grown x y xs ys p q = cc

-- runs of bytes that are the same byte by byte
pub bytes_same : (xs ys : List ℕ) (a b n : ℕ) → ((c : ℕ) → c < n → slice_index xs (a + c) ≡ slice_index ys (b + c))
    → bytes_from xs a n ≡ bytes_from ys b n
bytes_same xs ys a b zero each = refl
bytes_same xs ys a b (suc n) each =
    grown (slice_index xs a) (slice_index ys b) (bytes_from xs (a + 1) n) (bytes_from ys (b + 1) n)
    (moved xs a (a + 0) (omega arith) ∙ each 0 (omega arith) ∙ moved ys (b + 0) b (omega arith))
    (bytes_same xs ys (a + 1) (b + 1) n
    (λ c h. moved xs (a + 1 + c) (a + (c + 1)) (omega arith) ∙ each (c + 1) (omega arith) ∙ moved ys (b + (c + 1)) (b + 1 + c) (omega arith)))

-- a byte of a run
pub bytes_at : (xs : List ℕ) (a n c : ℕ) → c < n → slice_index (bytes_from xs a n) c ≡ slice_index xs (a + c)
bytes_at xs a zero c h = let no : ⊥ = omega arith in absurd no
bytes_at xs a (suc n) zero h = moved xs a (a + 0) (omega arith)
bytes_at xs a (suc n) (suc c) h = bytes_at xs (a + 1) n c (omega arith) ∙ moved xs (a + 1 + c) (a + suc c) (omega arith)

pub bytes_moved : (xs : List ℕ) (a b n : ℕ) → a ≡ b → bytes_from xs a n ≡ bytes_from xs b n
bytes_moved xs a b n e = ap (λ i. bytes_from xs i n) e

-- a run of what is behind some bytes
pub bytes_of_drop : (xs : List ℕ) (k a n : ℕ) → bytes_from (drop k xs) a n ≡ bytes_from xs (k + a) n
bytes_of_drop xs k a n = bytes_same (drop k xs) xs a (k + a) n
    (λ c h. get_or-drop k xs (a + c) 0 ∙ moved xs (k + (a + c)) (k + a + c) (omega arith))

-- and of a prefix
pub bytes_of_take : (xs : List ℕ) (m a n : ℕ) → a + n ≤ m → bytes_from (take m xs) a n ≡ bytes_from xs a n
bytes_of_take xs m a n room = bytes_same (take m xs) xs a a n (λ c h. get_or-take m xs (a + c) 0 (omega arith))

-- and of two lists, in the first
pub bytes_of_first : (xs ys : List ℕ) (a n : ℕ) → a + n ≤ length xs → bytes_from (xs ++ ys) a n ≡ bytes_from xs a n
bytes_of_first xs ys a n room = bytes_same (xs ++ ys) xs a a n (λ c h. get_or_append_left xs ys 0 (a + c) (omega arith))

-- and in the second
pub bytes_of_second : (xs ys : List ℕ) (k a n : ℕ) → length xs ≡ k → bytes_from (xs ++ ys) (k + a) n ≡ bytes_from ys a n
bytes_of_second xs ys k a n full = bytes_same (xs ++ ys) ys (k + a) a n
    (λ c h. moved (xs ++ ys) (k + a + c) (length xs + (a + c)) (omega (arith, full)) ∙ get_or-append-add xs ys (a + c) 0)

-- the end of a piece that is followed by others, or by the end of them all
pub piece_end : (z i n : ℕ) → i < n → z * i + z ≤ z * n
piece_end z i n h = omega (arith, mul-le z (i + 1) z n (omega arith) (omega arith))

-- a byte of a piece among those of so many tiles
pub place_in : (z count area j c : ℕ) → j < count * area → c < z → z * j + c < count * (area * z)
place_in z count area j c h q =
    let e : z * (count * area) ≡ count * (area * z) = omega arith in
    omega (arith, piece_end z j (count * area) h, e)

-- lists of as many pieces are the same where each piece is
pub same_pieces : (z n : ℕ) (xs ys : List ℕ) → 1 ≤ z → length xs ≡ z * n → length ys ≡ z * n
    → ((i : ℕ) → i < n → piece_at z xs i ≡ piece_at z ys i) → xs ≡ ys
same_pieces z n xs ys some full whole each = ext_get_or 0 xs ys (full ∙ sym whole) (λ m below. at m (omega (arith, full))) where
  at : (m : ℕ) → m < z * n → get_or xs m 0 ≡ get_or ys m 0
  at m below =
      let i = m / z in
      let c = m % z in
      let split : m ≡ z * i + c = omega (arith, div-add-mod' m z) in
      let inside : i < n = div_below m z n some (omega arith) in
      let part : c < z = mod_below m z some in
      moved xs m (z * i + c) split ∙ sym (bytes_at xs (z * i) z c part) ∙ ap (λ l. slice_index l c) (each i inside)
      ∙ bytes_at ys (z * i) z c part ∙ moved ys (z * i + c) m (sym split)

-- where a list is not written its bytes stay
pub byte_kept : (xs ys : List ℕ) (a k m : ℕ) → a ≤ length xs → length ys ≡ k → (m < a) ⊎ (a + k ≤ m) → get_or (put_mid a k xs ys) m 0 ≡ get_or xs m 0
byte_kept xs ys a k m room full (inl h) =
    get_or_append_left (take a xs) (ys ++ post_of a k xs) 0 m (omega (arith, length-take-le a xs room)) ∙ get_or-take a xs m 0 h
byte_kept xs ys a k m room full (inr h) =
    let z : m ≡ m + 0 = omega arith in
    ap (λ i. get_or (put_mid a k xs ys) i 0) z ∙ sym (get_or-drop m (put_mid a k xs ys) 0 0)
    ∙ ap (λ l. get_or l 0 0) (drop-put_mid a k xs ys m h room full) ∙ get_or-drop m xs 0 0 ∙ ap (λ i. get_or xs i 0) (sym z)

-- and where it is, they are what is written
pub byte_written : (xs ys : List ℕ) (a k i : ℕ) → a ≤ length xs → i < length ys → get_or (put_mid a k xs ys) (a + i) 0 ≡ get_or ys i 0
byte_written xs ys a k i room inside =
    get_or-append_right (take a xs) (ys ++ post_of a k xs) a (a + i) 0 (length-take-le a xs room) (omega arith)
    ∙ ap (λ j. get_or (ys ++ post_of a k xs) j 0) (let s : a + i - a ≡ i = omega arith in s)
    ∙ get_or_append_left ys (post_of a k xs) 0 i inside

-- n pieces are written from piece number p on: every other one stays
pub piece_kept : (z : ℕ) (xs ys : List ℕ) (p n i a k : ℕ) → a ≡ z * p → k ≡ z * n → a ≤ length xs → length ys ≡ k
    → (i < p) ⊎ (p + n ≤ i) → piece_at z (put_mid a k xs ys) i ≡ piece_at z xs i
piece_kept z xs ys p n i a k at size room full (inl h) = bytes_same (put_mid a k xs ys) xs (z * i) (z * i) z
    (λ c q. byte_kept xs ys a k (z * i + c) room full (inl (omega (arith, piece_end z i p h))))
piece_kept z xs ys p n i a k at size room full (inr h) = bytes_same (put_mid a k xs ys) xs (z * i) (z * i) z
    (λ c q. byte_kept xs ys a k (z * i + c) room full (inr (omega (arith, mul-le z (p + n) z i (omega arith) h))))

-- and each of them is what is written
pub piece_written : (z : ℕ) (xs ys : List ℕ) (p n i a k : ℕ) → a ≡ z * p → k ≡ z * n → a ≤ length xs → length ys ≡ k
    → i < n → piece_at z (put_mid a k xs ys) (p + i) ≡ piece_at z ys i
piece_written z xs ys p n i a k at size room full h = bytes_same (put_mid a k xs ys) ys (z * (p + i)) (z * i) z
    (λ c q. moved (put_mid a k xs ys) (z * (p + i) + c) (a + (z * i + c)) (omega (arith, at))
    ∙ byte_written xs ys a k (z * i + c) room (omega (arith, full, size, piece_end z i n h)))

pub word_length : (d w : ℕ) → IsDepth d → length (word_bytes d w) ≡ texel_length d
word_length d w (inl one) = rw one refl
word_length d w (inr two) = rw two refl

pub word_piece : (d w : ℕ) → IsDepth d → piece_at (texel_length d) (word_bytes d w) 0 ≡ word_bytes d w
word_piece d w (inl one) = rw one refl
word_piece d w (inr two) = rw two refl

pub words_length : (d : ℕ) (ws : List ℕ) → IsDepth d → length (flat_map (word_bytes d) ws) ≡ texel_length d * length ws
words_length d [] depth = omega arith
words_length d (w ∷ ws) depth =
    omega (arith, length-append (word_bytes d w) (flat_map (word_bytes d) ws), word_length d w depth, words_length d ws depth)

-- the bytes of words are, texel by texel, those of each word
pub words_piece : (d : ℕ) (ws : List ℕ) (i : ℕ) → IsDepth d → i < length ws
    → piece_at (texel_length d) (flat_map (word_bytes d) ws) i ≡ word_bytes d (slice_index ws i)
words_piece d [] i depth h = let no : ⊥ = omega arith in absurd no
words_piece d (w ∷ ws) zero depth h =
    bytes_of_first (word_bytes d w) (flat_map (word_bytes d) ws) (texel_length d * 0) (texel_length d) (omega (arith, word_length d w depth))
    ∙ word_piece d w depth
words_piece d (w ∷ ws) (suc i) depth h =
    bytes_moved (word_bytes d w ++ flat_map (word_bytes d) ws) (texel_length d * suc i) (texel_length d + texel_length d * i)
    (texel_length d) (omega arith)
    ∙ bytes_of_second (word_bytes d w) (flat_map (word_bytes d) ws) (texel_length d) (texel_length d * i) (texel_length d) (word_length d w depth)
    ∙ words_piece d ws i depth (omega arith)

words_are : (d r g b s h c : ℕ) → r ≡ s → g ≡ h → b ≡ c → word_of d r g b ≡ word_of d s h c
words_are d r g b s h c p q e = cc

-- texels of the same bytes have the same word
pub word_same : (d : ℕ) (xs ys : List ℕ) (i j : ℕ) → piece_at (texel_length d) xs i ≡ piece_at (texel_length d) ys j → word_at d xs i ≡ word_at d ys j
word_same d xs ys i j same =
    words_are d (sample_at d xs (3 * i)) (sample_at d xs (3 * i + 1)) (sample_at d xs (3 * i + 2))
    (sample_at d ys (3 * j)) (sample_at d ys (3 * j + 1)) (sample_at d ys (3 * j + 2))
    (number_same xs ys (d * (3 * i)) (d * (3 * j)) d (λ c h. byte c (d * (3 * i) + c) (d * (3 * j) + c) (omega arith) (omega arith) (omega arith)))
    (number_same xs ys (d * (3 * i + 1)) (d * (3 * j + 1)) d
    (λ c h. byte (d + c) (d * (3 * i + 1) + c) (d * (3 * j + 1) + c) (omega arith) (omega arith) (omega arith)))
    (number_same xs ys (d * (3 * i + 2)) (d * (3 * j + 2)) d
    (λ c h. byte (d + d + c) (d * (3 * i + 2) + c) (d * (3 * j + 2) + c) (omega arith) (omega arith) (omega arith))) where
      byte : (c m n : ℕ) → c < texel_length d → m ≡ texel_length d * i + c → n ≡ texel_length d * j + c → slice_index xs m ≡ slice_index ys n
      byte c m n h p q =
          moved xs m (texel_length d * i + c) p ∙ sym (bytes_at xs (texel_length d * i) (texel_length d) c h)
          ∙ ap (λ l. slice_index l c) same
          ∙ bytes_at ys (texel_length d * j) (texel_length d) c h ∙ moved ys (texel_length d * j + c) n (sym q)

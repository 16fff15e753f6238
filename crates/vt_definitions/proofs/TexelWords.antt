-- The texels of bytes and their words.
use Rattle.std.proofs.Common.{◌≡◌, ℕ, inl, inr, List, ◌+◌, ◌*◌, ◌^◌, ◌<◌, ap, ◌∙◌, refl, arith}
use Rattle.std.specs.Prelude.{slice_index}
use Rattle.vt_definitions.specs.Depths.{IsDepth, AreBytes, sample_at, sample_base, word_bytes, word_at, texel_bytes}
use Rattle.vt_definitions.proofs.Words.{byte_at, three, narrow_bytes, wide_bytes, word_small}

-- the same byte, its place counted otherwise
moved : (bytes : List ℕ) (i k : ℕ) → i ≡ k → slice_index bytes i ≡ slice_index bytes k
moved bytes i k e = ap (slice_index bytes) e

-- a sample of one byte, and one of two
one_byte : (bytes : List ℕ) (k : ℕ) → sample_at 1 bytes k ≡ slice_index bytes k
one_byte bytes k = let e : slice_index bytes (1 * k + 0) ≡ slice_index bytes k = moved bytes (1 * k + 0) k (omega arith) in omega (arith, e)

two_bytes : (bytes : List ℕ) (k i j : ℕ) → 2 * k ≡ i → i + 1 ≡ j → sample_at 2 bytes k ≡ slice_index bytes i * 256 + slice_index bytes j
two_bytes bytes k i j e f =
    let first : slice_index bytes (2 * k + 0) ≡ slice_index bytes i = moved bytes (2 * k + 0) i (omega (arith, e)) in
    let second : slice_index bytes (2 * k + 1) ≡ slice_index bytes j = moved bytes (2 * k + 1) j (omega (arith, e, f)) in
    omega (arith, first, second)

pub sample_small : (d : ℕ) (bytes : List ℕ) (k : ℕ) → IsDepth d → AreBytes bytes → sample_at d bytes k < sample_base d
sample_small d bytes k (inl one) are = rw one narrow where
  narrow : sample_at 1 bytes k < 256
  narrow = (let b = byte_at bytes k are in let e = one_byte bytes k in omega (arith, b, e))
sample_small d bytes k (inr two) are = rw two wide where
  wide : sample_at 2 bytes k < 65536
  wide = (let a = byte_at bytes (2 * k) are in let b = byte_at bytes (2 * k + 1) are in let e = two_bytes bytes k (2 * k) (2 * k + 1) (omega arith)
      (omega arith) in omega (arith, a, b, e))

narrow_words : (bytes : List ℕ) (i : ℕ) → AreBytes bytes → word_bytes 1 (word_at 1 bytes i) ≡ texel_bytes 1 bytes i
narrow_words bytes i are =
    narrow_bytes (sample_at 1 bytes (3 * i)) (sample_at 1 bytes (3 * i + 1)) (sample_at 1 bytes (3 * i + 2))
    (sample_small 1 bytes (3 * i) (inl refl) are) (sample_small 1 bytes (3 * i + 1) (inl refl) are) (sample_small 1 bytes (3 * i + 2) (inl refl) are)
    ∙ three (sample_at 1 bytes (3 * i)) (sample_at 1 bytes (3 * i + 1)) (sample_at 1 bytes (3 * i + 2))
    (slice_index bytes (3 * 1 * i)) (slice_index bytes (3 * 1 * i + 1)) (slice_index bytes (3 * 1 * i + 1 + 1))
    (one_byte bytes (3 * i) ∙ moved bytes (3 * i) (3 * 1 * i) (omega arith))
    (one_byte bytes (3 * i + 1) ∙ moved bytes (3 * i + 1) (3 * 1 * i + 1) (omega arith))
    (one_byte bytes (3 * i + 2) ∙ moved bytes (3 * i + 2) (3 * 1 * i + 1 + 1) (omega arith))

wide_words : (bytes : List ℕ) (i : ℕ) → AreBytes bytes → word_bytes 2 (word_at 2 bytes i) ≡ texel_bytes 2 bytes i
wide_words bytes i are =
    let at : ℕ = 3 * 2 * i in
    wide_bytes (sample_at 2 bytes (3 * i)) (sample_at 2 bytes (3 * i + 1)) (sample_at 2 bytes (3 * i + 2))
    (slice_index bytes at) (slice_index bytes (at + 1)) (slice_index bytes (at + 1 + 1)) (slice_index bytes (at + 1 + 1 + 1))
    (slice_index bytes (at + 1 + 1 + 1 + 1)) (slice_index bytes (at + 1 + 1 + 1 + 1 + 1))
    (byte_at bytes at are) (byte_at bytes (at + 1) are) (byte_at bytes (at + 1 + 1) are) (byte_at bytes (at + 1 + 1 + 1) are)
    (byte_at bytes (at + 1 + 1 + 1 + 1) are) (byte_at bytes (at + 1 + 1 + 1 + 1 + 1) are)
    (two_bytes bytes (3 * i) at (at + 1) (omega arith) (omega arith))
    (two_bytes bytes (3 * i + 1) (at + 1 + 1) (at + 1 + 1 + 1) (omega arith) (omega arith))
    (two_bytes bytes (3 * i + 2) (at + 1 + 1 + 1 + 1) (at + 1 + 1 + 1 + 1 + 1) (omega arith) (omega arith))

pub texel_words : (d : ℕ) (bytes : List ℕ) (i : ℕ) → IsDepth d → AreBytes bytes → word_bytes d (word_at d bytes i) ≡ texel_bytes d bytes i
texel_words d bytes i (inl one) are = rw one (narrow_words bytes i are)
texel_words d bytes i (inr two) are = rw two (wide_words bytes i are)

pub words_small : (d : ℕ) (bytes : List ℕ) (i : ℕ) → IsDepth d → AreBytes bytes → word_at d bytes i < 2 ^ (24 * d)
words_small d bytes i depth are =
    word_small d (sample_at d bytes (3 * i)) (sample_at d bytes (3 * i + 1)) (sample_at d bytes (3 * i + 2)) depth
    (sample_small d bytes (3 * i) depth are) (sample_small d bytes (3 * i + 1) depth are) (sample_small d bytes (3 * i + 2) depth are)

-- Texel words at both depths.
use Rattle.std.proofs.Common.{◌≡◌, ◌⊎◌, ℕ, inl, inr, List, [], ◌∷◌, length, ◌+◌, ◌*◌, ◌^◌, ◌<◌, ◌≤◌, arith}
use Rattle.std.specs.Prelude.{slice_index}
use Rattle.std.proofs.lemmas.List.{get_or_past}
use Rattle.vt_definitions.specs.Depths.{IsDepth, AreBytes, word_of, word_bytes, word_at, sample_base}

narrow : (w : ℕ) → w < 16777216 → word_at 1 (word_bytes 1 w) 0 ≡ w
narrow w few = omega (arith, few)

wide : (w : ℕ) → w < 281474976710656 → word_at 2 (word_bytes 2 w) 0 ≡ w
wide w few = omega (arith, few)

pub bytes_make_word : (d w : ℕ) → IsDepth d → w < 2 ^ (24 * d) → word_at d (word_bytes d w) 0 ≡ w
bytes_make_word d w (inl one) = rw one (narrow w)
bytes_make_word d w (inr two) = rw two (wide w)

-- what are bytes are so at each index, also past the end
pub byte_at : (bytes : List ℕ) (i : ℕ) → AreBytes bytes → slice_index bytes i < 256
byte_at bytes i are = at (grind arith) where
  at : (i < length bytes) ⊎ (length bytes ≤ i) → slice_index bytes i < 256
  at (inl inside) = are i 0 inside
  at (inr past) = (let none : slice_index bytes i ≡ 0 = get_or_past bytes i 0 past in omega arith)

pub three : (x y z a b c : ℕ) → x ≡ a → y ≡ b → z ≡ c → x ∷ y ∷ z ∷ [] ≡ a ∷ b ∷ c ∷ []
three x y z a b c p q r = cc

pub six : (x y z u v w a b c d e f : ℕ) → x ≡ a → y ≡ b → z ≡ c → u ≡ d → v ≡ e → w ≡ f
    → x ∷ y ∷ z ∷ u ∷ v ∷ w ∷ [] ≡ a ∷ b ∷ c ∷ d ∷ e ∷ f ∷ []
six x y z u v w a b c d e f p q r s t o = cc

-- the bytes of the word of three samples of one byte
pub narrow_bytes : (r g b : ℕ) → r < 256 → g < 256 → b < 256 → word_bytes 1 (word_of 1 r g b) ≡ r ∷ g ∷ b ∷ []
narrow_bytes r g b p q s = three _ _ _ r g b (omega (arith, p, q, s)) (omega (arith, p, q, s)) (omega (arith, p, q, s))

-- and of three samples of two bytes
pub wide_bytes : (r g b s t u v w x : ℕ) → s < 256 → t < 256 → u < 256 → v < 256 → w < 256 → x < 256
    → r ≡ s * 256 + t → g ≡ u * 256 + v → b ≡ w * 256 + x
    → word_bytes 2 (word_of 2 r g b) ≡ s ∷ t ∷ u ∷ v ∷ w ∷ x ∷ []
wide_bytes r g b s t u v w x p1 p2 p3 p4 p5 p6 e1 e2 e3 =
    six _ _ _ _ _ _ s t u v w x (omega (arith, p1, p2, p3, p4, p5, p6, e1, e2, e3)) (omega (arith, p1, p2, p3, p4, p5, p6, e1, e2, e3))
    (omega (arith, p1, p2, p3, p4, p5, p6, e1, e2, e3)) (omega (arith, p1, p2, p3, p4, p5, p6, e1, e2, e3))
    (omega (arith, p1, p2, p3, p4, p5, p6, e1, e2, e3)) (omega (arith, p1, p2, p3, p4, p5, p6, e1, e2, e3))

-- a word of samples is small
pub word_small : (d r g b : ℕ) → IsDepth d → r < sample_base d → g < sample_base d → b < sample_base d → word_of d r g b < 2 ^ (24 * d)
word_small d r g b (inl one) = rw one (narrow_small r g b) where
  narrow_small : (r g b : ℕ) → r < 256 → g < 256 → b < 256 → word_of 1 r g b < 16777216
  narrow_small r g b p q s = omega (arith, p, q, s)
word_small d r g b (inr two) = rw two (wide_small r g b) where
  wide_small : (r g b : ℕ) → r < 65536 → g < 65536 → b < 65536 → word_of 2 r g b < 281474976710656
  wide_small r g b p q s = omega (arith, p, q, s)

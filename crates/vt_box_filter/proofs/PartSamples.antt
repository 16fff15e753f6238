-- The samples of bytes that are cut out of others, and of bytes into which others were put.
use Rattle.std.proofs.Common.{◌≡◌, ℕ, zero, suc, inl, inr, ◌+◌, ◌-◌, ◌*◌, ◌<◌, ◌≤◌, List, ◌∷◌, ◌++◌, length, get_or, take, drop, refl, ap, ◌∙◌, arith}
use Rattle.std.specs.Prelude.{slice_index}
use Rattle.std.proofs.lemmas.List.{get_or-take, get_or-drop, get_or_append_left, get_or-append_right, length-take-le}
use Rattle.std.proofs.Math.Nat.{mul-le-mul_left}
use borrow.Rule.Slice.PartMut.{put_mid, post_of}
use Rattle.vt_definitions.specs.Numbers.{number_from}
use Rattle.vt_definitions.specs.Depths.{IsDepth, sample_at, sample_base, bytes_from}
use Rattle.vt_box_filter.specs.Boxes.{box}

-- the same bytes from two places on make the same number
number_same : (a b : List ℕ) (i j n : ℕ) → ((k : ℕ) → k < n → slice_index a (i + k) ≡ slice_index b (j + k)) → number_from a i n ≡ number_from b j n
number_same a b i j zero same = refl
number_same a b i j (suc n) same =
    let front : number_from a i n ≡ number_from b j n = number_same a b i j n (λ k low. same k (omega arith)) in
    let last : slice_index a (i + n) ≡ slice_index b (j + n) = same n (omega arith) in
    omega (arith, front, last)

-- and are the same list
bytes_same : (a b : List ℕ) (i j n : ℕ) → ((k : ℕ) → k < n → slice_index a (i + k) ≡ slice_index b (j + k)) → bytes_from a i n ≡ bytes_from b j n
bytes_same a b i j zero same = refl
bytes_same a b i j (suc n) same =
    ap (λ (x : ℕ). x ∷ bytes_from a (i + 1) n) first
    ∙ ap (λ (t : List ℕ). slice_index b j ∷ t) (bytes_same a b (i + 1) (j + 1) n rest) where
      at : (k m : ℕ) → m < suc n → i + m ≡ k → slice_index a k ≡ slice_index b (j + m)
      at k m low e = ap (slice_index a) (let s : k ≡ i + m = omega arith in s) ∙ same m low

      first : slice_index a i ≡ slice_index b j
      first = at i 0 (omega arith) (omega arith) ∙ ap (slice_index b) (omega arith)

      rest : (k : ℕ) → k < n → slice_index a (i + 1 + k) ≡ slice_index b (j + 1 + k)
      rest k low = at (i + 1 + k) (k + 1) (omega arith) (omega arith) ∙ ap (slice_index b) (let s : j + (k + 1) ≡ j + 1 + k = omega arith in s)

-- a byte of bytes that are cut out of others
cut_byte : (row : List ℕ) (from m i place : ℕ) → i < m → place ≡ from + i → slice_index (take m (drop from row)) i ≡ slice_index row place
cut_byte row from m i place inside at =
    get_or-take m (drop from row) i 0 inside
    ∙ get_or-drop from row i 0
    ∙ ap (λ (n : ℕ). get_or row n 0) (let s : from + i ≡ place = omega arith in s)

-- so many things of d bytes each are in front of a later one
pub room : (d i n : ℕ) → i < n → d * i + d ≤ d * n
room d i n low = let more : d * (i + 1) ≤ d * n = mul-le-mul_left d (let s : i + 1 ≤ n = omega arith in s) in omega (arith, more)

-- a sample of bytes that are cut out of others
pub cut_sample : (d : ℕ) (row : List ℕ) (at k from m i place : ℕ) → from ≡ d * at → m ≡ d * k → i < k → place ≡ at + i
    → sample_at d (take m (drop from row)) i ≡ sample_at d row place
cut_sample d row at k from m i place e f low g =
    number_same (take m (drop from row)) row (d * i) (d * place) d
    (λ j inside. cut_byte row from m (d * i + j) (d * place + j)
    (let s : d * i + d ≤ d * k = room d i k low in omega (arith, s, f, inside))
    (let s : d * place ≡ d * (at + i) = ap (λ (n : ℕ). d * n) g in omega (arith, s, e)))

-- the bytes of a texel of bytes that are cut out of others
pub cut_texel : (d : ℕ) (row : List ℕ) (at k from m i place : ℕ) → from ≡ 3 * d * at → m ≡ 3 * d * k → i < k → place ≡ at + i
    → bytes_from (take m (drop from row)) (3 * d * i) (3 * d) ≡ bytes_from row (3 * d * place) (3 * d)
cut_texel d row at k from m i place e f low g =
    bytes_same (take m (drop from row)) row (3 * d * i) (3 * d * place) (3 * d)
    (λ j inside. cut_byte row from m (3 * d * i + j) (3 * d * place + j)
    (let s : 3 * d * i + 3 * d ≤ 3 * d * k = room (3 * d) i k low in omega (arith, s, f, inside))
    (let s : 3 * d * place ≡ 3 * d * (at + i) = ap (λ (n : ℕ). 3 * d * n) g in omega (arith, s, e)))

-- before a part that is written, the samples stay as they were
pub kept_sample : (d : ℕ) (out new : List ℕ) (at k to i : ℕ) → to ≡ d * at → to ≤ length out → i < at
    → sample_at d (put_mid to k out new) i ≡ sample_at d out i
kept_sample d out new at k to i e fits low =
    number_same (put_mid to k out new) out (d * i) (d * i) d (λ j inside. byte (d * i + j)
    (let s : d * i + d ≤ d * at = room d i at low in omega (arith, s, e, inside))) where
      byte : (j : ℕ) → j < to → slice_index (put_mid to k out new) j ≡ slice_index out j
      byte j before =
          get_or_append_left (take to out) (new ++ post_of to k out) 0 j
          (let s : length (take to out) ≡ to = length-take-le to out fits in omega (arith, s, before))
          ∙ get_or-take to out j 0 before

-- the part that is written
pub written_sample : (d : ℕ) (out new : List ℕ) (at n k to i place : ℕ) → to ≡ d * at → to ≤ length out → length new ≡ d * n → i < n → place ≡ at + i
    → sample_at d (put_mid to k out new) place ≡ sample_at d new i
written_sample d out new at n k to i place e fits full low g =
    number_same (put_mid to k out new) new (d * place) (d * i) d (λ j inside. byte (d * place + j) (d * i + j)
    (let s : d * i + d ≤ d * n = room d i n low in omega (arith, s, full, inside))
    (let s : d * place ≡ d * (at + i) = ap (λ (n : ℕ). d * n) g in omega (arith, s, e))) where
      byte : (p j : ℕ) → j < length new → p ≡ to + j → slice_index (put_mid to k out new) p ≡ slice_index new j
      byte p j inside there =
          get_or-append_right (take to out) (new ++ post_of to k out) to p 0 (length-take-le to out fits) (omega (arith, there))
          ∙ ap (λ (m : ℕ). get_or (new ++ post_of to k out) m 0) (let s : p - to ≡ j = omega (arith, there) in s)
          ∙ get_or_append_left new (post_of to k out) 0 j inside

-- boxes of equal samples
pub box_same : (a b c d a' b' c' d' : ℕ) → a ≡ a' → b ≡ b' → c ≡ c' → d ≡ d' → box a b c d ≡ box a' b' c' d'
box_same a b c d a' b' c' d' p q r s = cc

-- the box of samples is one
pub box_small : (d a b c e : ℕ) → IsDepth d → a < sample_base d → b < sample_base d → c < sample_base d → e < sample_base d → box a b c e < sample_base d
box_small d a b c e (inl one) = rw one (narrow a b c e) where
  narrow : (a b c e : ℕ) → a < 256 → b < 256 → c < 256 → e < 256 → box a b c e < 256
  narrow a b c e p q r s = omega (arith, p, q, r, s)
box_small d a b c e (inr two) = rw two (wide a b c e) where
  wide : (a b c e : ℕ) → a < 65536 → b < 65536 → c < 65536 → e < 65536 → box a b c e < 65536
  wide a b c e p q r s = omega (arith, p, q, r, s)

-- samples that have not one byte have two
pub two_deep : (d : ℕ) → IsDepth d → (d ≡ 1 → ⊥) → d ≡ 2
two_deep d (inl one) other = absurd (other one)
two_deep d (inr two) other = two

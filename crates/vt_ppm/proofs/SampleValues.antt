-- Samples of either depth in bytes, and what they are kept as.
use Rattle.std.proofs.Common.{◌≡◌, ◌⊎◌, Fits, w8, inl, inr, ℕ, zero, suc, ◌+◌, ◌-◌, ◌*◌, ◌/◌, ◌%◌, ◌<◌, ◌≤◌, ◌≢◌, true, false, cond, nat_le, List, [], ◌∷◌, ◌++◌, length, get_or, refl, sym, ap, ◌∙◌, subst, arith, length-append}
use Rattle.std.proofs.Math.Nat.{div-lt_iff_lt-mul}
use Rattle.std.proofs.lemmas.Bool.{cases_lt}
use Rattle.std.proofs.lemmas.Bool.Decides.{nat_tests}
use Rattle.std.proofs.lemmas.List.{get_or_default, get_or_append_left, get_or-append_right, ext_get_or}
use Rattle.std.proofs.lemmas.List.Elements.{All-nil, All-cons, All-append}
use Rattle.vt_definitions.specs.Depths.{IsDepth, AreBytes, sample_at, sample_base, greatest_sample, texel_length}
use Rattle.vt_definitions.specs.Numbers.{number_bytes}
use Rattle.vt_definitions.proofs.TexelWords.{sample_small}
use Rattle.vt_definitions.proofs.Words.{byte_at}
use Rattle.vt_ppm.specs.Format.{depth_of, scaled, IsMaximum}
use Rattle.vt_ppm.specs.Samples.{AreScaledUpTo}
use Rattle.vt_ppm.specs.Strips.{sample_bytes}

-- what is so at either depth
pub by_depth : (P : ℕ → Type 0) → P 1 → P 2 → (d : ℕ) → IsDepth d → P d
by_depth P one two d (inl e) = subst P (sym e) one
by_depth P one two d (inr e) = subst P (sym e) two

pub narrow_depth : (m : ℕ) → m ≤ 255 → depth_of m ≡ 1
unfolding depth_of
narrow_depth m few = let test : nat_le m 255 ≡ true = grind (arith, nat_tests) in ap (λ b. cond b 1 2) test

pub wide_depth : (m : ℕ) → 255 < m → depth_of m ≡ 2
unfolding depth_of
wide_depth m many = let test : nat_le m 255 ≡ false = grind (arith, nat_tests) in ap (λ b. cond b 1 2) test

pub depth_is : (m : ℕ) → IsDepth (depth_of m)
depth_is m = elim (cases_lt 255 m) [ inl many ↦ inr (wide_depth m many) | inr few ↦ inl (narrow_depth m few) ]

-- a maximum is a sample of its depth
pub maximum_few : (m : ℕ) → m ≤ 65535 → m ≤ greatest_sample (depth_of m)
maximum_few m few = elim (cases_lt 255 m) [
  | inl many ↦ subst (λ d. m ≤ greatest_sample d) (sym (wide_depth m many)) few
  | inr byte ↦ subst (λ d. m ≤ greatest_sample d) (sym (narrow_depth m byte)) byte
]

-- the greatest sample is a maximum of its depth
pub greatest_is : (d : ℕ) → IsDepth d → IsMaximum (greatest_sample d)
greatest_is = by_depth (λ d. IsMaximum (greatest_sample d)) (record { some = omega arith; few = omega arith })
    (record { some = omega arith; few = omega arith })

pub depth_of_greatest : (d : ℕ) → IsDepth d → depth_of (greatest_sample d) ≡ d
depth_of_greatest = by_depth (λ d. depth_of (greatest_sample d) ≡ d) (narrow_depth 255 (omega arith)) (wide_depth 65535 (omega arith))

-- samples of bytes are no greater than the greatest
pub sample_few : (d : ℕ) (xs : List ℕ) (i : ℕ) → IsDepth d → AreBytes xs → sample_at d xs i ≤ greatest_sample d
sample_few d xs i depth are = omega (arith, sample_small d xs i depth are)

-- texels in bytes are samples in bytes
pub samples_of_texels : (d n : ℕ) → texel_length d * n ≡ d * (3 * n)
samples_of_texels d n = grind arith

pub samples_full : (d n len count : ℕ) → len ≡ texel_length d * n → count ≡ 3 * n → len ≡ d * count
samples_full d n len count e f = e ∙ samples_of_texels d n ∙ ap (λ k. d * k) (sym f)

-- the bytes of a sample that is among so many texels
pub sample_room : (d n k : ℕ) → IsDepth d → n < 3 * k → d * n + d ≤ texel_length d * k
sample_room d n k depth less = by_depth (λ d. d * n + d ≤ texel_length d * k) (omega (arith, less)) (omega (arith, less)) d depth

-- a sample is that of the bytes in front
pub front_sample : (d : ℕ) (xs ys : List ℕ) (i : ℕ) → IsDepth d → d * i + d ≤ length xs → sample_at d (xs ++ ys) i ≡ sample_at d xs i
front_sample d xs ys i depth = by_depth (λ d. d * i + d ≤ length xs → sample_at d (xs ++ ys) i ≡ sample_at d xs i) narrow wide d depth
  where
    narrow : 1 * i + 1 ≤ length xs → sample_at 1 (xs ++ ys) i ≡ sample_at 1 xs i
    narrow inside = ap (λ k. 0 * 256 + k) (get_or_append_left xs ys 0 (1 * i + 0) (omega (arith, inside)))

    wide : 2 * i + 2 ≤ length xs → sample_at 2 (xs ++ ys) i ≡ sample_at 2 xs i
    wide inside =
        ap (λ k. (0 * 256 + k) * 256 + get_or (xs ++ ys) (2 * i + 1) 0) (get_or_append_left xs ys 0 (2 * i + 0) (omega (arith, inside)))
        ∙ ap (λ k. (0 * 256 + get_or xs (2 * i + 0) 0) * 256 + k) (get_or_append_left xs ys 0 (2 * i + 1) (omega (arith, inside)))

-- a sample up to the maximum is kept as one of its depth
pub kept_few : (d m s : ℕ) → IsDepth d → 1 ≤ m → s ≤ m → scaled d m s < sample_base d
kept_few d m s depth some few = by_depth (λ d. scaled d m s < sample_base d)
    ((div-lt_iff_lt-mul {k = m} {x = s * 255 + m / 2} {y = 256} some).1 (narrow (m / 2) (omega (arith, some))))
    ((div-lt_iff_lt-mul {k = m} {x = s * 65535 + m / 2} {y = 65536} some).1 (wide (m / 2) (omega (arith, some)))) d depth
  where
    narrow : (half : ℕ) → half < m → s * 255 + half < 256 * m
    narrow half less = omega (arith, few)

    wide : (half : ℕ) → half < m → s * 65535 + half < 65536 * m
    wide half less = omega (arith, few)

-- samples with the greatest as maximum are kept as they are
pub kept_same : (d s : ℕ) → IsDepth d → scaled d (greatest_sample d) s ≡ s
kept_same d s = by_depth (λ d. scaled d (greatest_sample d) s ≡ s) (omega arith) (omega arith) d

halves : (i : ℕ) → (i ≡ 2 * (i / 2) + 0) ⊎ (i ≡ 2 * (i / 2) + 1)
halves i = elim (cases_lt (2 * (i / 2)) i) [ inl odd ↦ inr (omega (arith, odd)) | inr even ↦ inl (omega (arith, even)) ]

-- bytes are one where their samples are
pub same_bytes : (d n : ℕ) (xs ys : List ℕ) → IsDepth d → length xs ≡ d * n → length ys ≡ d * n → AreBytes xs → AreBytes ys
    → ((i : ℕ) → i < n → sample_at d xs i ≡ sample_at d ys i) → xs ≡ ys
same_bytes d n xs ys depth e f are be =
    by_depth (λ d. length xs ≡ d * n → length ys ≡ d * n → ((i : ℕ) → i < n → sample_at d xs i ≡ sample_at d ys i) → xs ≡ ys) narrow wide d depth e f
  where
    narrow : length xs ≡ 1 * n → length ys ≡ 1 * n → ((i : ℕ) → i < n → sample_at 1 xs i ≡ sample_at 1 ys i) → xs ≡ ys
    narrow e f each = ext_get_or 0 xs ys (e ∙ sym f) (λ i inside. one i (each i (omega (arith, e, inside))))
      where
        one : (i : ℕ) → sample_at 1 xs i ≡ sample_at 1 ys i → get_or xs i 0 ≡ get_or ys i 0
        one i s = let z : 1 * i + 0 ≡ i = omega arith in
            let a : get_or xs (1 * i + 0) 0 ≡ get_or xs i 0 = ap (λ k. get_or xs k 0) z in
            let b : get_or ys (1 * i + 0) 0 ≡ get_or ys i 0 = ap (λ k. get_or ys k 0) z in
            omega (arith, s, a, b)

    wide : length xs ≡ 2 * n → length ys ≡ 2 * n → ((i : ℕ) → i < n → sample_at 2 xs i ≡ sample_at 2 ys i) → xs ≡ ys
    wide e f each = ext_get_or 0 xs ys (e ∙ sym f) (λ i inside. two i (i / 2) inside (each (i / 2) (omega (arith, e, inside))) (halves i))
      where
        two : (i k : ℕ) → i < length xs → sample_at 2 xs k ≡ sample_at 2 ys k → (i ≡ 2 * k + 0) ⊎ (i ≡ 2 * k + 1) → get_or xs i 0 ≡ get_or ys i 0
        two i k inside s which =
            let a : get_or xs (2 * k + 0) 0 < 256 = byte_at xs (2 * k + 0) are in
            let b : get_or xs (2 * k + 1) 0 < 256 = byte_at xs (2 * k + 1) are in
            let u : get_or ys (2 * k + 0) 0 < 256 = byte_at ys (2 * k + 0) be in
            let v : get_or ys (2 * k + 1) 0 < 256 = byte_at ys (2 * k + 1) be in
            elim which [
              | inl first ↦ ap (λ j. get_or xs j 0) first ∙ omega (arith, s, a, b, u, v) ∙ sym (ap (λ j. get_or ys j 0) first)
              | inr second ↦ ap (λ j. get_or xs j 0) second ∙ omega (arith, s, a, b, u, v) ∙ sym (ap (λ j. get_or ys j 0) second)
            ]

number_length : (d v : ℕ) → IsDepth d → length (number_bytes d v) ≡ d
number_length d v = by_depth (λ d. length (number_bytes d v) ≡ d) refl refl d

pub samples_length : (d : ℕ) (v : ℕ → ℕ) (n : ℕ) → IsDepth d → length (sample_bytes d v n) ≡ d * n
unfolding sample_bytes
samples_length d v zero depth = by_depth (λ d. 0 ≡ d * 0) refl refl d depth
samples_length d v (suc n) depth =
    by_depth (λ d. length (sample_bytes d v n) ≡ d * n → length (number_bytes d (v n)) ≡ d
    → length (sample_bytes d v n ++ number_bytes d (v n)) ≡ d * suc n)
    (λ e f. omega (arith, e, f, length-append (sample_bytes 1 v n) (number_bytes 1 (v n))))
    (λ e f. omega (arith, e, f, length-append (sample_bytes 2 v n) (number_bytes 2 (v n)))) d depth (samples_length d v n depth) (number_length d (v n) depth)

number_is_bytes : (d v : ℕ) → IsDepth d → AreBytes (number_bytes d v)
number_is_bytes d v = by_depth (λ d. AreBytes (number_bytes d v))
    (All-cons (λ s. s < 256) (v / 1 % 256) [] (omega arith) (All-nil (λ s. s < 256)))
    (All-cons (λ s. s < 256) (v / 256 % 256) ((v / 1 % 256) ∷ []) (omega arith)
    (All-cons (λ s. s < 256) (v / 1 % 256) [] (omega arith) (All-nil (λ s. s < 256)))) d

pub samples_bytes : (d : ℕ) (v : ℕ → ℕ) (n : ℕ) → IsDepth d → AreBytes (sample_bytes d v n)
unfolding sample_bytes
samples_bytes d v zero depth = All-nil (λ s. s < 256)
samples_bytes d v (suc n) depth = All-append (λ s. s < 256) (sample_bytes d v n) (number_bytes d (v n)) (samples_bytes d v n depth)
    (number_is_bytes d (v n) depth)

-- a number behind so many samples is the next sample
last_sample : (d : ℕ) (xs : List ℕ) (v n : ℕ) → IsDepth d → length xs ≡ d * n → v < sample_base d → sample_at d (xs ++ number_bytes d v) n ≡ v
last_sample d xs v n depth = by_depth
    (λ d. length xs ≡ d * n → v < sample_base d → sample_at d (xs ++ number_bytes d v) n ≡ v) narrow wide d depth
  where
    narrow : length xs ≡ 1 * n → v < 256 → sample_at 1 (xs ++ number_bytes 1 v) n ≡ v
    narrow len few =
        let e : 1 * n + 0 - 1 * n ≡ 0 = omega arith in
        let a : get_or (xs ++ number_bytes 1 v) (1 * n + 0) 0 ≡ v / 1 % 256 =
        get_or-append_right xs (number_bytes 1 v) (1 * n) (1 * n + 0) 0 len (omega arith) ∙ ap (λ k. get_or (number_bytes 1 v) k 0) e in
        omega (arith, a, few)

    wide : length xs ≡ 2 * n → v < 65536 → sample_at 2 (xs ++ number_bytes 2 v) n ≡ v
    wide len few =
        let e : 2 * n + 0 - 2 * n ≡ 0 = omega arith in
        let f : 2 * n + 1 - 2 * n ≡ 1 = omega arith in
        let a : get_or (xs ++ number_bytes 2 v) (2 * n + 0) 0 ≡ v / 256 % 256 =
        get_or-append_right xs (number_bytes 2 v) (2 * n) (2 * n + 0) 0 len (omega arith) ∙ ap (λ k. get_or (number_bytes 2 v) k 0) e in
        let b : get_or (xs ++ number_bytes 2 v) (2 * n + 1) 0 ≡ v / 1 % 256 =
        get_or-append_right xs (number_bytes 2 v) (2 * n) (2 * n + 1) 0 len (omega arith) ∙ ap (λ k. get_or (number_bytes 2 v) k 0) f in
        omega (arith, a, b, few)

pub samples_sample : (d : ℕ) (v : ℕ → ℕ) (n i : ℕ) → IsDepth d → ((k : ℕ) → k < n → v k < sample_base d) → i < n → sample_at d (sample_bytes d v n) i ≡ v i
unfolding sample_bytes
samples_sample d v zero i depth few inside = let no : ⊥ = omega (arith, inside) in absurd no
samples_sample d v (suc n) i depth few inside = elim (cases_lt i n) [
  | inl before ↦ front_sample d (sample_bytes d v n) (number_bytes d (v n)) i depth (room before)
      ∙ samples_sample d v n i depth (λ k h. few k (omega (arith, h))) before
  | inr last ↦ let e : i ≡ n = omega (arith, inside, last) in
      ap (λ k. sample_at d (sample_bytes d v n ++ number_bytes d (v n)) k) e
      ∙ last_sample d (sample_bytes d v n) (v n) n depth (samples_length d v n depth) (few n (omega arith)) ∙ ap v (sym e)
]
  where
    room : i < n → d * i + d ≤ length (sample_bytes d v n)
    room less = by_depth (λ d. length (sample_bytes d v n) ≡ d * n → d * i + d ≤ length (sample_bytes d v n))
        (λ e. omega (arith, e, less)) (λ e. omega (arith, e, less)) d depth (samples_length d v n depth)

-- samples that have not one byte have two
pub two_deep : (d : ℕ) → IsDepth d → (d ≡ 1 → ⊥) → d ≡ 2
two_deep d (inl one) other = absurd (other one)
two_deep d (inr two) other = two

-- what a slice is known to hold are bytes
pub are_bytes : (l : List ℕ) → ((i : ℕ) → Fits w8 (get_or l i 0)) → AreBytes l
are_bytes l each = λ k d inside. subst (λ n. n < 256) (sym (get_or_default l k d 0 inside)) (each k).fits

-- one sample more that is scaled
pub scaled_more : (d m n : ℕ) (old before after : List ℕ) (kept : ℕ) → AreScaledUpTo d m n old before
    → ((k : ℕ) → n ≤ k → sample_at d before k ≡ sample_at d old k) → sample_at d after n ≡ kept
    → ((k : ℕ) → k ≢ n → sample_at d after k ≡ sample_at d before k) → (sample_at d before n ≤ m → kept ≡ scaled d m (sample_at d before n))
    → AreScaledUpTo d m (n + 1) old after
scaled_more d m n old before after kept done rest written others value i inside few =
    elim (cases_lt i n) [
      | inl sooner ↦ others i (λ e. absurd (omega (arith, e, sooner))) ∙ done i sooner few
      | inr late ↦
          let here : i ≡ n = omega (arith, inside, late) in
          let same : sample_at d before n ≡ sample_at d old i = rest n (omega arith) ∙ ap (sample_at d old) (sym here) in
          ap (sample_at d after) here ∙ written ∙ value (subst (λ s. s ≤ m) (sym same) few) ∙ ap (scaled d m) same
    ]

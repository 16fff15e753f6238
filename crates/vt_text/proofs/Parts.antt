-- The parts that a byte separates, taken off from the front.
use Rattle.std.proofs.Common.{◌≡◌, ◌≢◌, ℕ, ◌+◌, ◌-◌, ◌<◌, ◌≤◌, List, [], ◌∷◌, ◌++◌, length, get_or, take, drop, sym, ap, ◌∙◌, arith, true, false, eqb}
use Rattle.std.specs.List.{All, slice_split}
use Rattle.std.proofs.lemmas.List.{take-append-drop, drop-drop, drop_more, length-take, length-drop, get_or-take, get_or-drop}
use Rattle.std.proofs.lemmas.List.Elements.{All-from_get_or}
use Rattle.std.proofs.lemmas.List.Splits.{slice_split_at, slice_split_none}
use Rattle.std.proofs.lemmas.Bool.Decides.{nat_tests}
use Rattle.vt_text.specs.Lines.{parts_of, IsAbsentBetween}

-- two numbers that differ fail the test
differ : (x y : ℕ) → x ≢ y → eqb x y ≡ false
differ x y ne = grind (arith, nat_tests)

same : (x y : ℕ) → x ≡ y → eqb x y ≡ true
same x y e = grind (arith, nat_tests)

-- where the byte is absent between two places, no element of that piece passes the test
all_differ : (byte : ℕ) (bs : List ℕ) (at end : ℕ) → end ≤ length bs → IsAbsentBetween byte bs at end
    → All (λ x. eqb x byte ≡ false) (take (end - at) (drop at bs))
all_differ byte bs at end fits absent =
    All-from_get_or (λ x. eqb x byte ≡ false) (take (end - at) (drop at bs)) 0
    (λ k h. let small : k < end - at = omega (arith, length-take (end - at) (drop at bs), h) in
    let e : get_or (take (end - at) (drop at bs)) k 0 ≡ get_or bs (at + k) 0 = get_or-take (end - at) (drop at bs) k 0 small ∙ get_or-drop at bs k 0 in
    ap (λ x. eqb x byte) e ∙ differ (get_or bs (at + k) 0) byte (absent (at + k) (omega arith) (omega arith)))

-- the piece up to a place, the byte there, and the rest
cut : (bs : List ℕ) (at p : ℕ) → at ≤ p → p < length bs → drop at bs ≡ take (p - at) (drop at bs) ++ get_or bs p 0 ∷ drop (p + 1) bs
cut bs at p low high =
    let e : at + (p - at) ≡ p = omega arith in
    sym (take-append-drop (p - at) (drop at bs))
    ∙ ap (λ xs. take (p - at) (drop at bs) ++ xs) (drop-drop (p - at) at bs ∙ ap (λ n. drop n bs) e ∙ drop_more bs p 0 high)

-- the byte that was found cuts the first part off
pub parts-found : (byte : ℕ) (bs : List ℕ) (at p : ℕ) → at ≤ p → p < length bs → get_or bs p 0 ≡ byte
    → IsAbsentBetween byte bs at p → parts_of byte (drop at bs) ≡ take (p - at) (drop at bs) ∷ parts_of byte (drop (p + 1) bs)
parts-found byte bs at p low high is absent =
    ap (slice_split (λ b. eqb b byte)) (cut bs at p low high)
    ∙ slice_split_at (λ b. eqb b byte) (take (p - at) (drop at bs)) (get_or bs p 0) (drop (p + 1) bs)
    (all_differ byte bs at p (omega arith) absent) (same (get_or bs p 0) byte is)

-- a byte that is absent leaves one part
pub parts-absent : (byte : ℕ) (bs : List ℕ) (at : ℕ) → at ≤ length bs → IsAbsentBetween byte bs at (length bs) → parts_of byte (drop at bs) ≡ drop at bs ∷ []
parts-absent byte bs at fits absent =
    slice_split_none (λ b. eqb b byte) (drop at bs)
    (All-from_get_or (λ x. eqb x byte ≡ false) (drop at bs) 0
    (λ k h. let small : at + k < length bs = omega (arith, length-drop at bs, h) in
    ap (λ x. eqb x byte) (get_or-drop at bs k 0) ∙ differ (get_or bs (at + k) 0) byte (absent (at + k) (omega arith) small)))

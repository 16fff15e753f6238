-- Texels of bytes, one after the other.
use Rattle.std.proofs.Common.{◌≡◌, ℕ, zero, suc, ◌+◌, ◌*◌, ◌<◌, ◌≤◌, List, ◌∷◌, ◌++◌, length, drop, drop-cons, sym, ap, ◌∙◌, arith}
use Rattle.std.specs.Prelude.{slice_index}
use Rattle.std.specs.List.{flat_map, range_with_len}
use Rattle.std.proofs.lemmas.List.{drop_all}
use Rattle.vt_definitions.specs.Depths.{bytes_from, texel_bytes}

-- what is from a place on are so many bytes, and what is behind them
cut : (bytes : List ℕ) (from n : ℕ) → from + n ≤ length bytes → drop from bytes ≡ bytes_from bytes from n ++ drop (from + n) bytes
cut bytes from zero room = ap (λ (i : ℕ). drop i bytes) (let e : from ≡ from + 0 = omega arith in e)
cut bytes from (suc n) room =
    let next : suc from ≡ from + 1 = omega arith in
    let end : from + 1 + n ≡ from + suc n = omega arith in
    drop-cons bytes from 0 (omega (arith, room))
    ∙ ap (λ (i : ℕ). slice_index bytes from ∷ drop i bytes) next
    ∙ ap (λ (t : List ℕ). slice_index bytes from ∷ t) (cut bytes (from + 1) n (omega (arith, room)))
    ∙ ap (λ (i : ℕ). slice_index bytes from ∷ (bytes_from bytes (from + 1) n ++ drop i bytes)) end

-- the texels from one on
joined_from : (d : ℕ) (bytes : List ℕ) (f : ℕ → List ℕ) (n from : ℕ) → length bytes ≡ 3 * d * (from + n)
    → ((x : ℕ) → x < from + n → texel_bytes d bytes x ≡ f x) → drop (3 * d * from) bytes ≡ flat_map f (range_with_len from n)
joined_from d bytes f zero from full each =
    drop_all (3 * d * from) bytes (let e : 3 * d * (from + 0) ≡ 3 * d * from = ap (λ (i : ℕ). 3 * d * i) (omega arith) in omega (arith, full, e))
joined_from d bytes f (suc n) from full each =
    let more : 3 * d * (from + 1) ≡ 3 * d * from + 3 * d = omega arith in
    let all : 3 * d * (from + suc n) ≡ 3 * d * from + 3 * d + 3 * d * n = omega arith in
    let on : from + suc n ≡ from + 1 + n = omega arith in
    cut bytes (3 * d * from) (3 * d) (omega (arith, full, all))
    ∙ ap (λ (t : List ℕ). t ++ drop (3 * d * from + 3 * d) bytes) (each from (omega arith))
    ∙ ap (λ (i : ℕ). f from ++ drop i bytes) (sym more)
    ∙ ap (λ (t : List ℕ). f from ++ t)
    (joined_from d bytes f n (from + 1) (full ∙ ap (λ (i : ℕ). 3 * d * i) on) (λ x below. each x (omega (arith, below))))

-- bytes are those of their texels
pub joined : (d : ℕ) (bytes : List ℕ) (f : ℕ → List ℕ) (n : ℕ) → length bytes ≡ 3 * d * n
    → ((x : ℕ) → x < n → texel_bytes d bytes x ≡ f x) → bytes ≡ flat_map f (range_with_len 0 n)
joined d bytes f n full each =
    let none : 0 ≡ 3 * d * 0 = omega arith in
    let whole : n ≡ 0 + n = omega arith in
    ap (λ (i : ℕ). drop i bytes) none
    ∙ joined_from d bytes f n 0 (full ∙ ap (λ (i : ℕ). 3 * d * i) whole) (λ x below. each x (omega (arith, below)))

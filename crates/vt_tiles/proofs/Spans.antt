-- Bytes that lie one after the other, piece by piece.
use Rattle.std.proofs.Common.{◌≡◌, ℕ, zero, suc, ◌+◌, ◌*◌, ◌<◌, List, ◌++◌, length, get_or, sym, ap, ◌∙◌, arith, append_assoc}
use Rattle.std.proofs.lemmas.List.{length-append, get_or_append_left, get_or-append-add}
use Rattle.std.specs.Prelude.{flat_map}
use Rattle.std.specs.List.{range_with_len}

pub span_add : {X : Type 0} (f : ℕ → List X) (a n m : ℕ)
    → flat_map f (range_with_len a (n + m)) ≡ flat_map f (range_with_len a n) ++ flat_map f (range_with_len (a + n) m)
span_add f a zero m =
    let e : 0 + m ≡ m = omega arith in
    let z : a + 0 ≡ a = omega arith in
    ap (λ i. flat_map f (range_with_len a i)) e ∙ ap (λ i. flat_map f (range_with_len i m)) (sym z)
span_add f a (suc n) m =
    let e : suc n + m ≡ suc (n + m) = omega arith in
    let z : a + 1 + n ≡ a + suc n = omega arith in
    ap (λ i. flat_map f (range_with_len a i)) e
    ∙ ap (λ l. f a ++ l) (span_add f (a + 1) n m
    ∙ ap (λ i. flat_map f (range_with_len (a + 1) n) ++ flat_map f (range_with_len i m)) z)
    ∙ sym (append_assoc (f a) (flat_map f (range_with_len (a + 1) n)) (flat_map f (range_with_len (a + suc n) m)))

pub span_length : {X : Type 0} (f : ℕ → List X) (a n t : ℕ) → ((i : ℕ) → length (f i) ≡ t) → length (flat_map f (range_with_len a n)) ≡ n * t
span_length f a zero t each = let e : 0 * t ≡ 0 = omega arith in sym e
span_length f a (suc n) t each = omega (arith, length-append (f a) (flat_map f (range_with_len (a + 1) n)), each a, span_length f (a + 1) n t each)

-- the element of a place of a piece
pub span_at : {X : Type 0} (f : ℕ → List X) (a n t i j : ℕ) (d : X) → ((k : ℕ) → length (f k) ≡ t) → i < n → j < t
    → get_or (flat_map f (range_with_len a n)) (i * t + j) d ≡ get_or (f (a + i)) j d
span_at f a zero t i j d each h short = let no : ⊥ = omega arith in absurd no
span_at f a (suc n) t zero j d each h short =
    let e : 0 * t + j ≡ j = omega arith in
    let z : a + 0 ≡ a = omega arith in
    ap (λ i. get_or (f a ++ flat_map f (range_with_len (a + 1) n)) i d) e
    ∙ get_or_append_left (f a) (flat_map f (range_with_len (a + 1) n)) d j (omega (arith, each a)) ∙ ap (λ i. get_or (f i) j d) (sym z)
span_at f a (suc n) t (suc i) j d each h short =
    let e : suc i * t + j ≡ length (f a) + (i * t + j) = omega (arith, each a) in
    let z : a + 1 + i ≡ a + suc i = omega arith in
    ap (λ m. get_or (f a ++ flat_map f (range_with_len (a + 1) n)) m d) e
    ∙ get_or-append-add (f a) (flat_map f (range_with_len (a + 1) n)) (i * t + j) d
    ∙ span_at f (a + 1) n t i j d each (omega arith) short ∙ ap (λ m. get_or (f m) j d) z

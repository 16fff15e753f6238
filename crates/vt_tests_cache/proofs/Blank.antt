-- Counts that nothing was added to.
use Rattle.std.proofs.Common.{◌≡◌, ℕ, ◌+◌, ◌<◌, List, length, get_or, ap, ◌∙◌, arith}
use Rattle.std.specs.Prelude.{slice_index, replicate}
use Rattle.std.proofs.lemmas.List.{get_or-replicate, length-replicate}

-- what is added to none stays within what it was below
pub none_before : (c : List ℕ) (n p a most : ℕ) → c ≡ replicate n 0 → p < length c → a < most → slice_index c p + a < most
none_before c n p a most is inside low =
    let within : p < n = (let e = ap length is ∙ length-replicate n 0 in omega (arith, e, inside)) in
    let none : slice_index c p ≡ 0 = ap (λ (l : List ℕ). slice_index l p) is ∙ get_or-replicate n p 0 0 within in
    omega (arith, none, low)

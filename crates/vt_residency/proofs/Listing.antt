-- What is behind changes that were written.
use Rattle.std.proofs.Common.{◌≡◌, ℕ, zero, suc, ◌+◌, List, [], ◌∷◌, drop, refl, sym, ap, ◌∙◌, arith}

drop_none : {X : Type 0} (n : ℕ) → drop n (let l : List X = [] in l) ≡ []
drop_none zero = refl
drop_none (suc n) = refl

drop_sum : {X : Type 0} (a b : ℕ) (xs : List X) → drop (a + b) xs ≡ drop b (drop a xs)
drop_sum zero b xs = ap (λ (n : ℕ). drop n xs) (let e : zero + b ≡ b = omega arith in e)
drop_sum (suc a) b [] = drop_none (suc a + b) ∙ sym (drop_none b)
drop_sum (suc a) b (x ∷ xs) = ap (λ (n : ℕ). drop n (x ∷ xs)) (let e : suc a + b ≡ suc (a + b) = omega arith in e) ∙ drop_sum a b xs

-- what is behind more elements is the same, where that is so behind fewer
pub drop_same : {X : Type 0} (a b : ℕ) (xs ys : List X) → drop a xs ≡ drop a ys → drop (a + b) xs ≡ drop (a + b) ys
drop_same a b xs ys h = drop_sum a b xs ∙ ap (drop b) h ∙ sym (drop_sum a b ys)

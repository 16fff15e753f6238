-- Where entries are.
use Rattle.vt_grace.specs.declared.sizes.Sizes.{Sizes}
use Rattle.vt_grace.specs.Places.{texel_word}
use Rattle.std.proofs.Common.{◌≡◌, ◌≢◌, ℕ, suc, ◌+◌, ◌*◌, ◌<◌, ◌≤◌, ap, arith, mul-le-mul_right, suc-mul}
use mathlib.Core.Logic.{dite}
use native.Mathlib.Decide.{dec_le, ℕ_discrete}

-- a place in a row before another row
pub before_row : (b c n p : ℕ) → b < c → p < n → b * n + p < c * n
before_row b c n p less inside = let m : suc b * n ≤ c * n = mul-le-mul_right n less in omega (arith, suc-mul b n)

pub place_low : (b n p : ℕ) → b < 4 → p < n → b * n + p < 4 * n
place_low b n p less inside = before_row b 4 n p less inside

-- places in two rows are apart
pub banks_apart : (b c n p q : ℕ) → b ≢ c → p < n → q < n → b * n + p ≢ c * n + q
banks_apart b c n p q apart left right e = dite (dec_le (suc b) c) (λ low. let m = before_row b c n p low left in omega arith)
    (λ high. let m = before_row c b n q (omega arith) right in omega arith)

-- the word of a texel tells frame and place
pub same_texel : (z : Sizes) (f g p q : ℕ) → p < z.texels → q < z.texels → texel_word z f p ≡ texel_word z g q → (f ≡ g) × (p ≡ q)
same_texel z f g p q left right e = dite (ℕ_discrete f g)
    (λ same. (same, (let row : f * z.texels ≡ g * z.texels = ap (λ (x : ℕ). x * z.texels) same in omega arith)))
    (λ apart. absurd (banks_apart f g z.texels p q apart left right (omega arith)))

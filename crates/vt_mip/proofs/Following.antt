-- The chain of a texture from level 1 on is the chain of level 1.
use Rattle.std.proofs.Common.{◌≡◌, ℕ, zero, suc, ◌+◌, ◌-◌, ◌/◌, ◌<◌, ◌≤◌, refl, sym, ap, ◌∙◌, arith}
use Rattle.vt_ppm.specs.Sides.{side, level_count}
use Rattle.vt_ppm.proofs.Levels.{side_at_least, level_count_least}
use Rattle.vt_ppm.specs.Image.{ImageView, texel_of}
use Rattle.vt_mip.specs.Chains.{chain, halved_word}
use Rattle.vt_mip.specs.Levels.{IsLevel}
use Rattle.vt_mip.proofs.Words.{chain-zero, chain-suc, halved_word_same}

pub side_after : (w k : ℕ) → side (side w 1) k ≡ side w (suc k)
side_after w zero = refl
side_after w (suc k) = ap (λ (n : ℕ). (n + 1) / 2) (side_after w k)

-- textures with the same words have chains with the same words
chain_same : (d : ℕ) (t t' : ℕ → ℕ → ℕ) (w h k x y : ℕ) → 1 ≤ w → 1 ≤ h → ((i j : ℕ) → i < w → j < h → t i j ≡ t' i j)
    → x < side w k → y < side h k → chain d t w h k x y ≡ chain d t' w h k x y
chain_same d t t' w h zero x y wide high same p q = chain-zero d t w h x y ∙ same x y p q ∙ sym (chain-zero d t' w h x y)
chain_same d t t' w h (suc k) x y wide high same p q =
    chain-suc d t w h k x y
    ∙ halved_word_same d (chain d t w h k) (chain d t' w h k) (side w k) (side h k) x y (side_at_least w k wide) (side_at_least h k high)
    (λ i j u v. chain_same d t t' w h k i j wide high same u v)
    ∙ sym (chain-suc d t' w h k x y)

chain_after : (d : ℕ) (t : ℕ → ℕ → ℕ) (w h k x y : ℕ) → 1 ≤ w → 1 ≤ h
    → chain d (chain d t w h 1) (side w 1) (side h 1) k x y ≡ chain d t w h (suc k) x y
chain_after d t w h zero x y wide high = chain-zero d (chain d t w h 1) (side w 1) (side h 1) x y
chain_after d t w h (suc k) x y wide high =
    chain-suc d (chain d t w h 1) (side w 1) (side h 1) k x y
    ∙ ap (λ (n : ℕ). halved_word d (chain d (chain d t w h 1) (side w 1) (side h 1) k) n (side (side h 1) k) x y) (side_after w k)
    ∙ ap (λ (n : ℕ). halved_word d (chain d (chain d t w h 1) (side w 1) (side h 1) k) (side w (suc k)) n x y) (side_after h k)
    ∙ halved_word_same d (chain d (chain d t w h 1) (side w 1) (side h 1) k) (chain d t w h (suc k)) (side w (suc k)) (side h (suc k)) x y
    (side_at_least w (suc k) wide) (side_at_least h (suc k) high) (λ i j u v. chain_after d t w h k i j wide high)
    ∙ sym (chain-suc d t w h (suc k) x y)

-- level k of the chain of level 1 is level k + 1 of the texture's
pub chains_go_on : (base p : ImageView) (k x y : ℕ) → 1 ≤ base.width → 1 ≤ base.height → IsLevel base 1 p
    → x < side p.width k → y < side p.height k
    → chain p.depth (texel_of p) p.width p.height k x y ≡ chain base.depth (texel_of base) base.width base.height (suc k) x y
chains_go_on base p k x y wide high level across down =
    let t : ℕ → ℕ → ℕ = chain base.depth (texel_of base) base.width base.height 1 in
    chain_same p.depth (texel_of p) t p.width p.height k x y level.lawful.some_columns level.lawful.some_rows level.texels across down
    ∙ ap (λ (n : ℕ). chain n t p.width p.height k x y) level.depth
    ∙ ap (λ (n : ℕ). chain base.depth t n p.height k x y) level.columns
    ∙ ap (λ (n : ℕ). chain base.depth t (side base.width 1) n k x y) level.rows
    ∙ chain_after base.depth (texel_of base) base.width base.height k x y wide high

-- level 1 has one level less
pub levels_go_on : (w h t : ℕ) → 1 ≤ t → 2 ≤ level_count w h t → level_count (side w 1) (side h 1) t + 1 ≡ level_count w h t
levels_go_on w h t some more =
    let n : ℕ = level_count w h t in
    let m : ℕ = level_count (side w 1) (side h 1) t in
    let whole = level_count_least w h t some in
    let rest = level_count_least (side w 1) (side h 1) t some in
    let last : suc (m - 1) ≡ m = omega (arith, rest.some) in
    let first : suc (n - 2) ≡ n - 1 = omega (arith, more) in
    let up : n ≤ m + 1 = whole.least m
    (omega (arith, rest.last_width, side_after w (m - 1), ap (side w) last))
    (omega (arith, rest.last_height, side_after h (m - 1), ap (side h) last)) in
    let down : m ≤ n - 2 + 1 = rest.least (n - 2)
    (omega (arith, whole.last_width, side_after w (n - 2), ap (side w) first))
    (omega (arith, whole.last_height, side_after h (n - 2), ap (side h) first)) in
    omega (arith, up, down, more)

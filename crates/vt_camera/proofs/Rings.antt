-- A place on a ring by its parts: the remainder of a division, without one.
use Rattle.std.proofs.Common.{◌≡◌, ℕ, ◌+◌, ◌-◌, ◌*◌, ◌/◌, ◌%◌, ◌^◌, ◌<◌, ◌≤◌, sym, ap, ◌∙◌, arith}
use Rattle.std.proofs.lemmas.Nat.{mul-le, div-mul-add, mod-mul-add, pow_pos, pow-add, shr_le}
use Rattle.std.proofs.Math.Nat.{div-add-mod, div-div-eq-div-mul, mul-div-mul_right, pow-le-pow_right}
use Rattle.vt_text.specs.Sides.{side}
use Rattle.vt_camera.specs.RowParts.{part_of, turn_at, on_ring}
use Rattle.vt_camera.proofs.LevelLemmas.{inside_level}

-- what rounding up adds to a turn
pub excess : ℕ → ℕ
excess side = 256 * side - 1 - 18446744073709551615 % (256 * side)

turn_of_parts : (side : ℕ) → 1 ≤ side → (256 * side * part_of side ≡ 18446744073709551616 + excess side) × (excess side < 256 * side)
unfolding excess
turn_of_parts side some = (
  omega (arith, div-add-mod 18446744073709551615 (256 * side)),
  omega arith,
)

-- the parts of a place, less the whole turns
parts_split : (w d e m q r : ℕ) → d * m ≡ w + e → (d * q + r) * m ≡ q * w + (q * e + r * m)
parts_split w d e m q r turn = omega (arith, ap (λ n. q * n) turn)

long_part : (d m : ℕ) → d ≤ 4194304 → 18446744073709551616 ≤ d * m → 4398046511104 ≤ m
long_part d m few turn = let most : d * m ≤ 4194304 * m = mul-le d m 4194304 m few (omega arith) in omega arith

-- the parts of a place, as far as they make no whole turn
low_parts : (place side e m q r : ℕ) → e < 256 * side → 256 * side * m ≡ 18446744073709551616 + e → side ≤ 16384
    → place < 549755813888 → place ≡ 256 * side * q + r → r < 256 * side
    → place * m % 18446744073709551616 ≡ q * e + r * m
low_parts place side e m q r small turn few near split part =
    let long : 4398046511104 ≤ m = long_part (256 * side) m (omega arith) (omega arith) in
    let whole : place * m ≡ q * 18446744073709551616 + (q * e + r * m) = ap (λ n. n * m) split ∙ parts_split 18446744073709551616 (256 * side) e m q r turn in
    let turns : q * e ≤ q * (256 * side) = mul-le q e q (256 * side) (omega arith) (omega arith) in
    let rest : (r + 1) * m ≤ 256 * side * m = mul-le (r + 1) m (256 * side) m (omega arith) (omega arith) in
    let short : q * e + r * m < 18446744073709551616 = omega arith in
    ap (λ n. n % 18446744073709551616) whole ∙ mod-mul-add q 18446744073709551616 (q * e + r * m) short

-- the share of a turn that parts are, in texels, is the place's texel
whole_texels : (place side e m q r : ℕ) → 1 ≤ side → side ≤ 16384 → e < 256 * side
    → 256 * side * m ≡ 18446744073709551616 + e → place < 549755813888 → place ≡ 256 * side * q + r
    → (q * e + r * m) * side / 18446744073709551616 ≡ r / 256
whole_texels place side e m q r some few small turn near split =
    let turns : (q * e + r * m) * (256 * side) ≡ r * 18446744073709551616 + e * place = omega (arith, ap (λ n. r * n) turn, ap (λ n. e * n) split) in
    let over : e * place ≤ 4194304 * 549755813888 = mul-le e place 4194304 549755813888 (omega arith) (omega arith) in
    let c : (q * e + r * m) * side ≡ r / 256 * 18446744073709551616 + ((q * e + r * m) * side - r / 256 * 18446744073709551616) = omega arith in
    ap (λ n. n / 18446744073709551616) c ∙ div-mul-add (r / 256) 18446744073709551616 ((q * e + r * m) * side - r / 256 * 18446744073709551616) (omega arith)

-- the same of the place itself
texel_in_turn : (place side q r : ℕ) → place ≡ 256 * side * q + r → r < 256 * side → place / 256 % side ≡ r / 256
texel_in_turn place side q r split part =
    let up : place / 256 ≡ q * side + r / 256 = omega arith in
    ap (λ n. n % side) up ∙ mod-mul-add q side (r / 256) (omega arith)

pub ring_texel : (place side : ℕ) → 1 ≤ side → side ≤ 16384 → place < 549755813888 → on_ring place (part_of side) side ≡ place / 256 % side
ring_texel place side some few near =
    let d = 256 * side in
    let split : place ≡ d * (place / d) + place % d = sym (div-add-mod place d) in
    let part : place % d < d = omega arith in
    let turn = turn_of_parts side some in
    ap (λ n. n * side / 2 ^ 64) (low_parts place side (excess side) (part_of side) (place / d) (place % d) turn.1 turn.0 few near split part)
    ∙ whole_texels place side (excess side) (part_of side) (place / d) (place % d) some few turn.1 turn.0 near split
    ∙ sym (texel_in_turn place side (place / d) (place % d) split part)

-- the share of a turn that parts are, in 1/256 texel, is what the place is on the ring
whole_spots : (place side e m q r : ℕ) → side ≤ 16384 → e < 256 * side
    → 256 * side * m ≡ 18446744073709551616 + e → place < 549755813888 → place ≡ 256 * side * q + r
    → (q * e + r * m) * (256 * side) / 18446744073709551616 ≡ r
whole_spots place side e m q r few small turn near split =
    let turns : (q * e + r * m) * (256 * side) ≡ r * 18446744073709551616 + e * place = omega (arith, ap (λ n. r * n) turn, ap (λ n. e * n) split) in
    let over : e * place ≤ 4194304 * 549755813888 = mul-le e place 4194304 549755813888 (omega arith) (omega arith) in
    ap (λ n. n / 18446744073709551616) turns ∙ div-mul-add r 18446744073709551616 (e * place) (omega arith)

ring_spot : (place side : ℕ) → 1 ≤ side → side ≤ 16384 → place < 549755813888 → on_ring place (part_of side) (256 * side) ≡ place % (256 * side)
ring_spot place side some few near =
    let d = 256 * side in
    let split : place ≡ d * (place / d) + place % d = sym (div-add-mod place d) in
    let part : place % d < d = omega arith in
    let turn = turn_of_parts side some in
    ap (λ n. n * d / 2 ^ 64) (low_parts place side (excess side) (part_of side) (place / d) (place % d) turn.1 turn.0 few near split part)
    ∙ whole_spots place side (excess side) (part_of side) (place / d) (place % d) few turn.1 turn.0 near split

-- the same, for the numbers that a row keeps, and 256 pieces for each texel of the side
pub kept_spot : (place side part pieces share : ℕ) → 1 ≤ side → side ≤ 16384 → place < 549755813888
    → part ≡ part_of side → pieces ≡ side → share ≡ on_ring place part (256 * pieces) → share ≡ place % (256 * side)
kept_spot place side part pieces share some few near p s e =
    e ∙ ap (λ n. on_ring place n (256 * pieces)) p ∙ ap (λ n. on_ring place (part_of side) (256 * n)) s ∙ ring_spot place side some few near

pub kept_spot_within : (place side part pieces share : ℕ) → 1 ≤ side → side ≤ 16384 → place < 549755813888
    → part ≡ part_of side → pieces ≡ side → share ≡ on_ring place part (256 * pieces) → share < 256 * side
kept_spot_within place side part pieces share some few near p s e =
    let is = kept_spot place side part pieces share some few near p s e in
    let rest : place % (256 * side) < 256 * side = omega arith in
    omega (arith, is, rest)

-- the same, for the numbers that a row keeps, and as many pieces as the side has texels
pub kept_texel : (place side part pieces share : ℕ) → 1 ≤ side → side ≤ 16384 → place < 549755813888
    → part ≡ part_of side → pieces ≡ side → share ≡ on_ring place part pieces → share ≡ place / 256 % side
kept_texel place side part pieces share some few near p s e =
    e ∙ ap (λ n. on_ring place n pieces) p ∙ ap (λ n. on_ring place (part_of side) n) s ∙ ring_texel place side some few near

pub kept_texel_within : (place side part pieces share : ℕ) → 1 ≤ side → side ≤ 16384 → place < 549755813888
    → part ≡ part_of side → pieces ≡ side → share ≡ on_ring place part pieces → share < side
kept_texel_within place side part pieces share some few near p s e =
    let is = kept_texel place side part pieces share some few near p s e in
    omega (arith, is)

pub few_pieces : (pieces side : ℕ) → pieces ≡ side → side ≤ 16384 → pieces ≤ 1073741824
few_pieces pieces side is few = omega arith

-- a turn of 1/65536 texel of a level
pub turn_most : (side level : ℕ) → side ≤ 16384 → turn_at side level ≤ 1073741824
turn_most side level few =
    let some : 0 < 2 = omega arith in
    let up : 16 - level ≤ 16 = omega arith in
    let most : 2 ^ (16 - level) ≤ 65536 = pow-le-pow_right some up in
    mul-le side (2 ^ (16 - level)) 16384 65536 few most

-- the texel of a level that a place lies on is the place's texel, halved once a level
pub ring_level_texel : (place side level : ℕ) → 1 ≤ side → side ≤ 16384 → level ≤ 16 → place < 549755813888
    → on_ring place (part_of side) (turn_at side level) / 65536 ≡ place / 256 % side / 2 ^ level
ring_level_texel place side level some few most near =
    let low = place * part_of side % 2 ^ 64 in
    let up = 2 ^ (16 - level) in
    let parts : 65536 ≡ 2 ^ level * up = ap (λ n. 2 ^ n) (let e : 16 ≡ level + (16 - level) = omega arith in e) ∙ pow-add 2 level (16 - level) in
    let whole : low * (side * up) ≡ low * side * up = omega arith in
    let pieces : 18446744073709551616 * 65536 ≡ 18446744073709551616 * 2 ^ level * up = omega (arith, ap (λ n. 18446744073709551616 * n) parts) in
    div-div-eq-div-mul (low * (side * up)) 18446744073709551616 65536
    ∙ ap (λ n. n / (18446744073709551616 * 65536)) whole ∙ ap (λ n. low * side * up / n) pieces
    ∙ mul-div-mul_right (low * side) (18446744073709551616 * 2 ^ level) (pow_pos (16 - level))
    ∙ sym (div-div-eq-div-mul (low * side) 18446744073709551616 (2 ^ level))
    ∙ ap (λ n. n / 2 ^ level) (ring_texel place side some few near)

-- a place on a ring, halved once a level, is less than the ring
pub small_quotient : (n side level : ℕ) → 1 ≤ side → n % side / 2 ^ level < side
small_quotient n side level some = omega (arith, shr_le (n % side) level)

-- the same, for the numbers that a row keeps
pub kept_level_texel : (place side level part turn share : ℕ) → 1 ≤ side → side ≤ 16384 → level ≤ 16
    → place < 549755813888 → part ≡ part_of side → turn ≡ turn_at side level → share ≡ on_ring place part turn
    → share / 65536 ≡ place / 256 % side / 2 ^ level
kept_level_texel place side level part turn share some few most near p t e =
    ap (λ n. n / 65536) (e ∙ ap (λ n. on_ring place n turn) p ∙ ap (λ n. on_ring place (part_of side) n) t)
    ∙ ring_level_texel place side level some few most near

-- it is a texel of the level
pub within_level : (place width level : ℕ) → 1 ≤ width → place % width / 2 ^ level < side width level
within_level place width level some = inside_level width (place % width) level (omega arith)

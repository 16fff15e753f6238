-- Places along an axis that are all inside never go round, so they rise or fall evenly.
use Rattle.std.proofs.Common.{◌≡◌, ℕ, zero, suc, ◌+◌, ◌-◌, ◌*◌, ◌/◌, ◌%◌, ◌^◌, ◌<◌, ◌≤◌, sym, ap, ◌∙◌, subst, inl, inr, arith, mul-add, add-mul, mul-one, mul-zero, mul-le-mul_left}
use Rattle.std.proofs.lemmas.Nat.{pow_pos, shr-shr, shr_high, div-add-mod', mod_below}
use Rattle.vt_pages.specs.Shape.{Shape}
use Rattle.vt_pages.specs.Pages.{texel_page, index_at}
use Rattle.vt_draw.specs.Lookups.{covering_page}
use Rattle.vt_texel_runs.specs.declared.spans.Span.{Span}
use Rattle.vt_texel_runs.specs.Spans.{stepped, span_point}
use Rattle.vt_texel_runs.specs.Stretches.{IsAxisInside, AreTogether, IsPageAlong}

one_more : (n i : ℕ) → n * (i + 1) ≡ n * i + n
one_more n i = omega (arith, mul-add n i 1, mul-one n)

-- steps forward
rising : (size start step n : ℕ) → size ≤ 16384 → step < 2147483648 → start < 4294967296 → IsAxisInside size start step n
    → (i : ℕ) → i < n → start + step * i < 65536 * size
rising size start step n few forward low inside zero below = omega (arith, inside 0 below, mul-zero step)
rising size start step n few forward low inside (suc i) below =
    omega (arith, inside (suc i) below, rising size start step n few forward low inside i (omega (arith, below)), one_more step i)

around : (step i : ℕ) → step < 4294967296 → step * i + (4294967296 - step) * i ≡ 4294967296 * i
around step i low =
    let e : step + (4294967296 - step) ≡ 4294967296 = omega (arith, low) in
    sym (add-mul step (4294967296 - step) i) ∙ ap (λ (n : ℕ). n * i) e

-- steps back
falling : (size start step n : ℕ) → size ≤ 16384 → 2147483648 ≤ step → step < 4294967296 → start < 4294967296 → IsAxisInside size start step n
    → (i : ℕ) → i < n → (4294967296 - step) * i ≤ start
falling size start step n few back high low inside zero below = omega (arith, mul-zero (4294967296 - step))
falling size start step n few back high low inside (suc i) below =
    omega (
      arith,
      inside (suc i) below,
      falling size start step n few back high low inside i (omega (arith, below)),
      inside 0 (omega (arith, below)),
      mul-zero step,
      one_more (4294967296 - step) i,
      one_more step i,
      around step i high,
    )

-- so the last place decides
pub risen_out : (size start step last : ℕ) → size ≤ 16384 → step < 2147483648 → start < 4294967296 → size ≤ (start + step * last) / 65536
    → IsAxisInside size start step (last + 1) → ⊥
risen_out size start step last few forward low out inside =
    let top = rising size start step (last + 1) few forward low inside last (omega arith) in omega (arith, out, top)

pub fallen_out : (size start step last : ℕ) → size ≤ 16384 → 2147483648 ≤ step → step < 4294967296 → start < 4294967296
    → start < (4294967296 - step) * last → IsAxisInside size start step (last + 1) → ⊥
fallen_out size start step last few back high low out inside =
    let top = falling size start step (last + 1) few back high low inside last (omega arith) in omega (arith, out, top)

-- the place of an index, steps back
fallen : (start step i : ℕ) → step < 4294967296 → start < 4294967296 → (4294967296 - step) * i ≤ start
    → (start + step * i) % 4294967296 ≡ start - (4294967296 - step) * i
fallen start step i high low inside = omega (arith, around step i high, inside)

pub fallen_inside : (size start step last : ℕ) → step < 4294967296 → start < 4294967296 → start / 65536 < size
    → (4294967296 - step) * last ≤ start → IsAxisInside size start step (last + 1)
fallen_inside size start step last high low first inside i below =
    let less : (4294967296 - step) * i ≤ (4294967296 - step) * last = mul-le-mul_left (4294967296 - step) (omega (arith, below)) in
    omega (arith, fallen start step i high low (omega (arith, less, inside)), first)

-- a place and one further on, or further back, in the same block
same_ahead : (v d k : ℕ) → v % 2 ^ k + d < 2 ^ k → (v + d) / 2 ^ k ≡ v / 2 ^ k
same_ahead v d k fits =
    let e : v + d ≡ v / 2 ^ k * 2 ^ k + (v % 2 ^ k + d) = omega (arith, div-add-mod' v (2 ^ k)) in
    ap (λ (n : ℕ). n / 2 ^ k) e ∙ shr_high (v / 2 ^ k) k (v % 2 ^ k + d) fits

same_back : (v d k : ℕ) → d ≤ v % 2 ^ k → (v - d) / 2 ^ k ≡ v / 2 ^ k
same_back v d k fits =
    let e : v - d ≡ v / 2 ^ k * 2 ^ k + (v % 2 ^ k - d) = omega (arith, div-add-mod' v (2 ^ k), fits) in
    let less : v % 2 ^ k - d < 2 ^ k = omega (arith, mod_below v (2 ^ k) (pow_pos k)) in
    ap (λ (n : ℕ). n / 2 ^ k) e ∙ shr_high (v / 2 ^ k) k (v % 2 ^ k - d) less

-- the block of a place, by its texel
block_of : (n up : ℕ) → n / 65536 / 2 ^ up ≡ n / 2 ^ (up + 16)
block_of n up =
    let e : 16 + up ≡ up + 16 = omega arith in
    shr-shr n 16 up ∙ ap (λ (k : ℕ). n / 2 ^ k) e

pub together_ahead : (size start step up i n r behind before : ℕ) → size ≤ 16384 → step < 2147483648 → start < 4294967296 → IsAxisInside size start step n
    → i < n → i + r ≤ n → behind ≡ (start + step * i) % 4294967296 % 2 ^ (up + 16) → behind + before + 1 ≡ 2 ^ (up + 16)
    → ((m : ℕ) → m < r → step * m ≤ before) → AreTogether start step up i (i + r)
together_ahead size start step up i n r behind before few forward low inside here most part whole fit j from below =
    let last : ℕ = j - i in
    let sum : i + last ≡ j = omega (arith, from) in
    let at : start + step * i < 65536 * size = rising size start step n few forward low inside i here in
    let top : start + step * j < 65536 * size = rising size start step n few forward low inside j (omega (arith, below, most)) in
    let split : step * j ≡ step * i + step * last = ap (λ (k : ℕ). step * k) (sym sum) ∙ mul-add step i last in
    let was : (start + step * i) % 4294967296 ≡ start + step * i = omega (arith, at) in
    let is : (start + step * j) % 4294967296 ≡ start + step * i + step * last = omega (arith, top, split) in
    let rest : behind ≡ (start + step * i) % 2 ^ (up + 16) = part ∙ ap (λ (k : ℕ). k % 2 ^ (up + 16)) was in
    let room : step * last ≤ before = fit last (omega (arith, from, below)) in
    block_of ((start + step * j) % 4294967296) up
    ∙ ap (λ (k : ℕ). k / 2 ^ (up + 16)) is
    ∙ same_ahead (start + step * i) (step * last) (up + 16) (omega (arith, rest, whole, room))
    ∙ ap (λ (k : ℕ). k / 2 ^ (up + 16)) (sym was)
    ∙ sym (block_of ((start + step * i) % 4294967296) up)

pub together_back : (size start step up i n r behind : ℕ) → size ≤ 16384 → 2147483648 ≤ step → step < 4294967296 → start < 4294967296
    → IsAxisInside size start step n → i < n → i + r ≤ n → behind ≡ (start + step * i) % 4294967296 % 2 ^ (up + 16)
    → ((m : ℕ) → m < r → (4294967296 - step) * m ≤ behind) → AreTogether start step up i (i + r)
together_back size start step up i n r behind few back high low inside here most part fit j from below =
    let b : ℕ = 4294967296 - step in
    let last : ℕ = j - i in
    let sum : i + last ≡ j = omega (arith, from) in
    let at : b * i ≤ start = falling size start step n few back high low inside i here in
    let top : b * j ≤ start = falling size start step n few back high low inside j (omega (arith, below, most)) in
    let split : b * j ≡ b * i + b * last = ap (λ (k : ℕ). b * k) (sym sum) ∙ mul-add b i last in
    let was : (start + step * i) % 4294967296 ≡ start - b * i = fallen start step i high low at in
    let is : (start + step * j) % 4294967296 ≡ start - b * i - b * last = fallen start step j high low top ∙ (omega (arith, split)) in
    let rest : behind ≡ (start - b * i) % 2 ^ (up + 16) = part ∙ ap (λ (k : ℕ). k % 2 ^ (up + 16)) was in
    let room : b * last ≤ behind = fit last (omega (arith, from, below)) in
    block_of ((start + step * j) % 4294967296) up
    ∙ ap (λ (k : ℕ). k / 2 ^ (up + 16)) is
    ∙ same_back (start - b * i) (b * last) (up + 16) (omega (arith, rest, room))
    ∙ ap (λ (k : ℕ). k / 2 ^ (up + 16)) (sym was)
    ∙ sym (block_of ((start + step * i) % 4294967296) up)

-- a column or a row of tiles, by the texel of level 0
tile_at : (t shift k x : ℕ) → t ≡ 2 ^ shift → x / 2 ^ k / t ≡ x / 2 ^ (k + shift)
tile_at t shift k x power = ap (λ (n : ℕ). x / 2 ^ k / n) power ∙ shr-shr x k shift

same_tile : (t shift k x y : ℕ) → t ≡ 2 ^ shift → x / 2 ^ (k + shift) ≡ y / 2 ^ (k + shift) → x / 2 ^ k / t ≡ y / 2 ^ k / t
same_tile t shift k x y power same = tile_at t shift k x power ∙ same ∙ sym (tile_at t shift k y power)

pub along_of : (s : Shape) (r : Span) (shift i across down e : ℕ) → s.tile ≡ 2 ^ shift → AreTogether r.x r.step_x (r.level + shift) i across
    → AreTogether r.y r.step_y (r.level + shift) i down → e ≤ across → e ≤ down
    → IsPageAlong s r i e (covering_page s (span_point r i).level (span_point r i).x (span_point r i).y)
unfolding texel_page
along_of s r shift i across down e power columns rows left right j from below =
    let c = same_tile s.tile shift r.level (stepped r.x r.step_x j) (stepped r.x r.step_x i) power (columns j from (omega (arith, below, left))) in
    let d = same_tile s.tile shift r.level (stepped r.y r.step_y j) (stepped r.y r.step_y i) power (rows j from (omega (arith, below, right))) in
    λ n. index_at s r.level (c n) (d n)

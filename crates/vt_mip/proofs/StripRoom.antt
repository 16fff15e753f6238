-- The numbers of levels, and the room for their rows.
use Rattle.std.proofs.Common.{◌≡◌, ℕ, zero, suc, ◌+◌, ◌-◌, ◌*◌, ◌/◌, ◌<◌, ◌≤◌, ◌⊎◌, inl, inr, refl, sym, ap, ◌∙◌, subst, arith}
use Rattle.std.proofs.Math.Nat.{mul-le-mul_left}
use Rattle.vt_ppm.specs.Depths.{IsDepth, texel_length}
use Rattle.vt_ppm.specs.Sides.{side, level_count}
use Rattle.vt_ppm.proofs.Levels.{level_count_least}
use Rattle.vt_ppm.specs.declared.header.Header.{Header}
use Rattle.vt_ppm.specs.Format.{depth_of}
use Rattle.vt_mip.specs.StripChains.{IsBelow, StripChainView, room_length, level_row_length}
use Rattle.vt_mip.proofs.Fronts.{side_scaled}
use Rattle.vt_ppm.specs.Strips.{IsTextureHeader}
use Rattle.vt_mip.proofs.StripReads.{upper}

-- no level before this one has both sides at most the tile side
abbrev pub NeedsLevels : ℕ → ℕ → ℕ → ℕ → Type 0
NeedsLevels w h t n = (k : ℕ) → side w k ≤ t → side h k ≤ t → n ≤ k

not_here : (n k : ℕ) → n ≤ k → (k ≡ n → ⊥) → n + 1 ≤ k
not_here n k from apart = grind arith

pub needs_more : (w h t n columns rows : ℕ) → columns ≡ side w n → rows ≡ side h n → (t < columns) ⊎ (t < rows) → NeedsLevels w h t n
    → NeedsLevels w h t (n + 1)
needs_more w h t n columns rows ew eh (inl large) needs = λ k wide high. not_here n k (needs k wide high)
    (λ (same : k ≡ n). let s : side w n ≤ t = subst (λ (i : ℕ). side w i ≤ t) same wide in let no : ⊥ = omega (arith, s, ew) in no)
needs_more w h t n columns rows ew eh (inr large) needs = λ k wide high. not_here n k (needs k wide high)
    (λ (same : k ≡ n). let s : side h n ≤ t = subst (λ (i : ℕ). side h i ≤ t) same high in let no : ⊥ = omega (arith, s, eh) in no)

-- thirteen halvings bring the largest side down to the least tile side
pub needs_few : (w h t n : ℕ) → 2 ≤ t → w ≤ 16384 → h ≤ 16384 → NeedsLevels w h t n → n ≤ 13
needs_few w h t n some wide high needs =
    needs 13 (omega (arith, side_scaled w 13 2 (omega arith))) (omega (arith, side_scaled h 13 2 (omega arith)))

pub levels_are : (w h t n columns rows : ℕ) → 1 ≤ t → columns ≡ side w n → rows ≡ side h n → columns ≤ t → rows ≤ t → NeedsLevels w h t n
    → n + 1 ≡ level_count w h t
levels_are w h t n columns rows some ew eh wide high needs =
    let count = level_count_least w h t some in
    let up : level_count w h t ≤ n + 1 = count.least n (omega (arith, ew)) (omega (arith, eh)) in
    let down : n ≤ level_count w h t - 1 = needs (level_count w h t - 1) count.last_width count.last_height in
    omega (arith, up, down, count.some)

pub room_none : (h : Header) → room_length h 0 ≡ 0
unfolding room_length
room_none h = refl

pub room_more : (h : Header) (k : ℕ) → room_length h (suc k) ≡ 2 * level_row_length h k + room_length h k
unfolding room_length
room_more h k = refl

pub room_next : (h : Header) (k size s : ℕ) → size ≡ texel_length (depth_of h.maximum) → s ≡ side h.width k
    → room_length h k + 2 * (size * s) ≡ room_length h (k + 1)
room_next h k size s e f =
    let n : k + 1 ≡ suc k = omega arith in
    let row : size * s ≡ level_row_length h k = ap (λ (i : ℕ). i * s) e ∙ ap (λ (i : ℕ). texel_length (depth_of h.maximum) * i) f in
    (let sum : room_length h k + 2 * (size * s) ≡ room_length h (suc k) = omega (arith, room_more h k, row) in sum) ∙ ap (room_length h) (sym n)

room_grows_by : (h : Header) (a n : ℕ) → room_length h a ≤ room_length h (a + n)
room_grows_by h a zero = let e : a + 0 ≡ a = omega arith in let s : room_length h (a + 0) ≡ room_length h a = ap (room_length h) e in omega (arith, s)
room_grows_by h a (suc n) =
    let e : a + suc n ≡ suc (a + n) = omega arith in
    let s : room_length h (a + suc n) ≡ room_length h (suc (a + n)) = ap (room_length h) e in
    omega (arith, s, room_more h (a + n), room_grows_by h a n)

-- a coarser level needs more room
pub room_grows : (h : Header) (a b : ℕ) → a ≤ b → room_length h a ≤ room_length h b
room_grows h a b h' =
    let e : a + (b - a) ≡ b = omega arith in
    let s : room_length h (a + (b - a)) ≡ room_length h b = ap (room_length h) e in omega (arith, s, room_grows_by h a (b - a))

-- the length of a row that is halved
pub half_length : (h : Header) (level k d w n : ℕ) → level ≡ suc k → d ≡ depth_of h.maximum → w ≡ side h.width k
    → n ≡ level_row_length h level → n ≡ texel_length d * ((w + 1) / 2)
half_length h level k d w n e ed ew full = full ∙ ap (level_row_length h) e
    ∙ ap (λ (i : ℕ). texel_length i * ((side h.width k + 1) / 2)) (sym ed) ∙ ap (λ (i : ℕ). texel_length d * ((i + 1) / 2)) (sym ew)

-- a level more takes room that fits
pub room_few : (n z s k : ℕ) → n ≤ 196608 * k → z ≤ 6 → s ≤ 16384 → n + 2 * (z * s) ≤ 196608 * (k + 1)
room_few n z s k few small short =
    let a : z * s ≤ z * 16384 = mul-le-mul_left z short in omega (arith, a)

pub is_below : (h h' : Header) (level y d w s z : ℕ) → h' ≡ h → 1 ≤ level → d ≡ depth_of h.maximum → IsDepth d → z ≡ texel_length d
    → w ≡ side h'.width (level - 1) → s ≡ side h'.height (level - 1) → s ≤ h'.height → IsTextureHeader h → y < side h.height level
    → IsBelow h level y d w s (z * w)
is_below h h' level y d w s z e some ed depth ez ew es few header inside =
    let k : ℕ = level - 1 in
    let level_is : level ≡ suc k = omega arith in
    let columns : w ≡ side h.width k = ew ∙ ap (λ (g : Header). side g.width k) e in
    let rows : s ≡ side h.height k = es ∙ ap (λ (g : Header). side g.height k) e in
    let high : h'.height ≡ h.height = ap (λ (g : Header). g.height) e in
    let size : z * w ≡ level_row_length h k = ap (λ n. n * w) (ez ∙ ap texel_length ed) ∙ ap (λ n. texel_length (depth_of h.maximum) * n) columns in
    let room : room_length h level ≡ room_length h (suc k) = ap (room_length h) level_is in
    let up = upper h.height k level y level_is inside in
    record {
      level_is = level_is;
      depth = ed;
      is_depth = depth;
      some_columns = header.sides.some_columns;
      columns = columns;
      rows = rows;
      product = ap (λ n. n * w) ez;
      size = size;
      room = omega (arith, room, room_more h k, size);
      upper = up;
      inside = omega (arith, up.inside, rows);
      short = omega (arith, few, high, header.sides.few_rows);
    }

-- a level that callers see is one of the chain
pub level_seen : {F : Type 0} (u v : StripChainView F) (level levels : ℕ) → u ≡ v → levels ≡ level_count u.header.width u.header.height u.tile
    → level < level_count v.header.width v.header.height v.tile → level < levels
level_seen {F} u v level levels same count below =
    let there : level < level_count u.header.width u.header.height u.tile =
    subst (λ (w : StripChainView F). level < level_count w.header.width w.header.height w.tile) (sym same) below in
    omega (arith, there, count)

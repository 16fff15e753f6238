-- Tiles that lie side by side, line by line.
use Rattle.std.proofs.Common.{◌≡◌, ℕ, ◌+◌, ◌-◌, ◌*◌, ◌<◌, ◌≤◌, ◌⊎◌, inl, inr, List, length, min, sym, ap, ◌∙◌, arith}
use Rattle.std.proofs.lemmas.Nat.{mul-le}
use borrow.Rule.Slice.PartMut.{put_mid}
use Rattle.vt_tiles.specs.TileLines.{IsSpan, GainsLine, piece_at, tile_piece}
use Rattle.vt_tiles.proofs.Pieces.{piece_kept, piece_written}
use Rattle.vt_tiles.proofs.Lines.{up_to}

pub line_room : (side line : ℕ) → line < side → line * side + side ≤ side * side
line_room side line below = omega (arith, mul-le (line + 1) side side side (omega arith) (omega arith))

pub tile_room : (t n area : ℕ) → t < n → t * area + area ≤ n * area
tile_room t n area below = omega (arith, mul-le (t + 1) area n area (omega arith) (omega arith))

pub three_ways : (t n : ℕ) → (t < n) ⊎ ((t ≡ n) ⊎ (n < t))
three_ways t n = grind arith

-- the line of one tile more
pub next_tile : (z : ℕ) (row before now new : List ℕ) (columns side column line count n at k : ℕ) → line < side → n < count
    → at ≤ length now → at ≡ z * (n * (side * side) + line * side) → k ≡ z * side → length new ≡ k
    → IsSpan z row columns ((column + n) * side) side new → GainsLine z row columns side column line count n before now
    → GainsLine z row columns side column line count (n + 1) before (put_mid at k now new)
next_tile z row before now new columns side column line count n at k below more room e size whole span gained = record {
  here = λ t x p q. here t x q (up_to t n p);
  kept = λ t i p q. piece_kept z now new (n * (side * side) + line * side) side (t * (side * side) + i) at k e size room whole
      (outside t i q (three_ways t n)) ∙ gained.kept t i p q;
} where
  outside : (t i : ℕ) → i < line * side → (t < n) ⊎ ((t ≡ n) ⊎ (n < t))
      → (t * (side * side) + i < n * (side * side) + line * side) ⊎ (n * (side * side) + line * side + side ≤ t * (side * side) + i)
  outside t i q (inl h) = inl (omega (arith, tile_room t n (side * side) h, line_room side line below))
  outside t i q (inr (inl h)) = inl (let s : t * (side * side) ≡ n * (side * side) = ap (λ m. m * (side * side)) h in omega arith)
  outside t i q (inr (inr h)) = inr (omega (arith, tile_room n t (side * side) h, line_room side line below))

  here : (t x : ℕ) → x < side → (t < n) ⊎ (t ≡ n)
      → tile_piece z side (put_mid at k now new) t (line * side + x) ≡ piece_at z row (min ((column + t) * side + x) (columns - 1))
  here t x q (inl h) =
      piece_kept z now new (n * (side * side) + line * side) side (t * (side * side) + (line * side + x)) at k e size room whole
      (inl (omega (arith, tile_room t n (side * side) h, line_room side line below)))
      ∙ gained.here t x h q
  here t x q (inr h) =
      let place : t * (side * side) + (line * side + x) ≡ n * (side * side) + line * side + x = omega (arith, ap (λ m. m * (side * side)) h) in
      ap (piece_at z (put_mid at k now new)) place
      ∙ piece_written z now new (n * (side * side) + line * side) side x at k e size room whole q
      ∙ span.each x q ∙ ap (λ m. piece_at z row (min ((column + m) * side + x) (columns - 1))) (sym h)

-- the place of a line of a tile, in texels, and the line's end
pub line_small : (t column count side line : ℕ) → t < count → (column + count) * side ≤ 32768 → side ≤ 128 → line < side
    → t * (side * side) + line * side + side ≤ 4210688
line_small t column count side line p few small q =
    let along : t * side ≤ 32768 = omega (arith, mul-le t side (column + count) side (omega arith) (omega arith)) in
    let down : t * side * side ≤ 32768 * 128 = mul-le (t * side) side 32768 128 along small in
    let line : (line + 1) * side ≤ 128 * 128 = mul-le (line + 1) side 128 128 (omega arith) small in
    omega arith

-- and in bytes
pub bytes_small : (size n m : ℕ) → size ≤ 6 → n ≤ m → size * n ≤ 6 * m
bytes_small size n m small few = mul-le size n 6 m small few

pub line_inside : (t count side line size n : ℕ) → t < count → line < side → n ≡ count * (side * side * size)
    → size * (t * (side * side) + line * side) + size * side ≤ n
line_inside t count side line size n p q full =
    let here : t * (side * side) + line * side + side ≤ count * (side * side) =
    omega (arith, tile_room t count (side * side) p, line_room side line q) in
    let all : size * (t * (side * side) + line * side + side) ≤ size * (count * (side * side)) =
    mul-le size (t * (side * side) + line * side + side) size (count * (side * side)) (omega arith) here in
    omega arith

-- the columns of tiles, in texels
pub columns_few : (t column count side : ℕ) → t < count → (column + count) * side ≤ 32768 → 1 ≤ side
    → (column + t ≤ 32768) × ((column + t) * side ≤ 32768)
columns_few t column count side p few some = (
  omega (arith, mul-le (column + t) 1 (column + count) side (omega arith) some),
  omega (arith, mul-le (column + t) side (column + count) side (omega arith) (omega arith)),
)

-- a tile's line begins in the row where the last tile's does
pub line_begins : (t column count side size n : ℕ) → t < count → size * ((column + count - 1) * side) + size ≤ n
    → size * ((column + t) * side) + size ≤ n
line_begins t column count side size n p last =
    let along : (column + t) * side ≤ (column + count - 1) * side = mul-le (column + t) side (column + count - 1) side (omega arith) (omega arith) in
    omega (arith, mul-le size ((column + t) * side) size ((column + count - 1) * side) (omega arith) along)

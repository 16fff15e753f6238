-- The spans of texels that the lines of tiles are made of.
use Rattle.std.proofs.Common.{◌≡◌, ℕ, ◌+◌, ◌-◌, ◌*◌, ◌/◌, ◌<◌, ◌≤◌, ◌⊎◌, inl, inr, List, ◌++◌, length, get_or, take, drop, min, sym, ap, ◌∙◌, arith}
use Rattle.std.specs.Prelude.{slice_index}
use Rattle.std.proofs.lemmas.List.{length-append, length-drop, length-take-le, get_or-take, get_or-drop, get_or_append_left}
use Rattle.std.proofs.lemmas.Nat.{mul-le, le-div}
use borrow.Rule.Slice.PartMut.{put_mid}
use Rattle.vt_tiles.specs.TileLines.{IsFilled, IsSpan, piece_at}
use Rattle.vt_tiles.proofs.Pieces.{bytes_same, piece_end, byte_kept, byte_written}

pub up_to : (t n : ℕ) → t < n + 1 → (t < n) ⊎ (t ≡ n)
up_to t n h = grind arith

two_ways : (a b : ℕ) → (a < b) ⊎ (b ≤ a)
two_ways a b = grind arith

-- a run of bytes that is a slice of a row
cut_byte : (row : List ℕ) (at n i place : ℕ) → i < n → place ≡ at + i → get_or (take n (drop at row)) i 0 ≡ get_or row place 0
cut_byte row at n i place inside e = get_or-take n (drop at row) i 0 inside ∙ get_or-drop at row i 0 ∙ ap (λ m. get_or row m 0) (sym e)

-- a row has the texel that a byte of it begins
row_begins : (z first columns : ℕ) → 1 ≤ z → z * first + z ≤ z * columns → first < columns
row_begins z first columns some room = below (two_ways first columns) where
  below : (first < columns) ⊎ (columns ≤ first) → first < columns
  below (inl h) = h
  below (inr h) = (let no : ⊥ = omega (arith, mul-le z columns z first (omega arith) h) in absurd no)

-- the texels of a row from a column on, and behind them the row's last texel
pub span_put : (z : ℕ) (row out copied filled last : List ℕ) (at inside k m j columns first count : ℕ) → 1 ≤ z → at + z ≤ length row
    → length row ≡ z * columns → at ≡ z * first → length out ≡ z * count → inside ≡ min (length out) (length row - at)
    → copied ≡ take (at + inside - at) (drop at row) → k ≡ length (copied ++ drop inside out) - inside
    → m ≡ length (take (length (copied ++ drop inside out) - inside) (drop inside (copied ++ drop inside out))) → length filled ≡ m
    → last ≡ take j (drop (length row - z) row) → j ≡ z → IsFilled last filled
    → IsSpan z row columns first count (put_mid inside k (copied ++ drop inside out) filled)
span_put z row out copied filled last at inside k m j columns first count some begins full e room cut same size whole long ends three fill = record {
  each = λ x p. each x p (two_ways (first + x) columns);
} where
  column : first < columns
  column = row_begins z first columns some (omega (arith, begins, full, e))

  copied_length : length copied ≡ inside
  copied_length = ap length same ∙ length-take-le (at + inside - at) (drop at row) (omega (arith, length-drop at row)) ∙ omega arith

  all_length : length (copied ++ drop inside out) ≡ length out
  all_length = omega (arith, length-append copied (drop inside out), copied_length, length-drop inside out)

  filled_length : length filled ≡ k
  filled_length = long ∙ whole ∙ length-take-le (length (copied ++ drop inside out) - inside) (drop inside (copied ++ drop inside out))
      (omega (arith, length-drop inside (copied ++ drop inside out))) ∙ sym size

  last_length : length last ≡ z
  last_length = ap length ends ∙ length-take-le j (drop (length row - z) row) (omega (arith, length-drop (length row - z) row)) ∙ three

  front_room : inside ≤ length (copied ++ drop inside out)
  front_room = omega (arith, all_length)

  filled_at : (x c : ℕ) → c < z → z * x + z ≤ k → get_or filled (z * x + c) 0 ≡ get_or row (length row - z + c) 0
  filled_at x c p q =
      let turned : length last * x ≡ z * x = ap (λ n. n * x) last_length in
      ap (slice_index filled) (let s : z * x + c ≡ length last * x + c = omega (arith, turned) in s)
      ∙ fill.each x c (omega (arith, last_length)) (omega (arith, turned, last_length, filled_length))
      ∙ ap (λ l. get_or l c 0) ends
      ∙ cut_byte row (length row - z) j c (length row - z + c) (omega (arith, three)) (omega arith)

  each : (x : ℕ) → x < count → (first + x < columns) ⊎ (columns ≤ first + x)
      → piece_at z (put_mid inside k (copied ++ drop inside out) filled) x ≡ piece_at z row (min (first + x) (columns - 1))
  each x p (inl h) =
      let here : min (first + x) (columns - 1) ≡ first + x = omega arith in
      let place : z * min (first + x) (columns - 1) ≡ z * (first + x) = ap (λ n. z * n) here in
      let ends : z * (first + x) + z ≤ z * columns = piece_end z (first + x) columns h in
      let fits : z * x + z ≤ z * count = piece_end z x count p in
      bytes_same (put_mid inside k (copied ++ drop inside out) filled) row (z * x) (z * min (first + x) (columns - 1)) z
      (λ c q. byte_kept (copied ++ drop inside out) filled inside k (z * x + c) front_room filled_length (inl (omega (arith, ends, fits)))
      ∙ get_or_append_left copied (drop inside out) 0 (z * x + c) (omega (arith, copied_length, ends, fits))
      ∙ ap (λ l. get_or l (z * x + c) 0) same
      ∙ cut_byte row at (at + inside - at) (z * x + c) (z * min (first + x) (columns - 1) + c) (omega (arith, ends, fits)) (omega (arith, place)))
  each x p (inr h) =
      let past : ℕ = first + x - columns in
      let here : min (first + x) (columns - 1) ≡ columns - 1 = omega arith in
      let sum : first + x ≡ columns + past = omega arith in
      let place : z * min (first + x) (columns - 1) ≡ z * (columns - 1) = ap (λ n. z * n) here in
      let one : columns ≡ columns - 1 + 1 = omega (arith, column) in
      let last_at : z * columns ≡ z * (columns - 1 + 1) = ap (λ n. z * n) one in
      let split : z * (first + x) ≡ z * (columns + past) = ap (λ n. z * n) sum in
      let fits : z * x + z ≤ z * count = piece_end z x count p in
      let all : inside ≡ length row - at = omega (arith, split, fits) in
      bytes_same (put_mid inside k (copied ++ drop inside out) filled) row (z * x) (z * min (first + x) (columns - 1)) z
      (λ c q. ap (slice_index (put_mid inside k (copied ++ drop inside out) filled))
      (let s : z * x + c ≡ inside + (z * past + c) = omega (arith, all, split) in s)
      ∙ byte_written (copied ++ drop inside out) filled inside k (z * past + c) front_room
      (omega (arith, filled_length, size, all_length, all, split, fits))
      ∙ filled_at past c q (omega (arith, size, all_length, all, split, fits))
      ∙ ap (slice_index row) (let s : length row - z + c ≡ z * min (first + x) (columns - 1) + c = omega (arith, place, last_at) in s))

-- a texel filled once more
pub next_filled : (texel old new : List ℕ) (n k : ℕ) → k ≡ length texel → length new ≡ k → new ≡ texel → length texel * n + k ≤ length old
    → ((x c : ℕ) → x < n → c < length texel → get_or old (length texel * x + c) 0 ≡ get_or texel c 0)
    → (x c : ℕ) → x < n + 1 → c < length texel → get_or (put_mid (length texel * n) k old new) (length texel * x + c) 0 ≡ get_or texel c 0
next_filled texel old new n k size whole same room filled x c p q = here (up_to x n p) where
  here : (x < n) ⊎ (x ≡ n) → get_or (put_mid (length texel * n) k old new) (length texel * x + c) 0 ≡ get_or texel c 0
  here (inl h) =
      byte_kept old new (length texel * n) k (length texel * x + c) (omega arith) whole
      (inl (omega (arith, piece_end (length texel) x n h)))
      ∙ filled x c h q
  here (inr h) =
      ap (λ m. get_or (put_mid (length texel * n) k old new) (length texel * m + c) 0) h
      ∙ byte_written old new (length texel * n) k c (omega arith) (omega arith) ∙ ap (λ l. get_or l c 0) same

-- of so many texels as have room, each has room
pub room_for : (z x n : ℕ) → 1 ≤ z → x < n / z → z * x + z ≤ n
room_for z x n some h = omega (arith, piece_end z x (n / z) h)

-- a texel that has room is one of them
pub has_room : (z x n : ℕ) → 1 ≤ z → z * x + z ≤ n → x < n / z
has_room z x n some room = omega (arith, le-div (x + 1) n z some (omega arith))

-- Rows that are drawn behind those above them.
use Rattle.std.proofs.Common.{◌≡◌, ℕ, ◌+◌, ◌-◌, ◌*◌, ◌<◌, ◌≤◌, List, ◌++◌, length, take, sym, ap, ap₂, ◌∙◌, append_assoc, arith}
use Rattle.std.specs.List.{flat_map, range_with_len}
use Rattle.std.proofs.lemmas.List.{length-take-le}
use Rattle.std.proofs.lemmas.Nat.{column_fits}
use Rattle.std.proofs.Math.Seq.{take-append_seam, take-append-add}
use borrow.Rule.Slice.PartMut.{put_mid, post_of}
use Rattle.vt_plain.specs.Parts.{IsRoomFor, rows_until}
use Rattle.vt_plain.proofs.Drawn.{over_more}

-- a row that was written is behind what was there before its place
pub row_put : (out drawn : List ℕ) (at k size : ℕ) → length drawn ≡ size → at ≤ length out → take (at + size) (put_mid at k out drawn) ≡ take at out ++ drawn
row_put out drawn at k size full fits =
    let front : length (take at out) ≡ at = length-take-le at out fits in
    ap (λ (n : ℕ). take n (put_mid at k out drawn)) (let s : at + size ≡ length (take at out) + length drawn = omega (arith, front, full) in s)
    ∙ take-append-add (take at out) (drawn ++ post_of at k out) (length drawn)
    ∙ ap (λ (t : List ℕ). take at out ++ t) (take-append_seam drawn (post_of at k out))

next_place : (size n : ℕ) → size * (n + 1) ≡ size * n + size
next_place size n = omega arith

-- one row more
pub row_more : (f : ℕ → List ℕ) (first y k size : ℕ) (out drawn : List ℕ) → first ≤ y → length drawn ≡ size → size * (y - first) ≤ length out
    → drawn ≡ f y → rows_until f first ++ take (size * (y - first)) out ≡ rows_until f y
    → rows_until f first ++ take (size * (y + 1 - first)) (put_mid (size * (y - first)) k out drawn) ≡ rows_until f (y + 1)
unfolding rows_until
row_more f first y k size out drawn order full fits is so_far =
    let above = rows_until f first in
    let at = size * (y - first) in
    let step : size * (y + 1 - first) ≡ at + size =
    ap (λ (n : ℕ). size * n) (let s : y + 1 - first ≡ y - first + 1 = omega (arith, order) in s) ∙ next_place size (y - first) in
    ap (λ (n : ℕ). above ++ take n (put_mid at k out drawn)) step
    ∙ ap (λ (t : List ℕ). above ++ t) (row_put out drawn at k size full fits)
    ∙ sym (append_assoc above (take at out) drawn)
    ∙ ap (λ (t : List ℕ). t ++ drawn) so_far
    ∙ ap (λ (t : List ℕ). rows_until f y ++ t) is
    ∙ sym (over_more f y)

-- rows that are drawn in two parts
pub both_drawn : (above middle below a b : List ℕ) → above ++ a ≡ middle → middle ++ b ≡ below → above ++ (a ++ b) ≡ below
both_drawn above middle below a b upper lower =
    sym (append_assoc above a b) ∙ ap (λ (t : List ℕ). t ++ b) upper ∙ lower

-- all rows of a picture
pub all_drawn : (f : ℕ → List ℕ) (height : ℕ) (out : List ℕ) → rows_until f 0 ++ out ≡ rows_until f height → out ≡ flat_map f (range_with_len 0 height)
unfolding rows_until
all_drawn f height out drawn = drawn

-- room in two parts
room_apart : (size first middle end : ℕ) → first ≤ middle → middle ≤ end → size * (end - first) ≡ size * (middle - first) + size * (end - middle)
room_apart size first middle end p q =
    ap (λ (n : ℕ). size * n) (let s : end - first ≡ middle - first + (end - middle) = omega (arith, p, q) in s) ∙ apart size (middle - first) (end - middle)
  where
    apart : (size m n : ℕ) → size * (m + n) ≡ size * m + size * n
    apart size m n = omega arith

-- the room for the rows above the middle one, and for the others
module _ (fits : ℕ → ℕ → Type 0) (size first middle end room : ℕ) (all : IsRoomFor fits size first end room) (low : first ≤ middle) (high : middle ≤ end) where
  pub upper_room : (a : ℕ) → a ≡ size * (middle - first) → IsRoomFor fits size first middle a
  upper_room a full = record { rows = λ y below. all.rows y (omega (arith, below, high)); order = low; full = full }

  pub lower_room : (a b : ℕ) → a ≡ size * (middle - first) → b + a ≡ room → IsRoomFor fits size middle end b
  lower_room a b full rest = record {
    rows = all.rows;
    order = high;
    full = let whole = room_apart size first middle end low high in omega (arith, whole, all.full, full, rest);
  }

-- the room for all rows of a picture whose texels have z bytes
pub room_by_rows : (z width height size high room : ℕ) → room ≡ z * (width * height) → size ≡ z * width → high ≡ height → room ≡ size * high
room_by_rows z width height size high room full is rows =
    full
    ∙ (let e : z * (width * height) ≡ z * width * height = omega arith in e)
    ∙ ap₂ (λ (m n : ℕ). m * n) (sym is) (sym rows)

-- a row of the room
pub row_within : (fits : ℕ → ℕ → Type 0) (first end room size y : ℕ) → IsRoomFor fits size first end room → first ≤ y → y < end
    → size * (y - first) + size ≤ room
row_within fits first end room size y all low high =
    let inside : size * (y - first) + size ≤ size * (end - first) = column_fits size (y - first) size (end - first) (omega (arith, low, high)) (omega arith) in
    omega (arith, all.full, inside)

-- The tiles of frames, each in a room of its own.
use Rattle.std.proofs.Common.{◌≡◌, ◌≢◌, ℕ, ◌+◌, ◌-◌, ◌*◌, ◌≤◌, ◌<◌, ◌⊎◌, inl, inr, List, [], length, get_or, take, drop, set, sym, ap, ◌∙◌, arith}
use Rattle.std.specs.Prelude.{slice_range, slice_index_or, slice_index}
use Rattle.std.proofs.lemmas.List.{drop-take, get_or_past, get_or-set_same, get_or-set_other}
use Rattle.std.proofs.lemmas.List.FromFn.{get_or-map-range_with_len, length-map-range_with_len}
use Rattle.std.proofs.lemmas.Nat.{mul-le}
use Rattle.std.proofs.lemmas.Bool.{cases_lt}
use Rattle.std.proofs.lemmas.Slice.{take-put_mid_below, drop-put_mid}
use borrow.Rule.Slice.PartMut.{put_mid}
use Rattle.vt_journal.specs.Depths.{texel_length}
use Rattle.vt_table.specs.Kept.{room_of_frame, tile_in, tiles_in}

-- what is before a piece that is written
pub before_mid : (at k : ℕ) (xs ys : List ℕ) (i j : ℕ) → at ≤ length xs → i ≤ j → j ≤ at → slice_range (put_mid at k xs ys) i j ≡ slice_range xs i j
before_mid at k xs ys i j room low high =
    let e : i + (j - i) ≡ j = omega arith in
    sym (drop-take i (j - i) (put_mid at k xs ys))
    ∙ ap (λ n. drop i (take n (put_mid at k xs ys))) e
    ∙ ap (drop i) (take-put_mid_below at k xs ys j high room)
    ∙ ap (λ n. drop i (take n xs)) (sym e)
    ∙ drop-take i (j - i) xs

-- and behind it
pub behind_mid : (at k : ℕ) (xs ys : List ℕ) (i j : ℕ) → at ≤ length xs → length ys ≡ k → at + k ≤ i → slice_range (put_mid at k xs ys) i j ≡ slice_range xs i j
behind_mid at k xs ys i j room full past = ap (take (j - i)) (drop-put_mid at k xs ys i past room full)

rooms_apart : (f g room : ℕ) → f ≢ g → (f * room + room ≤ g * room) ⊎ (g * room + room ≤ f * room)
rooms_apart f g room other =
    elim (cases_lt f g) [
      | inl below ↦ inl (omega (arith, mul-le (f + 1) room g room (omega arith) (omega arith)))
      | inr above ↦ inr (omega (arith, mul-le (g + 1) room f room (omega arith) (omega arith)))
    ]

pub tile_fits : (d side : ℕ) → d ≤ 2 → texel_length d * (side * side) ≤ room_of_frame side
tile_fits d side most = mul-le (3 * d) (side * side) 6 (side * side) (omega arith) (omega arith)

-- the tile that was written
pub tile_written : (side frame d : ℕ) (new tile : List ℕ) → length tile ≡ texel_length d * (side * side)
    → slice_range new (frame * room_of_frame side) (frame * room_of_frame side + length tile) ≡ tile → tile_in side new d frame ≡ tile
unfolding tile_in
tile_written side frame d new tile full written = ap (λ n. slice_range new (frame * room_of_frame side) (frame * room_of_frame side + n)) (sym full) ∙ written

-- the tile of another frame
pub tile_kept : (side frame f d n : ℕ) (old new : List ℕ) → f ≢ frame → d ≤ 2 → n ≤ room_of_frame side
    → ((i j : ℕ) → i ≤ j → j ≤ frame * room_of_frame side → slice_range new i j ≡ slice_range old i j)
    → ((i j : ℕ) → frame * room_of_frame side + n ≤ i → slice_range new i j ≡ slice_range old i j) → tile_in side new d f ≡ tile_in side old d f
unfolding tile_in
tile_kept side frame f d n old new other most short before behind =
    elim (rooms_apart f frame (room_of_frame side) other) [
      | inl low ↦ before (f * room_of_frame side) (f * room_of_frame side + texel_length d * (side * side)) (omega arith) (omega (arith, tile_fits d side most))
      | inr high ↦ behind (f * room_of_frame side) (f * room_of_frame side + texel_length d * (side * side)) (omega arith)
    ]

-- a frame's tile among the tiles
pub tiles_at : (side : ℕ) (bytes depths : List ℕ) (frames f : ℕ) → f < frames
    → slice_index_or (tiles_in side bytes depths frames) f [] ≡ tile_in side bytes (slice_index depths f) f
tiles_at side bytes depths frames f inside = get_or-map-range_with_len (λ g. tile_in side bytes (slice_index depths g) g) 0 frames f f [] inside (omega arith)

pub tiles_past : (side : ℕ) (bytes depths : List ℕ) (frames f : ℕ) → frames ≤ f → slice_index_or (tiles_in side bytes depths frames) f [] ≡ []
tiles_past side bytes depths frames f past =
    get_or_past (tiles_in side bytes depths frames) f []
    (omega (arith, length-map-range_with_len (λ g. tile_in side bytes (slice_index depths g) g) 0 frames))

-- a tile was written into the room of a frame
pub record IsWritten (side frame d : ℕ) (old new tile : List ℕ) : Type 0 where
  pub full : length tile ≡ texel_length d * (side * side)
  pub most : d ≤ 2
  pub written : slice_range new (frame * room_of_frame side) (frame * room_of_frame side + length tile) ≡ tile
  pub before : (i j : ℕ) → i ≤ j → j ≤ frame * room_of_frame side → slice_range new i j ≡ slice_range old i j
  pub behind : (i j : ℕ) → frame * room_of_frame side + length tile ≤ i → slice_range new i j ≡ slice_range old i j

pub tile_there : (side frame d frames : ℕ) (old new tile depths : List ℕ) → IsWritten side frame d old new tile → frame < frames
    → frame < length depths → slice_index_or (tiles_in side new (set depths frame d) frames) frame [] ≡ tile
tile_there side frame d frames old new tile depths h inside there =
    tiles_at side new (set depths frame d) frames frame inside
    ∙ ap (λ n. tile_in side new n frame) (get_or-set_same depths frame d 0 there)
    ∙ tile_written side frame d new tile h.full h.written

pub tile_elsewhere : (side frame d frames now f : ℕ) (old new tile depths : List ℕ) → IsWritten side frame d old new tile → now ≡ frames → f ≢ frame
    → ((g : ℕ) → g < frames → get_or depths g 0 ≤ 2)
    → slice_index_or (tiles_in side new (set depths frame d) now) f [] ≡ slice_index_or (tiles_in side old depths frames) f []
tile_elsewhere side frame d frames now f old new tile depths h same other most =
    ap (λ (n : ℕ). slice_index_or (tiles_in side new (set depths frame d) n) f []) same
    ∙ elim (cases_lt f frames) [
      | inl inside ↦ tiles_at side new (set depths frame d) frames f inside
          ∙ ap (λ n. tile_in side new n f) (get_or-set_other depths frame f d 0 other)
          ∙ tile_kept side frame f (get_or depths f 0) (length tile) old new other (most f inside)
          (omega (arith, h.full, tile_fits d side h.most)) h.before h.behind
          ∙ sym (tiles_at side old depths frames f inside)
      | inr past ↦ tiles_past side new (set depths frame d) frames f past ∙ sym (tiles_past side old depths frames f past)
    ]

-- by what a write of a tile says
pub is_written : (side room frame d : ℕ) (old lent new items tile : List ℕ) → room ≡ room_of_frame side → lent ≡ old → items ≡ new
    → length tile ≡ texel_length d * (side * side) → d ≤ 2
    → slice_range new (frame * room) (frame * room + length tile) ≡ tile
    → ((i j : ℕ) → i ≤ j → j ≤ frame * room → slice_range new i j ≡ slice_range lent i j)
    → ((i j : ℕ) → frame * room + length tile ≤ i → slice_range new i j ≡ slice_range lent i j)
    → IsWritten side frame d old items tile
is_written side room frame d old lent new items tile is was made full most written before behind = record {
  full = full;
  most = most;
  written = ap (λ (l : List ℕ). slice_range l (frame * room_of_frame side) (frame * room_of_frame side + length tile)) made
      ∙ ap (λ r. slice_range new (frame * r) (frame * r + length tile)) (sym is) ∙ written;
  before = λ i j low high. ap (λ (l : List ℕ). slice_range l i j) made ∙ before i j low (omega (arith, ap (λ r. frame * r) is))
      ∙ ap (λ (l : List ℕ). slice_range l i j) was;
  behind = λ i j past. ap (λ (l : List ℕ). slice_range l i j) made ∙ behind i j (omega (arith, ap (λ r. frame * r) is))
      ∙ ap (λ (l : List ℕ). slice_range l i j) was;
}

-- What a table keeps after each of its calls.
use Rattle.std.proofs.Common.{◌≡◌, ◌≢◌, ℕ, ◌+◌, ◌*◌, ◌≤◌, ◌<◌, inl, inr, List, [], ◌∷◌, ◌++◌, length, get_or, set, refl, sym, ap, ◌∙◌, subst, arith, length-set, get_or-set_other, get_or-set_same}
use Rattle.std.proofs.lemmas.Nat.{mul-le}
use Rattle.vt_journal.specs.Limits.{most_frames, most_frame_texels}
use Rattle.vt_journal.specs.Depths.{texel_length}
use Rattle.std.specs.Prelude.{slice_range}
use Rattle.vt_journal.specs.Shape.{Shape}
use Rattle.vt_journal.specs.Pages.{pages_of, IsWithinLimits}
use Rattle.vt_journal.specs.declared.changes.Change.{Change}
use Rattle.vt_journal.specs.Changes.{Table, newest, changed, nothing_mapped, IsFree, IsLegalNext}
use Rattle.vt_journal.specs.Kept.{entry_of, entries_of}
use Rattle.vt_journal.proofs.Versions.{newest-none, newest-more, same_page}
use Rattle.vt_table.specs.Views.{TableView, IsTile, IsTableChange, IsReady, filled_after, tile_of}
use Rattle.vt_table.specs.Kept.{tile_in, table_view_of, room_of_frame, IsTableKept}
use Rattle.vt_table.proofs.Rooms.{tiles_at}
use Rattle.vt_table.proofs.Lawful.{Follows, table_spared, table_filled, table_published, table_none}

-- the depth of a tile, from its length
pub depth_of_length : (s : Shape) (tile : List ℕ) (room d : ℕ) (h : IsTile s tile) → 1 ≤ s.tile → room ≡ room_of_frame s.tile
    → (length tile ≡ room → d ≡ 2) → (length tile ≢ room → d ≡ 1) → d ≡ h.depth
depth_of_length s tile room d h some is wide narrow =
    let texels : 1 ≤ s.tile * s.tile = mul-le 1 1 s.tile s.tile some some in
    elim h.lawful [
      | inl one ↦
          let full : length tile ≡ 3 * 1 * (s.tile * s.tile) = h.full ∙ ap (λ n. 3 * n * (s.tile * s.tile)) one in
          narrow (λ e. absurd (omega arith)) ∙ sym one
      | inr two ↦
          let full : length tile ≡ 3 * 2 * (s.tile * s.tile) = h.full ∙ ap (λ n. 3 * n * (s.tile * s.tile)) two in
          wide (omega arith) ∙ sym two
    ]

-- a table over more spare room
pub kept_reserved : (s : Shape) (js ks : List Change) (n m room : ℕ) (entries bytes depths owners : List ℕ) → ks ≡ js
    → IsTableKept (table_view_of s js n bytes depths owners) room entries bytes depths → IsTableKept (table_view_of s ks m bytes depths owners) room entries bytes depths
kept_reserved s js ks n m room entries bytes depths owners same k =
    subst (λ (l : List Change). IsTableKept (table_view_of s l m bytes depths owners) room entries bytes depths) (sym same) (record {
      table = table_spared (table_view_of s js n bytes depths owners) m k.table;
      room_is = k.room_is;
      few_bytes = k.few_bytes;
      all_entries = k.all_entries;
      agrees = k.agrees;
      all_bytes = k.all_bytes;
      all_depths = k.all_depths;
      low_depth = k.low_depth;
      high_depth = k.high_depth;
    })

set_low : (xs : List ℕ) (i d f : ℕ) → i < length xs → 1 ≤ d → 1 ≤ get_or xs f 0 → 1 ≤ get_or (set xs i d) f 0
set_low xs i d f inside low was =
    elim (same_page f i) [
      | inl same ↦ let e : get_or (set xs i d) f 0 ≡ d = ap (λ j. get_or (set xs i d) j 0) same ∙ get_or-set_same xs i d 0 inside in omega arith
      | inr other ↦ let e : get_or (set xs i d) f 0 ≡ get_or xs f 0 = get_or-set_other xs i f d 0 other in omega arith
    ]

set_high : (xs : List ℕ) (i d f : ℕ) → i < length xs → d ≤ 2 → get_or xs f 0 ≤ 2 → get_or (set xs i d) f 0 ≤ 2
set_high xs i d f inside high was =
    elim (same_page f i) [
      | inl same ↦ let e : get_or (set xs i d) f 0 ≡ d = ap (λ j. get_or (set xs i d) j 0) same ∙ get_or-set_same xs i d 0 inside in omega arith
      | inr other ↦ let e : get_or (set xs i d) f 0 ≡ get_or xs f 0 = get_or-set_other xs i f d 0 other in omega arith
    ]

-- a table of which a free frame was filled
pub kept_filled : (s : Shape) (js : List Change) (n room frame page d : ℕ) (entries bytes depths owners new : List ℕ)
    → frame < length owners → IsFree (newest js) frame
    → 1 ≤ d → d ≤ 2 → length new ≡ length bytes → IsTableKept (table_view_of s js n bytes depths owners) room entries bytes depths
    → IsTableKept (table_view_of s js n new (set depths frame d) (set owners frame (page + 1))) room entries new (set depths frame d)
kept_filled s js n room frame page d entries bytes depths owners new inside free low high same k = record {
  table = table_filled s js n frame page _ _ owners free k.table;
  room_is = k.room_is;
  few_bytes = rw frames k.few_bytes;
  all_entries = k.all_entries;
  agrees = k.agrees;
  all_bytes = same ∙ k.all_bytes ∙ ap (λ i. i * room) (sym frames);
  all_depths = length-set depths frame d ∙ k.all_depths ∙ sym frames;
  low_depth = λ f h. set_low depths frame d f (omega (arith, k.all_depths)) low (k.low_depth f (omega (arith, frames)));
  high_depth = λ f h. set_high depths frame d f (omega (arith, k.all_depths)) high (k.high_depth f (omega (arith, frames)));
}
  where
    frames : length (set owners frame (page + 1)) ≡ length owners
    frames = length-set owners frame (page + 1)

-- a table after a change
pub kept_published : (s : Shape) (js : List Change) (n m room : ℕ) (change : Change)
    (entries bytes depths owners to_entries to_owners : List ℕ) (ks : List Change)
    → ks ≡ js ++ change ∷ [] → IsTableChange (table_view_of s js n bytes depths owners) change → IsLegalNext s (newest js) change
    → IsReady (table_view_of s js n bytes depths owners) change → length to_entries ≡ length entries → length to_owners ≡ length owners
    → entries_of to_entries ≡ changed (entries_of entries) change → entries_of to_owners ≡ filled_after (entries_of owners) change
    → IsTableKept (table_view_of s js n bytes depths owners) room entries bytes depths
    → IsTableKept (table_view_of s ks m bytes depths to_owners) room to_entries bytes depths
kept_published s js n m room change entries bytes depths owners to_entries to_owners ks
    grown within legal ready all_entries all_owners new_entries new_owners k = record {
      table = table_published v w change follows grown k.table within legal ready;
      room_is = k.room_is;
      few_bytes = rw all_owners k.few_bytes;
      all_entries = all_entries ∙ k.all_entries;
      agrees = new_entries ∙ ap (λ (m : Table). changed m change) k.agrees ∙ sym next;
      all_bytes = k.all_bytes ∙ ap (λ i. i * room) (sym all_owners);
      all_depths = k.all_depths ∙ sym all_owners;
      low_depth = λ f h. k.low_depth f (omega arith);
      high_depth = λ f h. k.high_depth f (omega arith);
    }
  where
    v : TableView
    v = table_view_of s js n bytes depths owners

    w : TableView
    w = table_view_of s ks m bytes depths to_owners

    next : newest ks ≡ changed (newest js) change
    next = ap newest grown ∙ newest-more js change

    follows : Follows v w change
    follows = record { shape = refl; frames = all_owners; changes = next; owners = new_owners }

-- where all numbers are 0
entries_zero : (xs : List ℕ) → ((k : ℕ) → get_or xs k 0 ≡ 0) → entries_of xs ≡ nothing_mapped
entries_zero xs none = λ i p. ap entry_of (none p) i

pub entries_none : (xs : List ℕ) → ((k : ℕ) → get_or xs k 0 ≡ 0) → entries_of xs ≡ nothing_mapped
entries_none = entries_zero

-- a new table
pub kept_new : (s : Shape) (js : List Change) (n room frames : ℕ) (entries bytes depths owners : List ℕ)
    → IsWithinLimits s → js ≡ [] → 1 ≤ frames → frames ≤ most_frames
    → room ≡ room_of_frame s.tile → frames * room ≤ 6 * most_frame_texels → length entries ≡ pages_of s → ((k : ℕ) → get_or entries k 0 ≡ 0)
    → length bytes ≡ frames * room → length depths ≡ frames → ((k : ℕ) → k < frames → get_or depths k 0 ≡ 1) → length owners ≡ frames
    → IsTableKept (table_view_of s js n bytes depths owners) room entries bytes depths
kept_new s js n room frames entries bytes depths owners limits empty some few is small all_entries zeros all_bytes all_depths ones all_owners = record {
  table = table_none (table_view_of s js n bytes depths owners) limits empty (omega arith) (omega arith);
  room_is = is;
  few_bytes = rw all_owners small;
  all_entries = all_entries;
  agrees = entries_zero entries zeros ∙ (λ i p. sym (newest-none p) i) ∙ ap newest (sym empty);
  all_bytes = all_bytes ∙ ap (λ i. i * room) (sym all_owners);
  all_depths = all_depths ∙ sym all_owners;
  low_depth = λ f h. let e : get_or depths f 0 ≡ 1 = ones f (omega arith) in omega arith;
  high_depth = λ f h. let e : get_or depths f 0 ≡ 1 = ones f (omega arith) in omega arith;
}

-- the bytes of a frame's tile, as they are read from the frames' rooms
pub tile_read : (s : Shape) (js : List Change) (n room frame d size : ℕ) (entries bytes depths owners : List ℕ)
    → IsTableKept (table_view_of s js n bytes depths owners) room entries bytes depths → frame < length owners
    → d ≡ get_or depths frame 0 → size ≡ texel_length d * (s.tile * s.tile)
    → slice_range bytes (frame * room) (frame * room + size) ≡ tile_of (table_view_of s js n bytes depths owners) frame
unfolding tile_in
tile_read s js n room frame d size entries bytes depths owners k inside is full =
    ap (λ z. slice_range bytes (frame * room) (frame * room + z)) full
    ∙ ap (λ r. slice_range bytes (frame * r) (frame * r + texel_length d * (s.tile * s.tile))) k.room_is
    ∙ ap (λ e. tile_in s.tile bytes e frame) is ∙ sym (tiles_at s.tile bytes depths (length owners) frame inside)

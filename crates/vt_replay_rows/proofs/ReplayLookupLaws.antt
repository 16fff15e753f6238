-- What is drawn by a look-up that missed no tile is drawn by notes that are true of its page table over the store.
use Rattle.std.proofs.Common.{◌≡◌, ℕ, ◌+◌, ◌*◌, ◌<◌, inl, inr, Bool, true, false, List, length, Option, Some, None, refl, sym, ap, ◌∙◌, subst, arith}
use Rattle.std.proofs.lemmas.Bool.{cases_lt, false≢true}
use Rattle.std.proofs.lemmas.List.{get_or_past}
use Rattle.std.proofs.lemmas.List.Edits.{length-between}
use Rattle.vt_definitions.specs.Depths.{word_at}
use Rattle.vt_pages.specs.Pages.{texel_page}
use Rattle.vt_pictures.specs.DrawLookups.{Note, EntryNote, WordNote}
use Rattle.vt_journal.specs.Kept.{entry_of, entries_of}
use Rattle.vt_tiles.specs.Format.{stored}
use Rattle.vt_tiles.specs.StoreViews.{IsStore}
use Rattle.vt_tiles.proofs.Stored.{pieces_hold_texels}
use Rattle.vt_pictures.specs.Evidence.{AreTrue}
use Rattle.vt_replay_rows.specs.ReplayLookups.{ReplayLookupView, IsReplayLookup, IsTrueOfTiles, IsIn, HasTileWord, AreTiles, entry_number, replay_lookup_base, bytes_row}
use Rattle.vt_replay_rows.proofs.Places.{row_room}

unmapped_by : (o : Option ℕ) → 0 ≡ entry_number o → o ≡ None
unmapped_by None e = refl
unmapped_by (Some frame) e = absurd (omega (arith, e))

mapped_by : (o : Option ℕ) (frame : ℕ) → frame + 1 ≡ entry_number o → o ≡ Some frame
mapped_by None frame e = absurd (omega (arith, e))
mapped_by (Some other) frame e = let same : other ≡ frame = omega (arith, e) in ap Some same

-- what was said is said once a tile was missed
pub says_on : (v : ReplayLookupView) (note : Note) → IsTrueOfTiles v note → IsTrueOfTiles (record v { missed = true }) note
says_on v (EntryNote version page entry) h = (h.0, λ none some. absurd (false≢true (sym none)))
says_on v (WordNote version frame place word) h = λ none page at. absurd (false≢true (sym none))

-- a look-up that missed no tile is known by what no call changes
pub none_missed : (v : ReplayLookupView) → v.missed ≡ false → replay_lookup_base v ≡ v
none_missed v none = ap (λ (b : Bool). record v { missed = b }) (sym none)

-- the word at a place of the tile of a page is a word of the page's frame
pub word_noted : (v : ReplayLookupView) (version page frame place word : ℕ) → IsReplayLookup v → IsTrueOfTiles v (EntryNote version page (frame + 1))
    → ((slot : ℕ) → IsIn v.slots v.owners page slot → word ≡ word_at v.depth (bytes_row v.size v.bytes slot) place)
    → IsTrueOfTiles v (WordNote version frame place word)
word_noted v version page frame place word replay_lookup known is none other at =
    let mapped : entries_of v.entries page ≡ Some frame = mapped_by (entries_of v.entries page) frame known.0 in
    let same : page ≡ other = replay_lookup.apart page other frame mapped at in
    let held = known.1 none (omega arith) in
    subst (λ (p : ℕ). HasTileWord v p place word) same (held.0, held.1, is held.0 held.1)

-- a slot that a page owns is one of the set's
pub owned_inside : (owners : List ℕ) (slot page : ℕ) → entries_of owners slot ≡ Some page → slot < length owners
owned_inside owners slot page e =
    elim (cases_lt slot (length owners)) [
      | inl below ↦ below
      | inr past ↦ (let none : entries_of owners slot ≡ None = ap entry_of (get_or_past owners slot 0 past) in absurd (let f : None ≡ Some page = sym none ∙ e in cc))
    ]

-- a row of bytes of which there are so many
pub row_full : (y rows line : ℕ) (bytes : List ℕ) → y < rows → length bytes ≡ rows * line → length (bytes_row line bytes y) ≡ line
row_full y rows line bytes low all =
    let room = row_room y rows line (length bytes) low all in
    length-between bytes (y * line) (y * line + line) (omega (arith, room)) ∙ omega arith

-- what a look-up that missed no tile says is true of its page table over the store whose tiles are loaded
pub true_replay_lookup : (t : ReplayLookupView) (b : List ℕ) (version : ℕ) → t.missed ≡ false → IsStore b t.shape t.depth
    → AreTiles t.shape t.depth t.size t.slots t.owners t.bytes (Some b)
    → AreTrue t.shape (stored b) (entries_of t.entries) version (IsTrueOfTiles t)
true_replay_lookup t b version none store tiles = record {
  unmapped = λ page known. unmapped_by (entries_of t.entries page) known.0;
  mapped = λ page frame known. mapped_by (entries_of t.entries page) frame known.0;
  words = λ frame j x y word inside at known.
      let page = texel_page t.shape j x y in
      let has = known none page at in
      let low = owned_inside t.owners has.0 page has.1.owned in
      let full = row_full has.0 (length t.owners) t.size t.bytes low tiles.all_bytes ∙ tiles.size_is in
      has.2 ∙ pieces_hold_texels t.shape t.depth b (bytes_row t.size t.bytes has.0) j x y store inside (tiles.holds has.0 page has.1.owned low) full;
}

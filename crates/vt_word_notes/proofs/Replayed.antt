-- What was noted and taken back is true of its version's table over the store, and what is drawn by it is the replay.
use Rattle.std.proofs.Common.{◌≡◌, ℕ, ◌+◌, ◌*◌, ◌%◌, ◌<◌, ◌≤◌, List, [], get_or, Option, Some, None, refl, sym, ap, ◌∙◌, subst, mul_comm, arith}
use Rattle.std.specs.Prelude.{slice_get, IfSome}
use Rattle.std.proofs.lemmas.List.Elements.{All-contains}
use Rattle.std.proofs.lemmas.List.FromFn.{get_or-map-range_with_len}
use Rattle.std.proofs.lemmas.Nat.{mod_below, mul-add-lt}
use Rattle.vt_tiles.specs.Depths.{texel_length, texel_bytes}
use Rattle.vt_tiles.specs.Texels.{Source}
use Rattle.vt_tiles.specs.Shape.{Shape}
use Rattle.vt_tiles.specs.Pages.{texel_page, IsWithinLimits}
use Rattle.vt_tiles.specs.PagesLaws.{IsInside}
use Rattle.vt_streaming.specs.Rows.{RowView}
use Rattle.vt_sampler.specs.Lookups.{Note, EntryNote, WordNote, place_in_tile}
use Rattle.vt_sampler.specs.Shots.{shot_row}
use Rattle.vt_journal.specs.declared.changes.RowLine.{RowLine}
use Rattle.vt_journal.specs.Changes.{Table, at, AreInTurn}
use Rattle.vt_streaming.proofs.Versions.{one_to_one}
use Rattle.vt_sampler.specs.Evidence.{IsBy, AreTrue, AreShown}
use Rattle.vt_sampler.specs.FilterLaws.{IsUnder}
use Rattle.vt_sampler.proofs.Handed.{pixel_is_under}
use Rattle.vt_tiles.specs.Format.{stored}
use Rattle.vt_tiles.specs.StoreViews.{IsStore, IsStoreIfKnown}
use Rattle.vt_tiles.proofs.Stored.{pieces_hold_texels}
use Rattle.vt_sampler.specs.Views.{tile_word}
use Rattle.vt_streaming.proofs.TileWords.{word_is}
use Rattle.vt_sampler.specs.GraceTypes.views.WriterView.{WriterView}
use Rattle.vt_streaming.specs.Notes.{entry_number, IsTrueNote, IsTrueWord}
use Rattle.vt_streaming.specs.Sound.{IsSound}
use Rattle.vt_streaming.specs.Scenes.{Scene}
use Rattle.vt_streaming.specs.Replays.{HasPixels, AreReplayed}
use Rattle.vt_word_notes.specs.Noted.{IsNotedBy}
use Rattle.vt_word_notes.specs.Stored.{IsStored, AreStored}
use Rattle.vt_word_notes.proofs.Brought.{brought}

-- the entry numbers tell the frames
unmapped_by : (o : Option ℕ) → 0 ≡ entry_number o → o ≡ None
unmapped_by None e = refl
unmapped_by (Some frame) e = absurd (omega (arith, e))

mapped_by : (o : Option ℕ) (frame : ℕ) → frame + 1 ≡ entry_number o → o ≡ Some frame
mapped_by None frame e = absurd (omega (arith, e))
mapped_by (Some other) frame e = let same : other ≡ frame = omega (arith, e) in ap Some same

module _ (w : WriterView) (s : Shape) (d : ℕ) (b : List ℕ) (sound : IsSound w) (limits : IsWithinLimits s) (store : IsStore b s d)
    (are : AreStored s d (Some b) w.journal w.contents) where
  in_turn : AreInTurn w.journal
  in_turn = λ v change there. (sound.legal v change there).0

  true_entry : (version page entry : ℕ) → IsNotedBy w (EntryNote version page entry)
      → IsTrueNote w.sizes w.journal (record { version = version; page = page; entry = entry })
  true_entry version page entry says = All-contains (IsTrueNote w.sizes w.journal) w.notes (record { version = version; page = page; entry = entry }) sound.notes says

  true_word : (version frame place word : ℕ) → IsNotedBy w (WordNote version frame place word)
      → IsTrueWord w.journal w.contents (record { version = version; frame = frame; place = place; word = word })
  true_word version frame place word says =
      All-contains (IsTrueWord w.journal w.contents) w.word_notes (record { version = version; frame = frame; place = place; word = word }) sound.word_notes says

  -- a word that was noted of a frame is that of the store's texel, if the version maps the texel's page to the frame
  module _ (version frame word j x y : ℕ) (inside : IsInside s j x y) (mapped : at w.journal version (texel_page s j x y) ≡ Some frame)
      (says : IsNotedBy w (WordNote version frame (place_in_tile s x y) word)) where
    some : 1 ≤ s.tile
    some = let a = limits.least_tile in omega (arith, a)

    there : IsStored s d (Some b) (texel_page s j x y) (true_word version frame (place_in_tile s x y) word says).content
    there =
        let is = true_word version frame (place_in_tile s x y) word says in
        let by = brought w.journal w.contents version is.page frame is.content is.is in
        let same : is.page ≡ texel_page s j x y = one_to_one w.journal version in_turn is.known is.page (texel_page s j x y) frame by.mapped mapped in
        subst (λ (z : ℕ × List ℕ). IsStored s d (Some b) z.0 z.1) (λ i. (same i, by.content_is i)) (are by.by is.page frame by.change)

    stored_word : word ≡ stored b j x y
    stored_word =
        let is = true_word version frame (place_in_tile s x y) word says in
        let low : place_in_tile s x y < s.tile * s.tile = mul-add-lt (y % s.tile) s.tile (x % s.tile) s.tile (mod_below y s.tile some) (mod_below x s.tile some) in
        sym is.word
        ∙ ap (λ (l : List ℕ). get_or l (place_in_tile s x y) 0) there.words
        ∙ get_or-map-range_with_len (tile_word s there.tile) 0 (s.tile * s.tile) (place_in_tile s x y) (place_in_tile s x y) 0 low (omega arith)
        ∙ word_is s d there.tile (place_in_tile s x y) some (there.size ∙ mul_comm (s.tile * s.tile) (texel_length d))
        ∙ pieces_hold_texels s d b there.tile j x y store inside there.of_store there.size

  -- what was noted of a version is true of its table
  pub notes_true : (version : ℕ) → AreTrue s (stored b) (at w.journal version) version (IsNotedBy w)
  notes_true version = record {
    unmapped = λ page says. unmapped_by (at w.journal version page) (true_entry version page 0 says).is;
    mapped = λ page frame says. mapped_by (at w.journal version page) frame (true_entry version page (frame + 1) says).is;
    words = λ frame j x y word inside maps says. stored_word version frame word j x y inside maps says;
  }

-- so what a filter has drawn by what was noted is what it shows under the table
module _ (shown : Shape → ℕ → ℕ → List Note → RowView → ℕ → List ℕ → Type 0) (under : Source → Scene → Table → ℕ → ℕ → ℕ → List ℕ)
    (law : IsUnder shown under) (w : WriterView) where
  module _ (s : Shape) (d : ℕ) (b : List ℕ) (sound : IsSound w) (limits : IsWithinLimits s) (store : IsStore b s d)
      (are : AreStored s d (Some b) w.journal w.contents) (scene : Scene) (same : scene.shape ≡ s) (deep : scene.depth ≡ d) where
    -- of the scene's own texture
    own_limits : IsWithinLimits scene.shape
    own_limits = subst IsWithinLimits (sym same) limits

    own_true : (version : ℕ) → AreTrue scene.shape (stored b) (at w.journal version) version (IsNotedBy w)
    own_true version = subst (λ (t : Shape). AreTrue t (stored b) (at w.journal version) version (IsNotedBy w)) (sym same)
        (notes_true w s d b sound limits store are version)

    pub pixel_replayed : (version i x y : ℕ) (bytes : List ℕ)
        → IsBy (IsNotedBy w) (λ notes. shown s d version notes (shot_row s scene.path i y) x bytes)
        → bytes ≡ under (stored b) scene (at w.journal version) i x y
    pixel_replayed version i x y bytes by =
        pixel_is_under shown under law (stored b) scene (at w.journal version) version (IsNotedBy w) own_limits (own_true version) i x y bytes
        (subst (λ (z : Shape × ℕ). IsBy (IsNotedBy w) (λ notes. shown z.0 z.1 version notes (shot_row z.0 scene.path i y) x bytes))
        (λ i. (sym same i, sym deep i)) by)

    pub row_replayed : (version i n y : ℕ) (bytes : List ℕ) → AreShown shown s d version (IsNotedBy w) (shot_row s scene.path i y) n bytes
        → HasPixels d n (λ x. under (stored b) scene (at w.journal version) i x y) bytes
    row_replayed version i n y bytes are_shown x inside = pixel_replayed version i x y (texel_bytes d bytes x) (are_shown x inside)

  -- the rows of a picture
  pub picture_replayed : (s : Shape) (d : ℕ) (known : Option (List ℕ)) (scene : Scene) (i n : ℕ) (lines : List RowLine) (rows : List (List ℕ))
      → IsSound w → IsWithinLimits s → IsStoreIfKnown known s d → AreStored s d known w.journal w.contents → scene.shape ≡ s → scene.depth ≡ d
      → ((y : ℕ) (line : RowLine) → slice_get lines y ≡ Some line
      → AreShown shown s d line.version (IsNotedBy w) (shot_row s scene.path i y) n (get_or rows y []))
      → IfSome known (λ b. AreReplayed d n (λ m x y. under (stored b) scene m i x y) w.journal lines rows)
  picture_replayed s d None scene i n lines rows sound limits store are same deep drawn = tt
  picture_replayed s d (Some b) scene i n lines rows sound limits store are same deep drawn = λ y line there.
      row_replayed s d b sound limits (store.each b refl) are scene same deep line.version i n y (get_or rows y []) (drawn y line there)

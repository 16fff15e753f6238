-- What a log says of a version is true of its table over the store, and what is drawn by it is the replay.
use Rattle.std.proofs.Common.{◌≡◌, ℕ, suc, ◌+◌, ◌*◌, ◌<◌, List, [], get_or, Option, Some, None, refl, sym, ap, ◌∙◌, subst, arith}
use Rattle.std.specs.Prelude.{slice_get, IfSome}
use Rattle.vt_definitions.specs.Texels.{Source}
use Rattle.vt_journal.specs.Shape.{Shape}
use Rattle.vt_journal.specs.Pages.{texel_page, IsWithinLimits}
use Rattle.vt_journal.specs.Laws.{IsInside}
use Rattle.vt_page_table.specs.Rows.{RowView}
use Rattle.vt_page_table.specs.DrawLookups.{Note, WordNote, place_in_tile}
use Rattle.vt_page_table.specs.Shots.{shot_row}
use Rattle.vt_journal.specs.declared.changes.RowLine.{RowLine}
use Rattle.vt_journal.specs.Changes.{Table, at}
use Rattle.vt_journal.specs.Kept.{entry_of}
use Rattle.vt_journal.proofs.Versions.{one_to_one}
use Rattle.vt_page_table.specs.Evidence.{AreTrue, AreShown}
use Rattle.vt_page_table.specs.FilterLaws.{IsUnder}
use Rattle.vt_page_table.proofs.Handed.{row_is_under}
use Rattle.vt_page_table.specs.Format.{stored}
use Rattle.vt_page_table.specs.StoreViews.{IsStore, IsStoreIfKnown}
use Rattle.vt_page_table.proofs.Stored.{pieces_hold_texels}
use Rattle.vt_page_table.specs.Scenes.{Scene}
use Rattle.vt_page_table.specs.Replays.{HasPixels, AreReplayed}
use Rattle.vt_page_table.specs.Fills.{IsStoredPage}
use Rattle.vt_swap.specs.LogTypes.records.LogRecord.{LogRecord}
use Rattle.vt_swap.specs.Logs.{changes_in, IsLawfulLog}
use Rattle.vt_swap.specs.Notes.{IsSaidBy}
use Rattle.vt_swap_table.specs.Filled.{AreStoredFills}

module _ (log : List LogRecord) (s : Shape) (d : ℕ) (b : List ℕ) (lawful : IsLawfulLog log) (store : IsStore b s d)
    (are : AreStoredFills s d (Some b) log) (version : ℕ) where
  -- a word that is said of a frame is that of the store's texel, if the version maps the texel's page to the frame
  stored_word : (frame j x y word : ℕ) → IsInside s j x y → at (changes_in log) version (texel_page s j x y) ≡ Some frame
      → IsSaidBy log (WordNote version frame (place_in_tile s x y) word) → word ≡ stored b j x y
  stored_word frame j x y word inside mapped said =
      let same : said.page ≡ texel_page s j x y =
      one_to_one (changes_in log) version lawful.in_turn said.known said.page (texel_page s j x y) frame said.mapped mapped in
      let there : IsStoredPage s d (Some b) (texel_page s j x y) said.has.words =
      subst (λ (p : ℕ). IsStoredPage s d (Some b) p said.has.words) same (are said.has.number frame said.page said.has.words said.has.filled) in
      let low : place_in_tile s x y < s.tile * s.tile = (let a = said.has.inside in let n = there.words_of.count in omega (arith, a, n)) in
      sym said.has.word_is ∙ there.words_of.each (place_in_tile s x y) low
      ∙ pieces_hold_texels s d b there.tile j x y store inside there.of_store there.size

  -- what is said of a version is true of its table
  pub said_true : AreTrue s (stored b) (at (changes_in log) version) version (IsSaidBy log)
  said_true = record {
    unmapped = λ page said. sym said.entry_is;
    mapped = λ page frame said.
        let next : frame + 1 ≡ suc frame = omega arith in
        sym said.entry_is ∙ ap entry_of next;
    words = λ frame j x y word inside maps said. stored_word frame j x y word inside maps said;
  }

-- so what a filter has drawn by what is said is what it shows under the table
module _ (shown : Shape → ℕ → ℕ → List Note → RowView → ℕ → List ℕ → Type 0) (under : Source → Scene → Table → ℕ → ℕ → ℕ → List ℕ)
    (law : IsUnder shown under) (log : List LogRecord) where
  module _ (s : Shape) (d : ℕ) (b : List ℕ) (lawful : IsLawfulLog log) (limits : IsWithinLimits s) (store : IsStore b s d)
      (are : AreStoredFills s d (Some b) log) (scene : Scene) (same : scene.shape ≡ s) (deep : scene.depth ≡ d) where
    -- of the scene's own texture
    own_limits : IsWithinLimits scene.shape
    own_limits = subst IsWithinLimits (sym same) limits

    own_true : (version : ℕ) → AreTrue scene.shape (stored b) (at (changes_in log) version) version (IsSaidBy log)
    own_true version = subst (λ (t : Shape). AreTrue t (stored b) (at (changes_in log) version) version (IsSaidBy log)) (sym same)
        (said_true log s d b lawful store are version)

    pub row_replayed : (version i n y : ℕ) (bytes : List ℕ) → AreShown shown s d version (IsSaidBy log) (shot_row s scene.path i y) n bytes
        → HasPixels d n (λ x. under (stored b) scene (at (changes_in log) version) i x y) bytes
    row_replayed version i n y bytes drawn =
        subst (λ (k : ℕ). HasPixels k n (λ x. under (stored b) scene (at (changes_in log) version) i x y) bytes) deep
        (row_is_under shown under law (stored b) scene (at (changes_in log) version) version (IsSaidBy log) own_limits (own_true version) i n y bytes
        (subst (λ (z : Shape × ℕ). AreShown shown z.0 z.1 version (IsSaidBy log) (shot_row z.0 scene.path i y) n bytes)
        (λ j. (sym same j, sym deep j)) drawn))

  -- the rows of a picture
  pub picture_replayed : (s : Shape) (d : ℕ) (known : Option (List ℕ)) (scene : Scene) (i n : ℕ) (lines : List RowLine) (rows : List (List ℕ))
      → IsLawfulLog log → IsWithinLimits s → IsStoreIfKnown known s d → AreStoredFills s d known log → scene.shape ≡ s → scene.depth ≡ d
      → ((y : ℕ) (line : RowLine) → slice_get lines y ≡ Some line
      → AreShown shown s d line.version (IsSaidBy log) (shot_row s scene.path i y) n (get_or rows y []))
      → IfSome known (λ b. AreReplayed d n (λ m x y. under (stored b) scene m i x y) (changes_in log) lines rows)
  picture_replayed s d None scene i n lines rows lawful limits store are same deep drawn = tt
  picture_replayed s d (Some b) scene i n lines rows lawful limits store are same deep drawn = λ y line there.
      row_replayed s d b lawful limits (store.each b refl) are scene same deep line.version i n y (get_or rows y []) (drawn y line there)

-- The tiles that pages were mapped with, and that what a reader had is theirs.
use Rattle.std.proofs.Common.{◌≡◌, Fits, w8, ℕ, zero, suc, ◌+◌, ◌*◌, ◌<◌, ◌≤◌, List, [], ◌∷◌, ◌++◌, length, get_or, Option, Some, None, refl, sym, ap, ◌∙◌, subst, arith}
use Rattle.std.specs.Prelude.{Contains, slice_get}
use Rattle.std.proofs.lemmas.Option.{none-some}
use Rattle.std.proofs.lemmas.List.{get_or_default}
use Rattle.std.proofs.lemmas.List.Elements.{All-contains, Contains-append_left}
use Rattle.std.proofs.lemmas.List.FromFn.{get_or-map-range_with_len}
use Rattle.std.proofs.lemmas.Nat.{mod_below, mul-add-lt}
use Rattle.vt_definitions.specs.Depths.{IsDepth, AreBytes, word_at, word_bytes}
use Rattle.vt_definitions.proofs.TexelWords.{texel_words}
use Rattle.vt_pages.specs.Shape.{Shape}
use Rattle.vt_draw.specs.Lookups.{covering_place}
use Rattle.vt_journal.specs.declared.changes.Change.{Change}
use Rattle.vt_journal.specs.declared.changes.Change.TheVariants.{Map, Unmap}
use Rattle.vt_journal.specs.Changes.{at, AreInTurn}
use Rattle.vt_journal.proofs.Versions.{one_to_one}
use Rattle.vt_table.specs.Views.{tile_word}
use Rattle.vt_table.proofs.TileWords.{word_is}
use Rattle.vt_grace.specs.declared.views.PassView.{PassView}
use Rattle.vt_grace.specs.declared.views.WriterView.{WriterView}
use Rattle.vt_grace.specs.Contents.{backed, frame_in, IsPutBy}
use Rattle.vt_grace.specs.Giving.{after_return}
use Rattle.vt_grace.specs.Notes.{entry_number, IsTrueNote, IsTrueWord}
use Rattle.vt_grace.specs.Sound.{IsSound}
use Rattle.vt_lookup.specs.Notes.{IsNotedIn}
use Rattle.vt_streamer.specs.Fills.{words_in}
use Rattle.vt_streamer.specs.Views.{StreamerView}
use Rattle.vt_texel_runs.specs.declared.points.Point.{Point}
use Rattle.vt_shared.specs.Given.{HasTileLength, IsOfTile, AreOfTiles, IsOfItsTile}
use Rattle.vt_texel_runs.specs.Points.{IsAnswered}

-- what a slice is known to hold are bytes
pub are_bytes : (l : List ℕ) → ((i : ℕ) → Fits w8 (get_or l i 0)) → AreBytes l
are_bytes l each = λ k d inside. subst (λ n. n < 256) (sym (get_or_default l k d 0 inside)) (each k).fits

-- nothing is mapped
pub no_tiles : (s : Shape) (d : ℕ) (journal : List Change) (contents : List (List ℕ)) → journal ≡ [] → AreOfTiles s d journal contents
no_tiles s d journal contents e k page frame is = absurd (none-some (Map page frame) (ap (λ (js : List Change). slice_get js k) (sym e) ∙ is))

-- under other names
pub tiles_moved : (s t : Shape) (d : ℕ) (journal same : List Change) (contents alike : List (List ℕ)) → t ≡ s → same ≡ journal → alike ≡ contents
    → AreOfTiles s d journal contents → AreOfTiles t d same alike
tiles_moved s t d journal same contents alike shape js cs h =
    subst (λ (z : Shape). AreOfTiles z d same alike) (sym shape)
    (subst (λ (l : List Change). AreOfTiles s d l alike) (sym js)
    (subst (λ (l : List (List ℕ)). AreOfTiles s d journal l) (sym cs) h))

tiles_grow : (s : Shape) (d : ℕ) (journal added : List Change) (contents more : List (List ℕ)) → length contents ≡ length journal
    → AreOfTiles s d journal contents → AreOfTiles s d added more → AreOfTiles s d (journal ++ added) (contents ++ more)
tiles_grow s d [] added [] more long old new k page frame is = new k page frame is
tiles_grow s d [] added (c ∷ contents) more long old new k page frame is = absurd (omega (arith, long))
tiles_grow s d (j ∷ journal) added [] more long old new k page frame is = absurd (omega (arith, long))
tiles_grow s d (j ∷ journal) added (c ∷ contents) more long old new zero page frame is = old zero page frame is
tiles_grow s d (j ∷ journal) added (c ∷ contents) more long old new (suc k) page frame is =
    tiles_grow s d journal added contents more (omega (arith, long)) (λ i p f at. old (suc i) p f at) new k page frame is

mapped_tile : (s : Shape) (d : ℕ) (change : Change) (content : List ℕ) → IsOfTile s d content → AreOfTiles s d (change ∷ []) (content ∷ [])
mapped_tile s d change content of zero page frame is = of
mapped_tile s d change content of (suc k) page frame is = absurd (none-some (Map page frame) is)

abbrev maps : Option Change → ℕ
maps None = 0
maps (Some (Map page frame)) = 1
maps (Some (Unmap page frame)) = 0

unmapped_tile : (s : Shape) (d page frame : ℕ) → AreOfTiles s d (Unmap page frame ∷ []) ([] ∷ [])
unmapped_tile s d page frame zero p f is = let e : 0 ≡ 1 = ap maps is in absurd (omega (arith, e))
unmapped_tile s d page frame (suc k) p f is = absurd (none-some (Map p f) is)

-- a page more was mapped with a tile
pub tiles_mapped : (s : Shape) (d page frame : ℕ) (tile : List ℕ) (journal : List Change) (contents : List (List ℕ)) → length contents ≡ length journal
    → HasTileLength s d (length tile) → AreBytes tile → AreOfTiles s d journal contents
    → AreOfTiles s d (journal ++ Map page frame ∷ []) (contents ++ words_in s tile ∷ [])
tiles_mapped s d page frame tile journal contents long size bytes h =
    tiles_grow s d journal (Map page frame ∷ []) contents (words_in s tile ∷ []) long h
    (mapped_tile s d (Map page frame) (words_in s tile) (record { tile = tile; size = size; bytes = bytes; words = refl }))

-- or one was taken out of its frame
pub tiles_unmapped : (s : Shape) (d page frame : ℕ) (journal : List Change) (contents : List (List ℕ)) → length contents ≡ length journal
    → AreOfTiles s d journal contents → AreOfTiles s d (journal ++ Unmap page frame ∷ []) (contents ++ [] ∷ [])
tiles_unmapped s d page frame journal contents long h =
    tiles_grow s d journal (Unmap page frame ∷ []) contents ([] ∷ []) long h (unmapped_tile s d page frame)

-- the entry numbers tell the frames
unmapped_by : (o : Option ℕ) → 0 ≡ entry_number o → o ≡ None
unmapped_by None e = refl
unmapped_by (Some frame) e = absurd (omega (arith, e))

mapped_by : (o : Option ℕ) (frame : ℕ) → frame + 1 ≡ entry_number o → o ≡ Some frame
mapped_by None frame e = absurd (omega (arith, e))
mapped_by (Some other) frame e = let same : other ≡ frame = omega (arith, e) in ap Some same

module _ (w : WriterView) (q : PassView) (sound : IsSound (after_return w q))
    (backed-at : (js : List Change) (cs : List (List ℕ)) (v p : ℕ) → at js v p ≡ frame_in (backed js cs v p))
    (put_by : (js : List Change) (cs : List (List ℕ)) (v p g : ℕ) (c : List ℕ) → backed js cs v p ≡ Some (g, c) → IsPutBy js cs v p g c) where
  in_turn : AreInTurn w.journal
  in_turn = λ v change there. (sound.legal v change there).0

  true_entry : (version page entry : ℕ) → Contains q.notes (record { version = version; page = page; entry = entry })
      → IsTrueNote w.sizes w.journal (record { version = version; page = page; entry = entry })
  true_entry version page entry has = All-contains (IsTrueNote w.sizes w.journal) (q.notes ++ w.notes) (record { version = version; page = page; entry = entry })
      sound.notes (Contains-append_left q.notes w.notes (record { version = version; page = page; entry = entry }) has)

  true_word : (version frame place word : ℕ) → Contains q.word_notes (record { version = version; frame = frame; place = place; word = word })
      → IsTrueWord w.journal w.contents (record { version = version; frame = frame; place = place; word = word })
  true_word version frame place word has = All-contains (IsTrueWord w.journal w.contents) (q.word_notes ++ w.word_notes)
      (record { version = version; frame = frame; place = place; word = word }) sound.word_notes
      (Contains-append_left q.word_notes w.word_notes (record { version = version; frame = frame; place = place; word = word }) has)

  -- a texel that was noted by a pass that was taken back is that of its tile
  pub of_its_tile : (s : Shape) (d version : ℕ) (p : Point) (bytes : List ℕ) → IsDepth d → 2 ≤ s.tile → AreOfTiles s d w.journal w.contents
      → IsAnswered s d version (IsNotedIn q) p bytes → IsOfItsTile s d w.journal w.contents version p bytes
  of_its_tile s d version p bytes deep least are h =
      let some : 1 ≤ s.tile = omega (arith, least) in
      let f = h.found in
      let place : ℕ = covering_place s f.level p.x p.y in
      let entry = true_entry version f.page (f.slot + 1) h.finest.mapped in
      let mapped : at w.journal version f.page ≡ Some f.slot = mapped_by (at w.journal version f.page) f.slot entry.is in
      let word = true_word version f.slot place h.word h.read in
      let by = put_by w.journal w.contents version word.page f.slot word.content word.is in
      let frame : at w.journal version word.page ≡ Some f.slot = backed-at w.journal w.contents version word.page ∙ ap frame_in word.is in
      let same : word.page ≡ f.page = one_to_one w.journal version in_turn entry.known word.page f.page f.slot frame mapped in
      let of : IsOfTile s d (get_or w.contents by.by []) = are by.by word.page f.slot by.change in
      let content : word.content ≡ words_in s of.tile = sym by.brought ∙ of.words in
      let low : place < s.tile * s.tile = mul-add-lt _ s.tile _ s.tile (mod_below _ s.tile some) (mod_below _ s.tile some) in
      let is : h.word ≡ word_at d of.tile place =
      sym word.word
      ∙ ap (λ (l : List ℕ). get_or l place 0) content
      ∙ get_or-map-range_with_len (tile_word s of.tile) 0 (s.tile * s.tile) place place 0 low (omega arith)
      ∙ word_is s d of.tile place some of.size in
      record {
        page = f.page;
        frame = f.slot;
        level = f.level;
        known = entry.known;
        no_finer = h.finest.no_finer;
        page_is = h.finest.page;
        unmapped = λ k from to. unmapped_by (at w.journal version _) (true_entry version _ 0 (h.finest.unmapped k from to)).is;
        mapped = mapped;
        tile = of.tile;
        size = of.size;
        given = subst (λ (z : ℕ × List ℕ). IsPutBy w.journal w.contents version z.0 f.slot z.1) (λ i. (same i, content i)) by;
        texel = h.shown ∙ ap (word_bytes d) is ∙ texel_words d of.tile place deep of.bytes;
      }

-- so it is for the streamer that took the pass back
pub pass_noted_back : (v x : StreamerView) (q left : PassView) (d : ℕ) → x ≡ record v { writer = after_return v.writer q } → q ≡ left → IsSound x.writer
    → ((js : List Change) (cs : List (List ℕ)) (u p : ℕ) → at js u p ≡ frame_in (backed js cs u p))
    → ((js : List Change) (cs : List (List ℕ)) (u p g : ℕ) (c : List ℕ) → backed js cs u p ≡ Some (g, c) → IsPutBy js cs u p g c)
    → IsDepth d → 2 ≤ v.shape.tile → AreOfTiles v.shape d v.writer.journal v.writer.contents
    → (version : ℕ) (p : Point) (bytes : List ℕ) → IsAnswered x.shape d version (IsNotedIn left) p bytes
    → IsOfItsTile x.shape d x.writer.journal x.writer.contents version p bytes
pass_noted_back v x q left d e same sound frames puts deep least are version p bytes h =
    let P : StreamerView → Type 0 = λ y. IsSound y.writer → IsAnswered y.shape d version (IsNotedIn q) p bytes
    → IsOfItsTile y.shape d y.writer.journal y.writer.contents version p bytes in
    subst P (sym e) (λ is answered. of_its_tile v.writer q is frames puts v.shape d version p bytes deep least are answered) sound
    (subst (λ (r : PassView). IsAnswered x.shape d version (IsNotedIn r) p bytes) (sym same) h)

-- Each page was mapped with the words of a tile, over the steps of the owner.
use Rattle.std.proofs.Common.{◌≡◌, ℕ, List, [], ◌∷◌, ◌++◌, length, ap, ◌∙◌}
use Rattle.vt_definitions.specs.Depths.{AreBytes}
use Rattle.vt_journal.specs.declared.changes.Change.{Change}
use Rattle.vt_journal.specs.declared.changes.Change.TheVariants.{Map, Unmap}
use Rattle.vt_grace.specs.declared.sizes.Sizes.{Sizes}
use Rattle.vt_grace.specs.Places.{frame_words}
use Rattle.vt_streamer.specs.Banks.{HasPublished}
use Rattle.vt_streamer.specs.Fills.{words_in}
use Rattle.vt_streamer.specs.Views.{StreamerView}
use Rattle.vt_shared.specs.Given.{HasTileLength, AreOfTiles}
use Rattle.vt_shared.proofs.Keeping.{HasSame}
use Rattle.vt_shared.proofs.Tiles.{tiles_moved, tiles_mapped, tiles_unmapped}

-- nothing was published
pub given_same : (d : ℕ) (u x : StreamerView) → HasSame u x → AreOfTiles u.shape d u.writer.journal u.writer.contents
    → AreOfTiles x.shape d x.writer.journal x.writer.contents
given_same d u x same h =
    tiles_moved u.shape x.shape d u.writer.journal x.writer.journal u.writer.contents x.writer.contents same.kept.shape same.journal same.contents h

-- a page was mapped
pub given_mapped : (z : Sizes) (d : ℕ) (u w x : StreamerView) (page frame : ℕ) (tile : List ℕ) → HasSame u w → w.writer.sizes ≡ z
    → frame_words z w.writer.texels frame ≡ words_in u.shape tile → HasPublished w.writer x.writer (Map page frame) → x.shape ≡ w.shape
    → length u.writer.contents ≡ length u.writer.journal → HasTileLength u.shape d (length tile) → AreBytes tile
    → AreOfTiles u.shape d u.writer.journal u.writer.contents → AreOfTiles x.shape d x.writer.journal x.writer.contents
given_mapped z d u w x page frame tile same sizes content h shape long size bytes given =
    let brought : frame_words w.writer.sizes w.writer.texels frame ≡ words_in u.shape tile =
    ap (λ (y : Sizes). frame_words y w.writer.texels frame) sizes ∙ content in
    tiles_moved u.shape x.shape d (u.writer.journal ++ Map page frame ∷ []) x.writer.journal (u.writer.contents ++ words_in u.shape tile ∷ []) x.writer.contents
    (shape ∙ same.kept.shape)
    (h.journal ∙ ap (λ (js : List Change). js ++ Map page frame ∷ []) same.journal)
    (h.contents ∙ (λ i. same.contents i ++ brought i ∷ []))
    (tiles_mapped u.shape d page frame tile u.writer.journal u.writer.contents long size bytes given)

-- a page was taken out of its frame
pub given_unmapped : (d : ℕ) (u w x : StreamerView) (page frame : ℕ) → HasSame u w → HasPublished w.writer x.writer (Unmap page frame) → x.shape ≡ w.shape
    → length u.writer.contents ≡ length u.writer.journal → AreOfTiles u.shape d u.writer.journal u.writer.contents
    → AreOfTiles x.shape d x.writer.journal x.writer.contents
given_unmapped d u w x page frame same h shape long given =
    tiles_moved u.shape x.shape d (u.writer.journal ++ Unmap page frame ∷ []) x.writer.journal (u.writer.contents ++ [] ∷ []) x.writer.contents
    (shape ∙ same.kept.shape)
    (h.journal ∙ ap (λ (js : List Change). js ++ Unmap page frame ∷ []) same.journal)
    (h.contents ∙ ap (λ (cs : List (List ℕ)). cs ++ [] ∷ []) same.contents)
    (tiles_unmapped u.shape d page frame u.writer.journal u.writer.contents long given)

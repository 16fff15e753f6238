-- A page that was placed while no sampler has a pass.
use Rattle.std.specs.Prelude.{◌≡◌, ℕ, List, [], ◌∷◌, ◌++◌}
use Rattle.vt_journal.specs.declared.changes.Change.TheVariants.{Map}
use Rattle.vt_streamer.specs.Fills.{words_in}
use Rattle.vt_streamer.specs.Views.{StreamerView}

-- a page was mapped to a frame, with the words of a tile; no pass was given or taken back
pub record HasPlaced (v w : StreamerView) (page frame : ℕ) (tile : List ℕ) : Type 0 where
  pub journal : w.writer.journal ≡ v.writer.journal ++ Map page frame ∷ []
  pub contents : w.writer.contents ≡ v.writer.contents ++ words_in v.shape tile ∷ []
  pub shape : w.shape ≡ v.shape
  pub out : w.writer.out ≡ v.writer.out

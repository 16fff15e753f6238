use Rattle.std.proofs.Common.{◌∙◌, sym, ap, ℕ, List}
use Rattle.vt_table.specs.Views.{tile_word}
use Rattle.vt_table.proofs.TileWords.{word_is}
use Rattle.vt_table.proofs.table.StillTable.word.Goals as goal

pub returns : goal.returns
returns c = record {
  word =
      let s = c.args.self.now.shape in
      let tile = c.tile-depth.result.0.now in
      c.word_in.ensures
      ∙ sym (word_is s c.tile-depth.result.1 tile c.args.place c.tile-depth.ensures.side c.tile-depth.ensures.full)
      ∙ ap (λ (t : List ℕ). tile_word s t c.args.place) c.tile-depth.ensures.tile;
}

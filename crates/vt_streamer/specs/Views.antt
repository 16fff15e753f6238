-- What contracts see of a streamer.
use Rattle.std.specs.Prelude.{◌≡◌, ℕ, List, [], length}
use Rattle.atomic_table.specs.Seated.{TableId}
use Rattle.vt_table.specs.Shape.{Shape}
use Rattle.vt_grace.specs.declared.views.WriterView.{WriterView}
use Rattle.vt_grace.specs.Sizes.{AreWithinLimits, sizes_of}
use Rattle.vt_grace.specs.Values.{WordsValue}
use Rattle.vt_grace.specs.Sound.{IsSound}
use Rattle.vt_table.specs.Views.{TableView, IsTable}

-- of which words it is, the shape of the pages, what the writer knows, the room for more changes where the journal is kept (else 0), and
-- for each frame 1 more than the page for which it was filled since it could be, or 0
pub record StreamerView : Type 0 where
  pub table : TableId
  pub shape : Shape
  pub writer : WriterView
  pub spare : ℕ
  pub owners : List ℕ

-- it keeps its journal, with so much room for more changes
abbrev pub with_room : StreamerView → ℕ → StreamerView
with_room v room = record v { spare = room }

-- its page table, as that of a table that changes only between draws; the frames hold words here, and no bytes of tiles
abbrev pub streamer_table : StreamerView → TableView
streamer_table v = record {
  shape = v.shape;
  frames = length v.owners;
  changes = v.writer.journal;
  spare = v.spare;
  tiles = [];
  owners = v.owners;
}

-- it is the streamer of these words
pub record IsStreamerOf (words : WordsValue) (v : StreamerView) : Type 0 where
  pub table : v.table ≡ words.table
  pub seen : v.writer.sizes ≡ words.sizes
  pub sizes : words.sizes ≡ sizes_of v.shape (length v.owners) words.sizes.samplers
  pub limits : AreWithinLimits words.sizes
  pub sound : IsSound v.writer
  pub lawful : IsTable (streamer_table v)

-- What the writer of a table keeps beside its view.
use Rattle.std.specs.Prelude.{◌≡◌, ℕ, ◌<◌, List, length, slice_index}
use Rattle.vt_table.specs.Shape.{Shape}
use Rattle.vt_table.specs.Pages.{pages_of}
use Rattle.vt_table.specs.Changes.{newest, IsFree}
use Rattle.vt_table.specs.JournalKept.{entries_of}
use Rattle.vt_table.specs.Views.{IsTable}
use Rattle.vt_grace.specs.Values.{WriterValue}
use Rattle.vt_grace.specs.Sizes.{sizes_of}
use Rattle.vt_grace.specs.Sound.{IsSound}
use Rattle.vt_streamer.specs.Banks.{AreChangesInside, AreRotated}
use Rattle.vt_streamer.specs.Frees.{IsFreeSince}
use Rattle.vt_streamer.specs.declared.latest.Latest.{Latest}
use Rattle.vt_streamer.specs.Latests.{AreLatest}
use Rattle.vt_streamer.specs.Views.{StreamerView, streamer_table}

-- what is seen of what is kept
abbrev pub streamer_view_of : Shape → WriterValue → List ℕ → StreamerView
streamer_view_of s seat owners = record { table = seat.table; shape = s; writer = seat.view; spare = 0; owners = owners }

-- what is kept is the writer's: the last three changes, its floors, for each page the number of its frame, and for each free frame since when
-- it is free
pub record IsStreamerKept (v : StreamerView) (samplers : ℕ) (latest : Latest) (entries floors since : List ℕ) : Type 0 where
  pub lawful : IsTable (streamer_table v)
  pub sound : IsSound v.writer
  pub sizes : v.writer.sizes ≡ sizes_of v.shape (length v.owners) samplers
  pub last_three : AreLatest v.writer.journal latest
  pub inside : AreChangesInside v.writer.sizes v.writer.journal
  pub rotated : AreRotated v.writer
  pub all_floors : floors ≡ v.writer.floors
  pub all_entries : length entries ≡ pages_of v.shape
  pub agrees : entries_of entries ≡ newest v.writer.journal
  pub all_since : length since ≡ length v.owners
  pub free : (frame : ℕ) → frame < length v.owners → IsFree (newest v.writer.journal) frame → IsFreeSince v.writer.journal frame (slice_index since frame)

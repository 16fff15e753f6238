-- What an entry that is put into a page table does.
use Rattle.std.specs.Prelude.{◌≡◌, ◌++◌, List}
use Rattle.vt_table.specs.JournalTypes.changes.Event.{Event}
use Rattle.vt_machine.specs.JournalText.{changes_of}
use Rattle.vt_table.specs.Views.{TableView}

-- the changes of some events were made, and the events noted
pub record Publishes (made : List Event) (v w : TableView) (before after : List Event) : Type 0 where
  pub changes : w.changes ≡ v.changes ++ changes_of made
  pub events : after ≡ before ++ made
  pub shape : w.shape ≡ v.shape
  pub frames : w.frames ≡ v.frames

-- A table whose journal is kept, by what is seen of its writer.
use Rattle.std.proofs.Common.{◌≡◌, ℕ, sym, subst}
use Rattle.vt_table.specs.JournalTypes.changes.Change.{Change}
use Rattle.vt_table.specs.JournalTypes.changes.Change.TheVariants.{Map, Unmap}
use Rattle.vt_table.specs.Views.{IsTableChange, IsReady}
use Rattle.vt_table.proofs.Lawful.{table_spared}
use Rattle.vt_grace.specs.Values.{WordsValue}
use Rattle.vt_streamer.specs.Views.{StreamerView, with_room, streamer_table, IsStreamerOf}

-- room says nothing of the words
pub of_spared : (words : WordsValue) (v : StreamerView) (room : ℕ) → IsStreamerOf words v → IsStreamerOf words (with_room v room)
of_spared words v room of = record {
  table = of.table;
  seen = of.seen;
  sizes = of.sizes;
  limits = of.limits;
  sound = of.sound;
  lawful = table_spared (streamer_table v) room of.lawful;
}

pub of_table : (words : WordsValue) (t : StreamerView) (room : ℕ) (v : StreamerView) → with_room t room ≡ v → IsStreamerOf words v → IsStreamerOf words t
of_table words t room v is of = let h = subst (IsStreamerOf words) (sym is) of in record {
  table = h.table;
  seen = h.seen;
  sizes = h.sizes;
  limits = h.limits;
  sound = h.sound;
  lawful = table_spared (streamer_table (with_room t room)) t.spare h.lawful;
}

pub within_table : (t : StreamerView) (room : ℕ) (v : StreamerView) (change : Change) → with_room t room ≡ v → IsTableChange (streamer_table v) change → IsTableChange (streamer_table t) change
within_table t room v change is within =
    let h = subst (λ (x : StreamerView). IsTableChange (streamer_table x) change) (sym is) within in record { page_inside = h.page_inside; frame_inside = h.frame_inside }

ready_room : (t : StreamerView) (room : ℕ) (change : Change) → IsReady (streamer_table (with_room t room)) change → IsReady (streamer_table t) change
ready_room t room (Map page frame) h = h
ready_room t room (Unmap page frame) h = h

pub ready_table : (t : StreamerView) (room : ℕ) (v : StreamerView) (change : Change) → with_room t room ≡ v → IsReady (streamer_table v) change → IsReady (streamer_table t) change
ready_table t room v change is ready = ready_room t room change (subst (λ (x : StreamerView). IsReady (streamer_table x) change) (sym is) ready)

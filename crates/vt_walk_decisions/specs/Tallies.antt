-- What a walk has counted of a picture's passes.
use Rattle.std.specs.Prelude.{◌+◌, Bool, true, false, List, count_by}
use Rattle.vt_journal.specs.declared.changes.Change.TheVariants.{Map, Unmap}
use Rattle.vt_journal.specs.declared.changes.Event.{Event}
use Rattle.vt_journal.specs.declared.changes.Event.TheVariants.{Changed, Lost}
use Rattle.vt_walk_decisions.specs.declared.tallies.Tally.{Tally}

-- a page was mapped
abbrev pub is_load : Event → Bool
is_load (Changed (Map page frame)) = true
is_load (Changed (Unmap page frame)) = false
is_load (Lost page) = false

-- a page was unmapped
abbrev pub is_eviction : Event → Bool
is_eviction (Changed (Map page frame)) = false
is_eviction (Changed (Unmap page frame)) = true
is_eviction (Lost page) = false

-- a page was lost
abbrev pub is_loss : Event → Bool
is_loss (Changed change) = false
is_loss (Lost page) = true

-- the tally of no passes
abbrev pub no_passes : Tally
no_passes = record { passes = 0; loaded = 0; lost = 0; evicted = 0 }

-- the tally with the events of one more pass
abbrev pub with_pass : List Event → Tally → Tally
with_pass events t = record {
  passes = t.passes + 1;
  loaded = t.loaded + count_by is_load events;
  lost = t.lost + count_by is_loss events;
  evicted = t.evicted + count_by is_eviction events;
}

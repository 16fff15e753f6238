use Rattle.std.proofs.Common.{◌≡◌, ◌+◌, ◌≤◌, length}
use Rattle.vt_swap_steps.specs.Caches.{cache_of}
use Rattle.vt_swap_steps.specs.Slots.{AreFirstSlots}
use Rattle.vt_swap.proofs.making.new_slots.Given as goal

abbrev pub invariant-loop-frame : goal.invariant-loop-frame
invariant-loop-frame l = record {
  slots : AreFirstSlots (cache_of l.front) l.slots.elements;
  count : length l.slots.elements ≡ l.frame;
  room : l.front.frames ≤ l.frame + l.slots.spare;
}

use Rattle.std.proofs.Common.{◌≡◌, ℕ, ◌&&◌, nat_le, nat_lt}
use Rattle.vt_plan.specs.PageLists.{is_in}
use Rattle.vt_evict.proofs.recency.frames_from.Given as goal

abbrev pub invariant-loop-frame : goal.invariant-loop-frame
invariant-loop-frame l = (f : ℕ) → is_in l.free.keys f ≡ (nat_le l.fn.first f && nat_lt f l.frame)

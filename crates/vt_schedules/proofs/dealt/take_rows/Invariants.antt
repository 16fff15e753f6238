use Rattle.std.proofs.Common.{◌≡◌, ℕ, ◌+◌, ◌<◌, ◌≤◌, length, get_or, take}
use Rattle.vt_schedules.specs.declared.bag.RowJob.{RowJob}
use Rattle.vt_schedules.proofs.dealt.take_rows.Given as goal

abbrev pub invariant-loop-y : goal.invariant-loop-y
invariant-loop-y l = record {
  list : l.list.elements ≡ take l.y l.fn.jobs;
  room : length l.fn.jobs ≤ l.y + l.list.spare;
  rest : (k : ℕ) (d : RowJob) → l.y ≤ k → k < length l.fn.jobs → get_or l.jobs k d ≡ get_or l.fn.jobs k d;
}

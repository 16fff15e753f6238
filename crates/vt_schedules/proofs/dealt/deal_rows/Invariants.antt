use Rattle.std.proofs.Common.{◌≡◌, ◌≢◌, ℕ, ◌+◌, ◌-◌, ◌*◌, ◌<◌, ◌≤◌, length, get_or}
use Rattle.vt_definitions.specs.Dealing.{sampler_of}
use Rattle.vt_schedules.specs.declared.bag.RowJob.{RowJob}
use Rattle.vt_schedules.specs.Dealt.{AreOwnInPlace}
use Rattle.vt_schedules.proofs.Dealing.{HasRest}
use Rattle.vt_schedules.proofs.dealt.deal_rows.Given as goal

abbrev pub invariant-loop-i : goal.invariant-loop-i
invariant-loop-i l = record {
  number : length l.jobs ≡ length l.fn.jobs;
  others : (y : ℕ) (d : RowJob) → sampler_of y l.samplers ≢ l.number → get_or l.jobs y d ≡ get_or l.fn.jobs y d;
  front : (y : ℕ) (d : RowJob) → y < (l.rows - l.i) * l.samplers + l.number → get_or l.jobs y d ≡ get_or l.fn.jobs y d;
  room : l.rows ≤ l.i + l.own.spare;
  rest : (height line : ℕ) → length l.fn.jobs ≡ height → AreOwnInPlace height line l.samplers l.number l.fn.jobs
      → HasRest height line l.samplers l.number (l.rows - l.i) l.own.elements;
}

-- The laws of ways to rows that are dealt.
use Rattle.std.proofs.Common.{ℕ, List, [], sym}
use Rattle.std.proofs.lemmas.List.{append-nil}
use Rattle.vt_schedules.specs.declared.bag.RowJob.{RowJob}
use Rattle.vt_schedules.specs.SharedRows.{rows_of}
use Rattle.vt_schedules.specs.declared.dealt.DealtWay.{DealtWay}
use Rattle.vt_schedules.specs.Dealt.{TookDealt, AreDealt, AreDealtWays}

pub took_dealt_none : (own : List RowJob) → TookDealt own own []
took_dealt_none own = sym (append-nil (rows_of own))

pub dealt_ways : (height line samplers : ℕ) (owns : List DealtWay) (jobs : List RowJob) → AreDealt height line samplers owns jobs
    → AreDealtWays height samplers owns
dealt_ways height line samplers owns jobs dealt = record { some = dealt.some; each = dealt.each }

use Rattle.vt_schedules.proofs.Taken.{taken_once, taken_rise}
use Rattle.vt_schedules.proofs.laws.each_row_is_taken_once.Goals as goal

pub returns : goal.returns
returns c = record {
  once = λ height line v whole empty put. taken_once height line v whole empty put;
  rise = λ height line v got whole empty put among rise. taken_rise height line v whole empty put got among rise;
}

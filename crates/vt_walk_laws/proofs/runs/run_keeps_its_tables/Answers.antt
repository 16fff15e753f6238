use Rattle.vt_walk.proofs.Running.{run_kept}
use Rattle.vt_walk_laws.proofs.runs.run_keeps_its_tables.Goals as goal

pub returns : goal.returns
returns c = record {
  table = λ w passes h run. (run_kept w passes h run).table;
  agrees = λ w passes h run. (run_kept w passes h run).agrees;
  shape = λ w passes h run. (run_kept w passes h run).shape;
  frames = λ w passes h run. (run_kept w passes h run).frames;
  pinned = λ w passes h run. (run_kept w passes h run).pinned;
}

use Rattle.vt_walk_laws.proofs.WholeRuns.{passes_are_one, reads_are_one}
use Rattle.vt_walk_laws.proofs.runs.whole_runs_count_alike.Goals as goal

pub returns : goal.returns
returns c = record { passes = passes_are_one; reads = reads_are_one }

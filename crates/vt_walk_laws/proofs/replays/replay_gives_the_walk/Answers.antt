use Rattle.vt_walk.specs.DrawnBy.{IsDrawnBySome}
use Rattle.vt_walk_laws.proofs.Walked.{run_replayable, count_read, expected_read, named_stand, left_again}
use Rattle.vt_walk_laws.proofs.replays.replay_gives_the_walk.Goals as goal

pub returns : goal.returns
returns g c = record {
  replayable = λ under given b first last store h walk. run_replayable under given b walk.run store h walk.is_run;
  count = λ under given b first last content store h walk. count_read under given b walk.run content store h walk.is_run walk.whole;
  expected = λ under given b prefix first last content store h walk.
      expected_read under (IsDrawnBySome g.M.PassMachine) given b prefix walk.run walk.pictures content store h walk.is_run walk.whole walk.all walk.written;
  files = named_stand;
  again = λ under. left_again under (IsDrawnBySome g.M.PassMachine);
}

use Rattle.vt_requests.proofs.BatchRounds.{tickets_once, results_of_entries, round_outcome, round_read}
use Rattle.vt_requests.proofs.rounds.rounds_are_passes.Goals as goal

pub returns : goal.returns
returns g c = record {
  tickets = λ s d known r batch served requests. tickets_once g.F.File s d known r served batch requests;
  entries = λ s d known r batch served requests. results_of_entries g.F.File s d known r served batch requests;
  outcome = λ s d known r batch losses events served requests losses_are is. round_outcome g.F.File s d known r served batch requests losses losses_are events is;
  read = λ s d known r batch losses served requests losses_are. round_read g.F.File s d known r served batch requests losses losses_are;
}

-- What is told of a batch before it is streamed.
use Rattle.std.specs.Prelude.{◌≡◌, ℕ, ◌*◌, ◌≤◌, false, [], length, All}
use Rattle.vt_requests.specs.declared.report.StreamReport.{StreamReport}

-- nothing is told yet of so many entries, and there is room for what streaming them tells
pub record IsBlank (count : ℕ) (r : StreamReport) : Type 0 where
  pub losses : length r.losses.elements ≡ count
  pub none_lost : All (λ lost. lost ≡ false) r.losses.elements
  pub flags : length r.taken.elements ≡ count
  pub none_taken : All (λ flag. flag ≡ false) r.taken.elements
  pub no_results : r.results.elements ≡ []
  pub results_room : count ≤ r.results.spare
  pub events_room : 2 * count ≤ r.events.spare

-- The stages between two calls.
use Rattle.std.specs.Prelude.{◌≡◌, ℕ, ◌<◌, ◌≤◌, All}
use Rattle.atomic_table.specs.declared.shared.Seat.{Seat}
use Rattle.vt_grace.specs.declared.views.Stage.TheVariants.{Idle, Holding}
use Rattle.vt_grace.specs.declared.views.View.{View}
use Rattle.vt_grace.specs.Seats.{pass_at}
use Rattle.vt_grace.specs.Stages.{hint_of}

-- the pass of the sampler holds nothing
pub record HoldsNothing (s : Seat (Unit {0}) View) (who : ℕ) : Type 0 where
  pub stage : (pass_at s).stage ≡ Idle
  pub sampler : (pass_at s).sampler ≡ who
  pub inside : who < (pass_at s).sizes.samplers
  pub small : All (λ n. n.entry ≤ (pass_at s).sizes.frames) (pass_at s).notes

-- the pass of the sampler holds the version
pub record IsHolding (s : Seat (Unit {0}) View) (who version : ℕ) : Type 0 where
  pub stage : (pass_at s).stage ≡ Holding (hint_of (pass_at s).stage) version
  pub sampler : (pass_at s).sampler ≡ who
  pub inside : who < (pass_at s).sizes.samplers
  pub small : All (λ n. n.entry ≤ (pass_at s).sizes.frames) (pass_at s).notes

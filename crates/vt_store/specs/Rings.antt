-- The rings of a round.
use Rattle.std.specs.Prelude.{◌≡◌, []}
use Rattle.rtrb.specs.declared.consumer.Consumer.{Consumer}
use Rattle.rtrb.specs.declared.producer.Producer.{Producer}
use Rattle.rtrb.specs.Ring.{IsPair, received, sent}

-- the two ends of a ring through which nothing went
pub record AreNewRings {T A P : Type 0} (made : Producer T A P) (added : Consumer T A P) : Type 0 where
  pub pair : IsPair made added
  pub sent : sent made ≡ []
  pub received : received added ≡ []

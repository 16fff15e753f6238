use Rattle.std.proofs.Common.{ap, sym, None, refl}
use Rattle.std.proofs.lemmas.Option.{slice_get-get_or}
use Rattle.vt_machine.specs.PlanTypes.batches.Planned.{Planned}
use Rattle.vt_requests.specs.BatchRounds.{page_if}
use Rattle.vt_requests.proofs.asks.request_for.Goals as goal

pub returns : goal.returns
returns c = let blank : Planned = record { page = 0; frame = 0; victim = None } in record {
  ticket = refl;
  page = ap page_if (sym (slice_get-get_or c.args.batch.now c.args.ticket blank c.requires.inside));
  buffer = c.in-Some.ensures.some;
  room = c.in-Some.ensures.spare;
}

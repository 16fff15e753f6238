use Rattle.std.proofs.Common.{sym, arith, ap, ◌∙◌}
use Rattle.vt_grace.specs.Seats.{Sat}
use Rattle.vt_grace.specs.Giving.{taken}
use Rattle.vt_grace.proofs.WriterSteps.{learns}
use Rattle.vt_grace.proofs.GivingSteps.{takes_back_at}
use Rattle.vt_grace.proofs.tokens.WriterSeat.take_back.Goals as goal

pub join_seat-requires : goal.join_seat-requires
join_seat-requires c = let wide = c.words.invariant.0 in (
  ap (λ v. v.table) c.self.view_is ∙ (c.requires.of.table ∙ sym (ap (λ v. v.table) c.words.view_is)),
  ap (λ v. v.table) c.pass.view_is ∙ (c.requires.pass_of.table ∙ sym (ap (λ v. v.table) c.words.view_is)),
  ap (λ m. m.1) c.pass.invariant.0,
  omega arith,
  takes_back_at _ _ _ _ _ _ _ c.self.invariant.0 c.pass.invariant.0 c.pass.invariant.1.stage,
)

pub load-requires : goal.load-requires
load-requires c = let wide = c.words.invariant.0 in (
  c.join_seat.ensures.0 ∙ (ap (λ v. v.table) c.self.view_is ∙ (c.requires.of.table ∙ sym (ap (λ v. v.table) c.words.view_is))),
  omega arith,
  learns _ _ _ _ _ _ (c.join_seat.ensures.2 ∙ ap (λ (z : Sat × Sat). let x : Sat = (taken z.0.0 z.1.0, z.0.1) in x) (λ i. (c.self.invariant.0 i, c.pass.invariant.0 i))),
)

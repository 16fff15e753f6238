use Rattle.std.proofs.Common.{◌≤◌}
use Rattle.vt_sampler.proofs.turns.draw_all.Given as goal

-- the rows of so many turns are drawn
abbrev pub invariant-loop-turn : goal.invariant-loop-turn
invariant-loop-turn g l = record {
  drew : g.T.Turns.drew l.turns l.turn l.fn.state l.state;
  few : l.turn ≤ l.most;
}

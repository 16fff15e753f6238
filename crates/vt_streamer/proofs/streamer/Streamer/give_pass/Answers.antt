use Rattle.std.proofs.Common.{ap, ◌∙◌}
use Rattle.vt_streamer.specs.Views.{StreamerView}
use Rattle.vt_streamer.proofs.Sparing.{of_spared, of_table}
use Rattle.vt_streamer.proofs.streamer.Streamer.give_pass.Goals as goal

pub give_pass-requires-clause-of : goal.give_pass-requires-clause-of
give_pass-requires-clause-of c = of_table _ _ _ _ c.self.view_is c.requires.of

pub invariant_of-self : goal.invariant_of-self
invariant_of-self c = ap (λ (v : StreamerView). v.writer.journal) c.give_pass.ensures.given ∙ c.self.invariant

pub returns-clause-of : goal.returns-clause-of
returns-clause-of c = of_spared _ _ _ c.give_pass.ensures.of

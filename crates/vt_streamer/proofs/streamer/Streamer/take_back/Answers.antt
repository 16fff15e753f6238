use Rattle.std.proofs.Common.{ap, ◌∙◌}
use Rattle.vt_streamer.specs.Views.{StreamerView}
use Rattle.vt_streamer.proofs.Sparing.{of_spared, of_table}
use Rattle.vt_streamer.proofs.streamer.Streamer.take_back.Goals as goal

pub take_back-requires-clause-of : goal.take_back-requires-clause-of
take_back-requires-clause-of c = of_table _ _ _ _ c.self.view_is c.requires.of

pub invariant_of-self : goal.invariant_of-self
invariant_of-self c = ap (λ (v : StreamerView). v.writer.journal) c.take_back.ensures.taken ∙ c.self.invariant

pub returns-clause-of : goal.returns-clause-of
returns-clause-of c = of_spared _ _ _ c.take_back.ensures.of

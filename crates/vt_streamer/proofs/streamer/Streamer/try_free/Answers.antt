use Rattle.std.proofs.Common.{ap, ◌∙◌}
use Rattle.vt_grace.specs.declared.views.WriterView.{WriterView}
use Rattle.vt_streamer.proofs.Sparing.{of_spared, of_table}
use Rattle.vt_streamer.proofs.streamer.Streamer.try_free.Goals as goal

pub try_free-requires-clause-of : goal.try_free-requires-clause-of
try_free-requires-clause-of c = of_table _ _ _ _ c.self.view_is c.requires.of

pub invariant_of-self : goal.invariant_of-self
invariant_of-self c = ap (λ (w : WriterView). w.journal) c.try_free.ensures.looked.rest ∙ c.self.invariant

pub returns-clause-of : goal.returns-clause-of
returns-clause-of c = of_spared _ _ _ c.try_free.ensures.of

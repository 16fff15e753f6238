use Rattle.std.proofs.Common.{sym, ap, ◌∙◌}
use Rattle.vt_grace.specs.declared.views.WriterView.{WriterView}
use Rattle.vt_streamer.proofs.Sparing.{of_spared}
use Rattle.vt_streamer.proofs.streamer.Streamer.new.Goals as goal

pub invariant_of-result : goal.invariant_of-result
invariant_of-result c = ap (λ (w : WriterView). w.journal) c.in_ok-words.ensures.writer ∙ sym c.new-2.ensures

pub returns-clause-of : goal.returns-clause-of
returns-clause-of c = of_spared _ _ _ c.in_ok-words.ensures.of

use Rattle.std.proofs.Common.{List, [], ◌∷◌, ◌++◌, ap, sym, ◌∙◌}
use Rattle.vt_table.specs.JournalTypes.changes.Change.{Change}
use Rattle.vt_grace.specs.declared.views.WriterView.{WriterView}
use Rattle.vt_streamer.proofs.Sparing.{of_spared, of_table, within_table, ready_table}
use Rattle.vt_streamer.proofs.streamer.Streamer.try_publish.Goals as goal

pub try_publish-requires-clause-of : goal.try_publish-requires-clause-of
try_publish-requires-clause-of c = of_table _ _ _ _ c.self.view_is c.requires.of

pub try_publish-requires-clause-within : goal.try_publish-requires-clause-within
try_publish-requires-clause-within c = within_table _ _ _ c.args.change c.self.view_is c.requires.within

pub try_publish-requires-clause-ready : goal.try_publish-requires-clause-ready
try_publish-requires-clause-ready c =
    ready_table c.self.inside.table c.self.inside.journal.spare c.args.self.now c.args.change c.self.view_is c.requires.ready

pub invariant_of-self : goal.invariant_of-self
invariant_of-self c = c.in-Ok.ensures.published.journal ∙ (ap (λ (js : List Change). js ++ c.args.change ∷ []) c.self.invariant ∙ sym c.push.ensures.changes)

pub invariant_of-self-in-Err : goal.invariant_of-self-in-Err
invariant_of-self-in-Err c = ap (λ (w : WriterView). w.journal) c.in-Err.ensures.refused.rest ∙ c.self.invariant

pub returns-in-Ok-clause-of : goal.returns-in-Ok-clause-of
returns-in-Ok-clause-of c = of_spared _ _ _ c.try_publish.ensures.of

pub returns-in-Err-clause-of : goal.returns-in-Err-clause-of
returns-in-Err-clause-of c = of_spared _ _ _ c.try_publish.ensures.of

use Rattle.std.proofs.Common.{◌≡◌, [], ap, ◌∙◌}
use Rattle.vt_grace.specs.declared.views.WriterView.{WriterView}
use Rattle.vt_streamer.specs.Views.{StreamerView}
use Rattle.vt_tests_walks.proofs.Passes.{free_at_first, next_at_first}
use Rattle.vt_tests_walks.proofs.pass.kits.place.Goals as goal

pub try_free-requires-clause-free : goal.try_free-requires-clause-free
try_free-requires-clause-free c = free_at_first c.reserve.new.self.writer.journal 0
    (ap (λ (v : StreamerView). v.writer.journal) c.reserve.ensures.rest ∙ c.requires.journal)

pub try_publish-requires-clause-legal : goal.try_publish-requires-clause-legal
try_publish-requires-clause-legal c =
    let none : c.fill.new.self.writer.journal ≡ [] = ap (λ (v : StreamerView). v.writer.journal) c.fill.ensures.rest
    ∙ ap (λ (w : WriterView). w.journal) c.try_free.ensures.looked.rest
    ∙ ap (λ (v : StreamerView). v.writer.journal) c.reserve.ensures.rest ∙ c.requires.journal in
    (next_at_first c.fill.new.self.writer.journal c.args.page 0 none, tt)

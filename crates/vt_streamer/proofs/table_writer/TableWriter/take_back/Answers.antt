use Rattle.std.proofs.Common.{sym, ap, ◌∙◌}
use Rattle.vt_grace.specs.declared.views.WriterView.{WriterView}
use Rattle.vt_streamer.proofs.Keeping.{kept_alike}
use Rattle.vt_streamer.proofs.table_writer.TableWriter.take_back.Goals as goal

pub invariant_of-self : goal.invariant_of-self
invariant_of-self c =
    let t = c.self.inside in let k = c.self.invariant in let view = c.take_back.ensures.view in
    kept_alike t.geometry t.seat c.take_back.new.self t.samplers t.latest t.owners.items t.entries.items t.floors.items t.floors.items t.unmapped.items
    record { sizes = ap (λ (w : WriterView). w.sizes) view; journal = ap (λ (w : WriterView). w.journal) view; entries = ap (λ (w : WriterView). w.entries) view }
    c.take_back.ensures.sound (k.all_floors ∙ sym (ap (λ (w : WriterView). w.floors) view)) k

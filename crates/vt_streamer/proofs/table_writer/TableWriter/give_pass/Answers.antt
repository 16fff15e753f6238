use Rattle.std.proofs.Common.{ℕ, List, set, sym, ap, ◌∙◌}
use Rattle.vt_grace.specs.declared.views.WriterView.{WriterView}
use Rattle.vt_streamer.proofs.Keeping.{kept_alike}
use Rattle.vt_streamer.proofs.table_writer.TableWriter.give_pass.Goals as goal

pub invariant_of-self : goal.invariant_of-self
invariant_of-self c =
    let t = c.self.inside in let k = c.self.invariant in let view = c.give_pass-pass.ensures.view in
    kept_alike t.geometry t.seat c.give_pass-pass.new.self t.samplers t.latest t.owners.items t.entries.items t.floors.items _ t.unmapped.items
    record { sizes = ap (λ (w : WriterView). w.sizes) view; journal = ap (λ (w : WriterView). w.journal) view; entries = ap (λ (w : WriterView). w.entries) view }
    c.give_pass-pass.ensures.sound
    (ap (λ (x : List ℕ × ℕ). set x.0 c.args.sampler x.1) (λ i. (k.all_floors i, c.version-version.ensures i)) ∙ sym (ap (λ (w : WriterView). w.floors) view)) k

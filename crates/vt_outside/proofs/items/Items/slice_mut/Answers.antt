use Rattle.std.proofs.Common.{◌-◌, ℕ, refl, ap, ◌∙◌, rules, length}
use Rattle.std.specs.List.{refill}
use Rattle.vt_outside.specs.Lists.{ListView}
use Rattle.vt_outside.proofs.items.Items.slice_mut.Goals as goal

pub returns : goal.returns
returns g c = (
  (
    refl,
    λ w.
        ap
        (λ (n : ℕ). record { elements = refill n c.self.inside.items.items w; spare = c.self.inside.items.cap - c.self.inside.items.len })
        c.self.inside.items.ok.0
        ∙ ap (λ (l : ListView g.row.I.Denot). record { elements = refill (length l.elements) l.elements w; spare = l.spare }) c.self.view_is,
  ),
  search rules,
)

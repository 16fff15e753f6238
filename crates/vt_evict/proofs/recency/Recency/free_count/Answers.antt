use Rattle.std.proofs.Common.{◌≡◌, List, ℕ, length, ap, ◌∙◌}
use Rattle.std.specs.Map.{keys_of}
use Rattle.vt_plan.specs.Views.{RecencyView, free_frames}
use Rattle.vt_evict.proofs.FreeLemmas.{free_is}
use Rattle.vt_evict.proofs.Seen.{view_of}
use Rattle.vt_evict.proofs.recency.Recency.free_count.Goals as goal

pub returns : goal.returns
returns c =
    let v : RecencyView =
    view_of c.self.inside.geometry c.self.inside.frames c.self.inside.pinned c.self.inside.entries.items (keys_of c.self.inside.order.entries) in
    let f : c.self.inside.free.keys ≡ free_frames c.args.self.now =
    free_is v c.self.inside.free.keys c.len.ensures.ordered c.self.invariant.free_frames ∙ ap free_frames c.self.view_is in
    c.len.ensures.len ∙ ap (λ (l : List ℕ). length l) f

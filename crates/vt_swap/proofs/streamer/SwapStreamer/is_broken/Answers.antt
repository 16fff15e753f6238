use Rattle.std.proofs.Common.{◌≡◌, false, length, ap, ◌∙◌, subst}
use Rattle.std.specs.Prelude.{drop}
use Rattle.vt_swap.specs.Streamers.{StreamerView}
use Rattle.vt_swap.proofs.Shown.{shown_by}
use Rattle.vt_swap.proofs.streamer.SwapStreamer.is_broken.Goals as goal

pub returns-clause-shown : goal.returns-clause-shown
returns-clause-shown c fine =
    let goes_on : c.self.inside.broken ≡ false = ap (λ (v : StreamerView). v.broken) c.self.view_is ∙ fine in
    let all = c.self.invariant.2 goes_on in
    subst (λ (v : StreamerView). v.shown ≡ length v.journal) c.self.view_is
    (shown_by c.self.inside.writer (λ w. w.desk.shown.value) (λ w. drop w.behind w.log.items) c.self.inside.front c.self.invariant.1 all.1 ∙ ap length all.0)

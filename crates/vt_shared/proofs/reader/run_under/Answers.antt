use Rattle.std.proofs.Common.{sym, subst}
use Rattle.vt_grace.specs.Values.{HeldValue}
use Rattle.vt_lookup.specs.Notes.{IsNotedIn}
use Rattle.vt_texel_runs.specs.Spans.{AreSpanned}
use Rattle.vt_shared.proofs.reader.run_under.Goals as goal

pub returns-clause-answered : goal.returns-clause-answered
returns-clause-answered c =
    subst (λ (h : HeldValue). AreSpanned c.args.geometry.now c.args.depth h.version (IsNotedIn h.view) c.args.span.now c.args.span.now.count c.read_run.new.out)
    (sym c.into_held.ensures.held) c.read_run.ensures.answered

use Rattle.std.proofs.Common.{rules, ◌∷◌, [], ◌++◌}
use Rattle.vt_swap.proofs.Entering.{entered_none, was_later}
use Rattle.vt_swap_table.specs.SwapLaws.{entered_more}
use Rattle.vt_swap_table.proofs.readers.see.Goals as goal

pub loop-init : goal.loop-init
loop-init g c = ([], entered_none c.args.reader)

pub loop-preserved : goal.loop-preserved
loop-preserved g c =
    let e = c.entry-next.ensures.entered in
    ((c.entry-next.result.1 ∷ e.before) ++ c.loop.invariant.0, entered_more _ _ _ _ _ c.loop.invariant.1 e.more)

pub returns-then-version-start : goal.returns-then-version-start
returns-then-version-start g c = record {
  version = c.entry-next.result.1;
  late = search rules;
  entered = was_later _ _ _ _ _ c.loop.invariant.1 c.entry-next.ensures.entered;
}

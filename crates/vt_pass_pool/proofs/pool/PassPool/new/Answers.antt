use Rattle.std.proofs.Common.{length, ap, ◌∙◌}
use Rattle.std.proofs.lemmas.List.{length-replicate}
use Rattle.vt_journal.specs.Pages.{pages_of}
use Rattle.vt_pass_pool.proofs.pool.PassPool.new.Goals as goal

pub returns-clause-idle : goal.returns-clause-idle
returns-clause-idle g c = λ w home. record {
  pool = record {
    some = c.requires.some;
    few = c.requires.few;
    depth = c.requires.depth;
    sides = record {
      width_low = c.width-width.ensures.low;
      width_high = c.width-width.ensures.high;
      height_low = c.height-height.ensures.low;
      height_high = c.height-height.ensures.high;
    };
    samplers_are = c.in_ok-samplers.ensures.samplers;
    counts = ap length c.in_ok-counts.ensures ∙ length-replicate (pages_of c.args.geometry.now) 0;
    number = c.in_ok-drawn.ensures.number;
    no_lines = c.new-2.ensures;
  };
  home = c.in_ok-samplers.ensures.home w home;
  rows = c.in_ok-drawn.ensures;
}

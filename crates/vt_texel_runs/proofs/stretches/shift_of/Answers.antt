use Rattle.vt_pages.proofs.Shifts.{shift_of}
use Rattle.vt_texel_runs.proofs.stretches.shift_of.Goals as goal

pub returns : goal.returns
returns c = shift_of c.args.tile c.requires

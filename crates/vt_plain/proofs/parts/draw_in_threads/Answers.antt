use Rattle.vt_plain.proofs.PartsDrawn.{all_drawn}
use Rattle.vt_plain.proofs.parts.draw_in_threads.Goals as goal

pub returns : goal.returns
returns g c = all_drawn (g.R.Rows.bytes c.args.rows.now) c.args.height c.draw_in_parts.new.out c.draw_in_parts.ensures

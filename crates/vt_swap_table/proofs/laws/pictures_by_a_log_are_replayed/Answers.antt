use Rattle.vt_swap_table.proofs.Replaying.{picture_replayed}
use Rattle.vt_swap_table.proofs.laws.pictures_by_a_log_are_replayed.Goals as goal

pub returns : goal.returns
returns g c log = picture_replayed g.P.Filter.shown g.P.Filter.under g.met.P.Filter.is_under log

use Rattle.vt_swap_table.proofs.Replaying.{row_replayed}
use Rattle.vt_swap_table.proofs.laws.rows_by_a_log_are_replayed.Goals as goal

pub returns : goal.returns
returns g c log s d b scene version i n y bytes lawful limits store are same deep =
    row_replayed g.P.Filter.shown g.P.Filter.under g.met.P.Filter.is_under log s d b lawful limits store are scene same deep version i n y bytes

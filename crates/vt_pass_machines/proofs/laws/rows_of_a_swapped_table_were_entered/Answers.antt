use Rattle.vt_pass_machines.proofs.NewRows.{swapped_rows}
use Rattle.vt_pass_machines.proofs.laws.rows_of_a_swapped_table_were_entered.Goals as goal

pub returns : goal.returns
returns g c = swapped_rows g.P.Filter

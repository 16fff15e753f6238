use Rattle.vt_pass.proofs.NewRows.{words_rows}
use Rattle.vt_pass.proofs.laws.rows_of_words_were_held.Goals as goal

pub returns : goal.returns
returns g c = words_rows g.F.File g.S.Schedule g.P.Filter

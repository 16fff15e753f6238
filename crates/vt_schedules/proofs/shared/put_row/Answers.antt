use Rattle.std.proofs.Common.{[], ◌∷◌, ◌++◌, length, ap, ◌∙◌}
use Rattle.vt_queue.specs.PassViews.{pass_view}
use Rattle.vt_schedules.specs.Bags.{view_of}
use Rattle.vt_queue.proofs.OrderLemmas.{puts_last}
use Rattle.vt_schedules.proofs.shared.put_row.Goals.{in-Ok, in-Err}
use Rattle.vt_schedules.proofs.shared.put_row.Goals as goal

pub returns-clause-put : goal.returns-clause-put
returns-clause-put g c = elim c.match-put.branch [
  | in-Ok w ↦ rw w.result-is (puts_last (view_of c.args.rows.now) (view_of c.put.new.pass) c.args.job w.in-Ok.ensures.puts c.requires.whole
      ∙ ap (λ n. pass_view n (view_of c.args.rows.now).known
      ((view_of c.args.rows.now).put ++ (length (view_of c.args.rows.now).put, c.args.job) ∷ []) (view_of c.args.rows.now).took) c.requires.whole)
  | in-Err w ↦ rw w.result-is tt
]

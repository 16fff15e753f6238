use Rattle.std.proofs.Common.{◌∙◌, sym}
use Rattle.vt_replay_rows.proofs.Following.{follows_first}
use Rattle.vt_replay_rows.proofs.table.PageTable.new.Goals as goal

pub returns-clause-follows : goal.returns-clause-follows
returns-clause-follows c =
    follows_first c.args.geometry.now c.args.journal.now.changes c.in_ok-entries.entries.items _
    (sym c.in_ok-entries.entries.ok.0 ∙ c.in_ok-entries.ensures.len ∙ c.page_count.ensures.pages)
    (c.in_ok-entries.ensures.items_if_clones_equal (λ y h. h))

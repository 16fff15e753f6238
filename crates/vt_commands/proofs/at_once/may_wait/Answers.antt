use Rattle.std.proofs.Common.{◌∙◌}
use Rattle.vt_commands.proofs.Waits.{first_waits}
use Rattle.vt_commands.proofs.at_once.may_wait.Goals as goal

pub returns-in-len1-up : goal.returns-in-len1-up
returns-in-len1-up c =
    c.is_waiting_name.ensures
    ∙ first_waits c.args.words.now c.name-item.result c.as_str.result.now c.in-len1-up.len_at_least c.name-item.is c.as_str.ensures.value

use Rattle.vt_command_words.specs.Arguments.{texts}
use Rattle.vt_command_words.proofs.Refusals.{memory_not_usage, ok_not_usage, usage_of, found_by, nothing_by}
use Rattle.vt_command_words.proofs.arguments.find.Goals as goal

pub returns-in_default : goal.returns-in_default
returns-in_default c = record { found = tt; usage = memory_not_usage }

pub returns-in-Ok-try_get_matches_from : goal.returns-in-Ok-try_get_matches_from
returns-in-Ok-try_get_matches_from c = record {
  found = found_by _ _ (texts c.args.words.now) _ c.in-Ok.ensures c.requires c.in-Ok-try_get_matches_from.ensures.kinds
      c.in-Ok-try_get_matches_from.ensures.matches;
  usage = ok_not_usage _;
}

pub returns-in-Err : goal.returns-in-Err
returns-in-Err c = record {
  found = tt;
  usage = λ is. nothing_by _ _ (texts c.args.words.now) c.in-Err.error c.in-Ok.ensures c.requires c.in-Err.ensures.kinds (c.words_error.ensures (usage_of is));
}

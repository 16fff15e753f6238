use Rattle.vt_definitions.proofs.Dealt.{row_is, sampler_is, turn_is, turns_end}
use Rattle.vt_definitions.proofs.dealing.rows_are_dealt_once.Goals as goal

pub returns-clause-row : goal.returns-clause-row
returns-clause-row c = row_is

pub returns-clause-sampler : goal.returns-clause-sampler
returns-clause-sampler c = sampler_is

pub returns-clause-turn : goal.returns-clause-turn
returns-clause-turn c = turn_is

pub returns-clause-inside : goal.returns-clause-inside
returns-clause-inside c = turns_end

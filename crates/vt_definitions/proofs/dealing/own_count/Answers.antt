use Rattle.vt_definitions.proofs.Dealt.{count_most}
use Rattle.vt_definitions.proofs.dealing.own_count.Goals as goal

pub returns-clause-most : goal.returns-clause-most
returns-clause-most c = count_most c.args.sampler c.args.samplers c.args.height c.requires.one_of

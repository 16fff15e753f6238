use Rattle.vt_camera.proofs.Shares.{share_fits, few_steps, share_value}
use Rattle.vt_camera.proofs.ways.gone.Goals as goal

pub overflow_mul-distance : goal.overflow_mul-distance
overflow_mul-distance c = share_fits c.args.distance c.from.result c.args.i c.args.n c.requires.limits c.from.ensures c.requires.within c.requires.few

pub div_euclid-requires-clause-no_overflow : goal.div_euclid-requires-clause-no_overflow
div_euclid-requires-clause-no_overflow c = λ is least. few_steps c.from-2.result c.args.n c.from-2.ensures c.requires.few is

pub returns : goal.returns
returns c =
    share_value c.args.distance c.from.result c.from-2.result c.div_euclid.result c.args.i c.args.n c.requires.limits
    c.from.ensures c.from-2.ensures c.requires.within c.requires.few c.div_euclid.ensures

use Rattle.vt_mip.proofs.Fronts.{chain_raster}
use Rattle.vt_mip.proofs.chain.Chain.samples.Goals as goal

pub returns : goal.returns
returns c = chain_raster c.self.inside.levels.items c.self.inside.tile c.args.level c.index-level.result.now c.args.self.now
    c.self.view_is c.self.invariant c.requires c.index-level.ensures c.samples.result.now c.samples.ensures.value c.samples_are_bytes.ensures

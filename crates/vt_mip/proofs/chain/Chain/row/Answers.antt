use Rattle.vt_mip.proofs.Fronts.{row_fits, chain_row}
use Rattle.vt_mip.proofs.chain.Chain.row.Goals as goal

pub raster_row-requires : goal.raster_row-requires
raster_row-requires c = row_fits c.self.inside.levels.items c.self.inside.tile c.args.level c.index-level.result.now c.args.self.now
    c.self.view_is c.self.invariant c.requires.level c.index-level.ensures c.args.y c.depth.result c.width.result c.texel_length.result
    c.samples.result.now c.requires.row c.samples.ensures.value c.depth.ensures.value c.width.ensures.value c.texel_length.ensures.value

pub returns : goal.returns
returns c = chain_row c.self.inside.levels.items c.self.inside.tile c.args.level c.index-level.result.now c.args.self.now
    c.self.view_is c.self.invariant c.requires.level c.index-level.ensures c.args.y c.depth.result c.width.result c.texel_length.result
    c.samples.result.now c.raster_row.result.now c.requires.row c.samples.ensures.value c.depth.ensures.value c.width.ensures.value
    c.texel_length.ensures.value c.raster_row.ensures c.samples_are_bytes.ensures

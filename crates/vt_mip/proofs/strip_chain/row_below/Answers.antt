use Rattle.vt_mip.proofs.StripRoom.{is_below}
use Rattle.vt_mip.proofs.strip_chain.row_below.Goals as goal

pub returns : goal.returns
returns g c = is_below c.args.reader.now.header c.header-texture.result.now c.args.level c.args.y _ _ _ _ c.header-texture.ensures.value
    c.requires.some c.depth-depth.ensures.value c.depth-depth.ensures.depth c.texel_length.ensures.value c.side_at-width.ensures.value
    c.side_at-height.ensures.value c.side_at-height.ensures.few c.header-texture.ensures.limits c.requires.row

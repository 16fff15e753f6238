use Rattle.std.proofs.Common.{◌∙◌, ap}
use Rattle.vt_pages.specs.Numbers.{number_bytes}
use Rattle.vt_tiles.proofs.Headers.{header_is, number_of_bytes}
use Rattle.vt_tiles.proofs.header.header_of.Goals as goal

pub returns : goal.returns
returns c = header_is c.args.geometry.now c.args.depth c.magic_of-magic.result c.to_be_bytes-width.result c.to_be_bytes-height.result
    c.to_be_bytes-tile.result c.requires c.magic_of-magic.ensures
    (c.to_be_bytes-width.ensures ∙ number_of_bytes c.width.result ∙ ap (number_bytes 4) c.width.ensures.width)
    (c.to_be_bytes-height.ensures ∙ number_of_bytes c.height.result ∙ ap (number_bytes 4) c.height.ensures.height)
    (c.to_be_bytes-tile.ensures ∙ number_of_bytes c.tile.result ∙ ap (number_bytes 4) c.tile.ensures.tile)

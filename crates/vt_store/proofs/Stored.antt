-- A store holds the texture's chain.
use Rattle.vt_ppm.specs.Image.{texel_of}
use Rattle.vt_definitions.specs.Limits.{most_read_side}
use Rattle.vt_ppm.proofs.ImageLaws.{image_of_bytes}
use Rattle.vt_mip.specs.Chains.{chain}
use Rattle.vt_mip.proofs.Small.{chain_words_are_small}
use Rattle.vt_pages.specs.Shape.{shape_of}
use Rattle.vt_store.specs.Laws.{StoresHoldChains}
use Rattle.vt_tiles.proofs.Stored.{stores_hold_sources}

-- and so the words of a texture's chain
pub stores_hold_chains : StoresHoldChains
stores_hold_chains b texture tile k x y image accepted inside =
    stores_hold_sources (shape_of texture.width texture.height tile) texture.depth
    (chain texture.depth (texel_of texture) texture.width texture.height) k x y
    image.image.depth accepted inside (chain_words_are_small texture k x y image.image.depth (image_of_bytes most_read_side b texture image))

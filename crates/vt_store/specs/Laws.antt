-- The law of stores of textures: each holds the texture's mip chain.
use Rattle.std.specs.Prelude.{◌≡◌, ℕ, None, List}
use Rattle.vt_ppm.specs.Image.{ImageView, texel_of}
use Rattle.vt_ppm.specs.Format.{IsImage}
use Rattle.vt_mip.specs.Chains.{chain}
use Rattle.vt_pages.specs.Shape.{shape_of}
use Rattle.vt_pages.specs.Pages.{refusal_of}
use Rattle.vt_pages.specs.Laws.{IsInside}
use Rattle.vt_tiles.specs.Format.{stored}
use Rattle.vt_store.specs.ChainStores.{texture_store}

-- the store of the texture that bytes spell holds the words of the texture's mip chain inside every level
abbrev pub StoresHoldChains : Type 0
StoresHoldChains = (b : List ℕ) (texture : ImageView) (tile k x y : ℕ) → IsImage b texture
    → refusal_of (shape_of texture.width texture.height tile) ≡ None → IsInside (shape_of texture.width texture.height tile) k x y
    → stored (texture_store texture tile) k x y ≡ chain texture.depth (texel_of texture) texture.width texture.height k x y

-- The store of a mip chain, and that of a texture, which holds the texture's chain.
use Rattle.std.specs.Prelude.{◌≡◌, ℕ, ◌-◌, ◌<◌, List, ◌++◌, take, Option, option_map}
use Rattle.vt_definitions.specs.Depths.{AreBytes}
use Rattle.vt_definitions.specs.Texels.{Source}
use Rattle.vt_outside.specs.Files.{Files, with_bytes}
use Rattle.vt_ppm.specs.Image.{ImageView, IsLawfulImage, texel_of}
use Rattle.vt_mip.specs.Chains.{ChainView, chain, chain_texel}
use Rattle.vt_mip.specs.InPlace.{ShrinksFront}
use Rattle.vt_mip.specs.TakenRows.{HalvingView}
use Rattle.vt_pages.specs.Shape.{Shape, shape_of}
use Rattle.vt_pages.specs.Pages.{pages_of}
use Rattle.vt_tiles.specs.Format.{store_bytes, tiles_bytes}

-- the chain has the sides and the tile side of the pages
pub record HasShape (chain : ChainView) (shape : Shape) : Type 0 where
  pub same : shape_of chain.base.width chain.base.height chain.tile ≡ shape

-- the store of a mip chain, at its depth
abbrev pub chain_store : ChainView → Shape → List ℕ
chain_store chain shape = store_bytes shape chain.base.depth (chain_texel chain)

-- the store of a texture's mip chain, in tiles of a side
abbrev pub texture_store : ImageView → ℕ → List ℕ
texture_store texture tile =
    store_bytes (shape_of texture.width texture.height tile) texture.depth
    (chain texture.depth (texel_of texture) texture.width texture.height)

-- the words of a chain that begins at a level
abbrev pub level_source : ChainView → ℕ → Source
level_source chain skipped k = chain_texel chain (k - skipped)

-- the words of a source at a level are those of an image
pub record HasLevelTexels (src : Source) (k : ℕ) (p : ImageView) : Type 0 where
  pub each : (x y : ℕ) → x < p.width → y < p.height → src k x y ≡ texel_of p x y

-- they are those of an image of which some rows were taken
pub record IsHalvedLevelOf (src : Source) (k : ℕ) (p : ImageView) (v : HalvingView) : Type 0 where
  pub texels : HasLevelTexels src k p
  pub front : ShrinksFront p v
  pub lawful : IsLawfulImage p
  pub bytes : AreBytes p.samples

-- behind whatever bytes the name held, it holds the tiles of the pages from one on to another
pub record AddsPages (s : Shape) (d : ℕ) (src : Source) (first end : ℕ) (name : List ℕ) (old new : Option Files) : Type 0 where
  pub held : (before : Option Files) (done : List ℕ) → old ≡ option_map (with_bytes name done) before
      → new ≡ option_map (with_bytes name (done ++ tiles_bytes s d src first (end - first))) before

-- or a prefix of the tiles of all pages from one on
pub record AddsPart (s : Shape) (d : ℕ) (src : Source) (first : ℕ) (name : List ℕ) (old new : Option Files) : Type 0 where
  pub part : ℕ
  pub held : (before : Option Files) (done : List ℕ) → old ≡ option_map (with_bytes name done) before
      → new ≡ option_map (with_bytes name (done ++ take part (tiles_bytes s d src first (pages_of s - first)))) before

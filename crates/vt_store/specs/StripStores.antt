-- The store of a texture that is read by strips: whole rows, as many as a tile has.
use Rattle.std.specs.Prelude.{◌≡◌, ◌⊎◌, ℕ, ◌*◌, List, ◌++◌, length, vec_len, IfSome}
use Rattle.vt_definitions.specs.Depths.{texel_length}
use Rattle.vt_ppm.specs.declared.header.Header.{Header}
use Rattle.vt_ppm.specs.Format.{depth_of}
use Rattle.vt_ppm.specs.Image.{ImageView}
use Rattle.vt_ppm.specs.Strips.{texture_of}
use Rattle.vt_mip.specs.TakenRows.{HalvesFront}
use Rattle.vt_mip.specs.StripChains.{StripChainView, texture_texel}
use Rattle.vt_pages.specs.Shape.{Shape, shape_of}
use Rattle.vt_pages.specs.Pages.{IsWithinLimits, columns_at}
use Rattle.vt_store.specs.declared.strips.StripRoom.{StripRoom}
use Rattle.vt_store.specs.Rings.{AreNewRings}
use Rattle.vt_store.specs.ChainStores.{texture_store}
use Rattle.vt_tiles.specs.Format.{header_bytes, tile_length, tiles_bytes}

-- the shape of the pages of a texture that is read by rows
abbrev pub strip_shape : {F : Type 0} → StripChainView F → Shape
strip_shape chain = shape_of chain.header.width chain.header.height chain.tile

-- the store of the texture that a file's bytes spell behind its header
abbrev pub strip_store : {F : Type 0} → StripChainView F → List ℕ → List ℕ
strip_store chain b = texture_store (texture_of chain.header b) chain.tile

-- the store's header, and the tiles of its first pages
abbrev pub strip_front : Shape → Header → ℕ → List ℕ → List ℕ
strip_front s h pages b = header_bytes s (depth_of h.maximum) ++ tiles_bytes s (depth_of h.maximum) (texture_texel h b) 0 pages

-- the tiles of a strip: those of a row of tiles of level 0
abbrev pub strip_tiles : Shape → Header → ℕ → List ℕ → List ℕ
strip_tiles s h i b = tiles_bytes s (depth_of h.maximum) (texture_texel h b) (i * columns_at s 0) (columns_at s 0)

-- the room in which a texture of this shape and depth is tiled by strips, with a second row of tiles and rings or without: no row was halved into level 1 yet
pub record IsStripRoom (s : Shape) (d : ℕ) (room : StripRoom) : Type 0 where
  pub limits : IsWithinLimits s
  pub rows : length room.rows.items ≡ s.tile * (texel_length d * s.width)
  pub front : vec_len room.front ≡ columns_at s 0 * tile_length s d
  pub back : (vec_len room.back ≡ 0) ⊎ (vec_len room.back ≡ columns_at s 0 * tile_length s d)
  pub rings : IfSome room.rings (λ ends. AreNewRings ends.0.rows ends.1.rows)
  pub taken : room.half.taken ≡ 0
  pub depth : room.half.depth ≡ d
  pub width : room.half.width ≡ s.width
  pub height : room.half.height ≡ s.height
  pub begun : (p : ImageView) → p.depth ≡ d → p.width ≡ s.width → p.height ≡ s.height → HalvesFront p room.half

-- The bytes of the plain picture by blends, row by row.
use Rattle.std.proofs.Common.{◌≡◌, ◌≢◌, ℕ, ◌+◌, ◌*◌, ◌^◌, ◌<◌, ◌⊎◌, ⊎_elim, List, length, sym, ap, ◌∙◌, subst, arith}
use Rattle.vt_definitions.specs.Depths.{IsDepth, AreBytes, texel_bytes, word_bytes, word_at}
use Rattle.vt_definitions.specs.Texels.{Source}
use Rattle.vt_mip.specs.Image.{ImageView}
use Rattle.vt_mip.specs.Chains.{IsTexelRaster}
use Rattle.vt_mip.specs.Laws.{ChainWordsAreSmall}
use Rattle.vt_camera.specs.declared.paths.Camera.{Camera}
use Rattle.vt_camera.specs.declared.surfaces.Surface.{Surface}
use Rattle.vt_camera.specs.Paths.{PathView}
use Rattle.vt_camera.specs.Rows.{RowView, row_of, row_level}
use Rattle.vt_plain.specs.Plain.{chain_of}
use Rattle.vt_plain.proofs.Drawn.{many, length-word_bytes}
use Rattle.vt_blend.specs.declared.corners.Corners.{Corners}
use Rattle.vt_blend.specs.declared.corners.Weights.{Weights}
use Rattle.vt_blend.specs.declared.blends.Texels.{Texels}
use Rattle.vt_blend.specs.Corners.{corners_of, weights_of, AreInside}
use Rattle.vt_blend.specs.Blends.{blended_word, texels_of, blend_of, blend_bytes}
use Rattle.vt_plain.specs.BlendedPlain.{row_blends, first_blended_rows}
use Rattle.vt_plain.proofs.Joined.{joined}

-- a row whose pixels are blends
pub row_is : (d : ℕ) (source : Source) (row : RowView) (columns : ℕ) (bytes : List ℕ) → length bytes ≡ 3 * d * columns
    → ((x : ℕ) → x < columns → texel_bytes d bytes x ≡ blend_bytes d row x (source (row_level row))) → bytes ≡ row_blends d source row columns
unfolding row_blends
row_is d source row columns bytes full each = joined d bytes (λ (x : ℕ). blend_bytes d row x (source (row_level row))) columns full each

length-row_blends : (d : ℕ) (source : Source) (row : RowView) (columns : ℕ) → length (row_blends d source row columns) ≡ 3 * d * columns
unfolding row_blends
length-row_blends d source row columns =
    many (λ (x : ℕ). blend_bytes d row x (source (row_level row))) (3 * d) columns
    (λ x. length-word_bytes d (blend_of d row x (source (row_level row))))

pub length-rows : (d : ℕ) (source : Source) (surface : Surface) (path : PathView) (camera : Camera) (rows : ℕ)
    → length (first_blended_rows d source surface path camera rows) ≡ 3 * d * (path.width * rows)
unfolding first_blended_rows
length-rows d source surface path camera rows =
    many (λ (y : ℕ). row_blends d source (row_of path camera y surface) path.width) (3 * d * path.width) rows
    (λ y. length-row_blends d source (row_of path camera y surface) path.width)
    ∙ (let e : 3 * d * path.width * rows ≡ 3 * d * (path.width * rows) = omega arith in e)

-- the words at corners inside a level are those of any words that agree inside it
pub same_texels : (columns rows : ℕ) (f g : ℕ → ℕ → ℕ) (at : Corners) → AreInside columns rows at
    → ((x y : ℕ) → x < columns → y < rows → f x y ≡ g x y) → texels_of f at ≡ texels_of g at
same_texels columns rows f g at inside each = λ i. record {
  first = each at.column at.line inside.column inside.line i;
  second = each at.next_column at.line inside.next_column inside.line i;
  third = each at.column at.next_line inside.column inside.next_line i;
  fourth = each at.next_column at.next_line inside.next_column inside.next_line i;
}

-- the words of a level's bytes are the chain's
pub raster_word : (d : ℕ) (base : ImageView) (level k columns rows wide high : ℕ) (bytes : List ℕ) → IsDepth d → base.depth ≡ d → AreBytes base.samples
    → level ≡ k → wide ≡ columns → high ≡ rows → IsTexelRaster d (chain_of base level) columns rows bytes → ChainWordsAreSmall
    → ((e w : ℕ) (b : List ℕ) (i : ℕ) → IsDepth e → w < 2 ^ (24 * e) → texel_bytes e b i ≡ word_bytes e w → word_at e b i ≡ w)
    → (x y : ℕ) → x < wide → y < high → word_at d bytes (y * wide + x) ≡ chain_of base k x y
raster_word d base level k columns rows wide high bytes depth own are same w h raster small words x y inside below =
    let few : chain_of base level x y < 2 ^ (24 * d) =
    subst (λ (e : ℕ). chain_of base level x y < 2 ^ (24 * e)) own (small base level x y (subst IsDepth (sym own) depth) are) in
    ap (λ (n : ℕ). word_at d bytes (y * n + x)) w
    ∙ words d (chain_of base level x y) bytes (y * columns + x) depth few
    (raster.each x y (subst (λ (n : ℕ). x < n) w inside) (subst (λ (n : ℕ). y < n) h below))
    ∙ ap (λ (i : ℕ). chain_of base i x y) same

-- the word that a pixel shows
pub word_is : (d : ℕ) (row : RowView) (x columns rows blended : ℕ) (f g : ℕ → ℕ → ℕ) (at : Corners) (w : Weights) (t : Texels)
    → at ≡ corners_of row x → AreInside columns rows at → w ≡ weights_of at → t ≡ texels_of f at
    → ((x y : ℕ) → x < columns → y < rows → f x y ≡ g x y) → blended ≡ blended_word d w t → blended ≡ blend_of d row x g
unfolding blend_of
word_is d row x columns rows blended f g at w t is inside weighs texels each blend =
    blend
    ∙ ap (λ (v : Weights). blended_word d v t) weighs
    ∙ ap (λ (u : Texels). blended_word d (weights_of at) u) (texels ∙ same_texels columns rows f g at inside each)
    ∙ ap (λ (c : Corners). blended_word d (weights_of c) (texels_of g c)) is

-- one pixel more is written, and those before it stay
pub pixel_more : (d x : ℕ) (f : ℕ → List ℕ) (before after : List ℕ) → ((i : ℕ) → i ≢ x → texel_bytes d after i ≡ texel_bytes d before i)
    → texel_bytes d after x ≡ f x → ((i : ℕ) → i < x → texel_bytes d before i ≡ f i) → (i : ℕ) → i < x + 1 → texel_bytes d after i ≡ f i
pixel_more d x f before after kept here so_far i below =
    let or : (i < x) ⊎ (i ≡ x) = grind arith in
    ⊎_elim (λ (low : i < x). let apart : i ≢ x = omega (arith, low) in kept i apart ∙ so_far i low)
    (λ (same : i ≡ x). ap (texel_bytes d after) same ∙ here ∙ ap f (sym same)) or

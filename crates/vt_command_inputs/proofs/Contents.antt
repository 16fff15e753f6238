-- Bytes that are an input with some content have no flaw as that input.
use Rattle.std.proofs.Common.{◌≡◌, ℕ, List, None, sym, subst, ◌∙◌, inl, inr, arith}
use Rattle.vt_ppm.specs.Image.{ImageView}
use Rattle.vt_pages.specs.Limits.{most_read_side, most_tiled_side}
use Rattle.vt_ppm.proofs.ImageLaws.{no_image_flaw, one_image}
use Rattle.vt_camera.proofs.PathFlawLemmas.{no_path_flaw}
use Rattle.vt_pages.specs.Pages.{refusal_of}
use Rattle.vt_command_inputs.specs.Inputs
use Rattle.vt_command_inputs.specs.Inputs.{Input, InputContent, texture_shape, IsContent, IsFlawOf}
use Rattle.vt_command_inputs.specs.declared.flaws.Flaw.{Flaw}

-- bytes with a content and a flaw are none
pub content_no_flaw : (input : Input) (bytes : List ℕ) (content : InputContent) (flaw : Flaw) → IsContent input bytes content → IsFlawOf input bytes flaw → ⊥
content_no_flaw (Inputs.PathInput name) bytes (Inputs.PathContent path) flaw is h = no_path_flaw bytes path h.0 is h.1
content_no_flaw (Inputs.PathInput name) bytes _ flaw is h = is
content_no_flaw (Inputs.TextureInput name) bytes (Inputs.TextureContent texture) flaw is h = no_image_flaw most_read_side bytes texture h.0 is h.1
content_no_flaw (Inputs.TextureInput name) bytes _ flaw is h = is
content_no_flaw (Inputs.TiledTexture name tile) bytes (Inputs.TextureContent texture) flaw is (inl h) = no_image_flaw most_tiled_side bytes texture h.0 is.0 h.1
content_no_flaw (Inputs.TiledTexture name tile) bytes (Inputs.TextureContent texture) flaw is (inr h) =
    let same : refusal_of (texture_shape h.texture tile) ≡ None =
    subst (λ (p : ImageView). refusal_of (texture_shape p tile) ≡ None) (one_image most_tiled_side bytes texture h.texture is.0 h.is) is.1 in
    let wrong = sym same ∙ h.many in
    cc
content_no_flaw (Inputs.TiledTexture name tile) bytes _ flaw is h = is
content_no_flaw (Inputs.StoreInput name) bytes (Inputs.StoreContent shape depth) flaw is h = let wrong = sym is.no_flaw ∙ h.1 in cc
content_no_flaw (Inputs.StoreInput name) bytes _ flaw is h = is
content_no_flaw (Inputs.NarrowStore name) bytes (Inputs.NarrowContent shape held) flaw is (inl h) = let wrong = sym is.0.no_flaw ∙ h.1 in cc
content_no_flaw (Inputs.NarrowStore name) bytes (Inputs.NarrowContent shape held) flaw is (inr h) =
    let narrow = is.0.depth_is in
    let wide = h.is.depth_is in
    omega (arith, narrow, wide)
content_no_flaw (Inputs.NarrowStore name) bytes _ flaw is h = is
content_no_flaw (Inputs.PagedStore name) bytes (Inputs.PagedContent shape depth held) flaw is h = let wrong = sym is.0.no_flaw ∙ h.1 in cc
content_no_flaw (Inputs.PagedStore name) bytes _ flaw is h = is
content_no_flaw (Inputs.JournalInput name) bytes content flaw is h = h

-- What is there of the texture of `plain`, and its pictures.
use Rattle.std.proofs.Common.{◌≡◌, ℕ, zero, suc, ◌+◌, ◌-◌, ◌*◌, ◌<◌, ◌≤◌, List, [], ◌++◌, length, Option, Some, refl, sym, ap, ◌∙◌, inl, inr, arith}
use Rattle.std.specs.Option.{option_map, unwrap_or}
use Rattle.vt_definitions.specs.Depths.{IsDepth, texel_length}
use Rattle.vt_definitions.specs.Limits.{most_read_side}
use Rattle.vt_definitions.specs.Sides.{side, level_count}
use Rattle.vt_definitions.specs.Tiles.{IsTileSide}
use Rattle.vt_definitions.proofs.Levels.{level_count_least}
use Rattle.vt_outside.specs.Counts.{Rose}
use Rattle.vt_outside.specs.declared.place.Place.{Place}
use Rattle.vt_outside.specs.declared.answers.OutsideError.{OutsideError}
use Rattle.vt_outside.specs.declared.answers.OutsideError.TheVariants as outside
use Rattle.vt_ppm.specs.declared.header.Header.{Header}
use Rattle.vt_ppm.specs.Flaws.{AreImageSides}
use Rattle.vt_ppm.specs.Format.{IsTexture, depth_of}
use Rattle.vt_ppm.specs.Image.{ImageView, IsLawfulImage}
use Rattle.vt_ppm.specs.Picture.{picture_bytes}
use Rattle.vt_ppm.specs.Strips.{IsTextureHeader, row_length, texture_of}
use Rattle.vt_ppm.specs.StripPlaces.{StripsAsked, StripsTried, strips_of, strip_places}
use Rattle.vt_ppm.proofs.ImageLaws.{texture_within_sides}
use Rattle.vt_mip.specs.Levels.{IsLevel}
use Rattle.vt_mip.proofs.Words.{half_is_next}
use Rattle.vt_camera.specs.declared.surfaces.Surface.{Surface}
use Rattle.vt_camera.specs.Paths.{PathView, camera_at}
use Rattle.vt_camera.specs.Rows.{row_of, row_level}
use Rattle.vt_plain.specs.Plain.{chain_of, levels_from, plain_picture, plain_samples, surface_of}
use Rattle.vt_plain.proofs.WantedLevels.{levels_whole, pictures_go_on}
use Rattle.vt_outside.specs.Effects.{FolderState}
use Rattle.vt_command_inputs.specs.Inputs.{TextureInput, TextureContent, AreStrips}
use Rattle.vt_command_inputs.specs.Reads.{OpenFileState, TookInput, OpensTexture, Closed, Refused, IsInputAsked, IsRefusalCausedBy}
use Rattle.vt_command_inputs.specs.Refusals.{cause_of}
use Rattle.vt_command_inputs.proofs.OpenWriting.{closed_places, rise}
use Rattle.vt_command_inputs.proofs.Seeing.{texture_there, strips_asked}
use Rattle.vt_command_words.specs.declared.filters.Filtering.{Filtering}
use Rattle.vt_command_words.specs.declared.filters.Filtering.TheVariants.{Nearest, Bilinear}
use Rattle.vt_store_commands.specs.Pictures.{plain_file}
use Rattle.vt_store_commands.specs.SeenTextures.{IsEnough, IsSeenOf, seen_file, seen_surface}
use Rattle.vt_store_commands.specs.declared.seen_textures.Seen.{Seen}
use Rattle.vt_store_commands.proofs.Tiling.{strips_tried}

-- a tile has a side
pub tile_some : (t : ℕ) → IsTileSide t → 1 ≤ t
tile_some t side = grind arith

pub tile_two : (t : ℕ) → IsTileSide t → 2 ≤ t
tile_two t side = grind arith

-- all rows are an image
pub rows_lawful : (h : Header) (d : ℕ) (samples : List ℕ) → AreImageSides most_read_side h.width h.height → IsDepth d → d ≡ depth_of h.maximum
    → length samples ≡ h.height * row_length h
    → IsLawfulImage (record { depth = d; width = h.width; height = h.height; samples = samples })
rows_lawful h d samples sides depth is full = record {
  depth = depth;
  some_columns = sides.some_columns;
  few_columns = sides.few_columns;
  some_rows = sides.some_rows;
  few_rows = sides.few_rows;
  full = full ∙ (let same : h.height * (texel_length (depth_of h.maximum) * h.width) ≡ texel_length (depth_of h.maximum) * (h.width * h.height) = grind arith in same)
      ∙ ap (λ (n : ℕ). texel_length n * (h.width * h.height)) (sym is);
}

-- a texture that does not fit into a tile has further levels
pub two_levels : (w h t : ℕ) → 1 ≤ t → (w ≤ t → h ≤ t → ⊥) → 2 ≤ level_count w h t
two_levels w h t some larger = decide (level_count w h t) refl
  where
    decide : (n : ℕ) → level_count w h t ≡ n → 2 ≤ level_count w h t
    decide zero is = absurd (let no : ⊥ = omega (arith, is, (level_count_least w h t some).some) in no)
    decide (suc zero) is =
        let last : level_count w h t - 1 ≡ 0 = omega (arith, is) in
        absurd (larger (omega (arith, ap (side w) last, (level_count_least w h t some).last_width))
        (omega (arith, ap (side h) last, (level_count_least w h t some).last_height)))
    decide (suc (suc n)) is = omega (arith, is)

-- the surface of a whole texture
pub seen_whole : (s : Seen) (tile : ℕ) → s.image.width ≡ s.width → s.image.height ≡ s.height → seen_surface s tile ≡ surface_of s.image tile
seen_whole s tile wide high =
    ap (λ (w : ℕ). let f : Surface = record { width = w; height = s.height; levels = level_count w s.height tile } in f) (sym wide)
    ∙ ap (λ (h : ℕ). let f : Surface = record { width = s.image.width; height = h; levels = level_count s.image.width h tile } in f) (sym high)

-- its pictures are the plain ones
pub whole_file : (filter : Filtering) (s : Seen) (tile : ℕ) (path : PathView) (i : ℕ) → s.skipped ≡ 0 → s.image.width ≡ s.width → s.image.height ≡ s.height
    → seen_file filter s tile path i ≡ plain_file filter s.image tile path i
unfolding plain_file plain_samples
whole_file Bilinear s tile path i none wide high = refl
whole_file Nearest s tile path i none wide high =
    let d : ℕ = s.image.depth in
    ap (λ (n : ℕ). picture_bytes d path.width path.height (plain_picture d (levels_from n (chain_of s.image)) (seen_surface s tile) path i)) none
    ∙ ap (λ (source : ℕ → ℕ → ℕ → ℕ). picture_bytes d path.width path.height (plain_picture d source (seen_surface s tile) path i)) (levels_whole (chain_of s.image))
    ∙ ap (λ (f : Surface). picture_bytes d path.width path.height (plain_picture d (chain_of s.image) f path i)) (seen_whole s tile wide high)

-- of level 1 alone too, where no row wants level 0
pub half_file : (s : Seen) (t : ImageView) (tile : ℕ) (path : PathView) (i : ℕ) → s.skipped ≡ 1 → s.width ≡ t.width → s.height ≡ t.height
    → IsLevel t 1 s.image → 1 ≤ t.width → 1 ≤ t.height
    → ((y : ℕ) → y < path.height → 1 ≤ row_level (row_of path (camera_at path i) y (surface_of t tile)))
    → seen_file Nearest s tile path i ≡ plain_file Nearest t tile path i
unfolding plain_file
half_file s t tile path i one wide high level some_columns some_rows wants =
    let d : ℕ = s.image.depth in
    let surface : seen_surface s tile ≡ surface_of t tile =
    ap (λ (w : ℕ). let f : Surface = record { width = w; height = s.height; levels = level_count w s.height tile } in f) wide
    ∙ ap (λ (h : ℕ). let f : Surface = record { width = t.width; height = h; levels = level_count t.width h tile } in f) high in
    ap (λ (n : ℕ). picture_bytes d path.width path.height (plain_picture d (levels_from n (chain_of s.image)) (seen_surface s tile) path i)) one
    ∙ ap (λ (f : Surface). picture_bytes d path.width path.height (plain_picture d (levels_from 1 (chain_of s.image)) f path i)) surface
    ∙ ap (λ (l : List ℕ). picture_bytes d path.width path.height l) (pictures_go_on t s.image tile path i level some_columns some_rows wants)
    ∙ ap (λ (n : ℕ). picture_bytes n path.width path.height (plain_samples t tile path i)) level.depth

-- a texture that was opened, read by strips and closed
module _ (name : List ℕ) (h : Header) (before opened after : FolderState) (old new : OpenFileState)
    (o : OpensTexture name h old (record { before = before; after = opened })) (c : Closed new (record { before = opened; after = after }))
    (same : new.name ≡ old.name) where
  asked : (places : List Place) → AreStrips h 128 places → new.asked ≡ option_map (λ held. held ++ places) old.asked
      → IsInputAsked (TextureInput name) (record { before = before; after = after })
  asked places are gained =
      let all = strips_asked name old.name 128 old.bytes _ h places before.asked after.asked old.asked o.bytes o.asked o.name_is are
      (closed_places before opened after old new places gained same o.no_places c) in
      (all.0, inr all.1, all.2)

  faults : before.faults ≤ after.faults
  faults = let first : before.faults ≤ opened.faults = o.faults in let more : opened.faults ≤ after.faults = c.kept in omega (arith, first, more)

  pub coarse_took : AreImageSides most_read_side h.width h.height → StripsAsked h 128 (strips_of h 128) old.asked new.asked
      → TookInput (TextureInput name) (TextureContent (texture_of h (unwrap_or old.bytes []))) (record { before = before; after = after })
  coarse_took sides read = record {
    held = λ known.
        let there = texture_there name h old (record { before = before; after = opened }) o known in
        let is : unwrap_or old.bytes [] ≡ there.0 = ap (λ (t : Option (List ℕ)). unwrap_or t []) there.1 in
        record {
          bytes = there.0;
          there = there.2;
          is = rw is (texture_within_sides most_read_side there.0 (texture_of h there.0) sides there.3);
        };
    files = c.files ∙ o.files;
    asked = asked (strip_places h 128 (strips_of h 128)) (strips_of h 128, omega arith, inl refl) read;
    faults = faults;
  }

  cause : (error : OutsideError) → (error ≡ outside.Failed → Rose old.faults new.faults)
      → IsRefusalCausedBy (TextureInput name) (record { before = before; after = after }) (cause_of error)
  cause outside.Failed rose = inl (rise before.faults opened.faults after.faults old.faults new.faults o.faults c.kept c.faults (inr (rose refl)))
  cause outside.NoMemory rose = tt

  pub coarse_refused : (error : OutsideError) → StripsTried h 128 old.asked new.asked → (error ≡ outside.Failed → Rose old.faults new.faults)
      → Refused (TextureInput name) (cause_of error) (record { before = before; after = after })
  coarse_refused error tried rose =
      let some = strips_tried h 128 old.asked new.asked tried in
      record { cause = cause error rose; files = c.files ∙ o.files; asked = inr (asked some.0 some.1 some.2); faults = faults }

-- what is there suffices
pub enough_of : (known : Option (List ℕ)) (h : Header) (tile : ℕ) (path : PathView) (s : Seen) → 1 ≤ tile → IsTextureHeader h → IsSeenOf known h tile s
    → ((surface : Surface) (picture y : ℕ) → 2 ≤ surface.levels → picture < length path.cameras → y < path.height
    → 1 ≤ row_level (row_of path (camera_at path picture) y surface))
    → IsEnough s tile path
enough_of known h tile path s some header is wants = record {
  limits = record {
    width_low = omega (arith, is.width, header.sides.some_columns);
    width_high = omega (arith, is.width, header.sides.few_columns);
    height_low = omega (arith, is.height, header.sides.some_rows);
    height_high = omega (arith, is.height, header.sides.few_rows);
    some_level = (level_count_least s.width s.height tile some).some;
  };
  sides = is.sides;
  none = λ picture y inside low. elim is.sides [
    | inl whole ↦ omega (arith, whole.0)
    | inr half ↦ (let far = wants (seen_surface s tile) picture y half.1 inside low in omega (arith, half.0, far))
  ];
}

-- and its pictures are those of the texture, where the bytes are known
pub files_of : (b : List ℕ) (known : Option (List ℕ)) (h : Header) (tile : ℕ) (path : PathView) (s : Seen) (picture : ℕ) → known ≡ Some b
    → IsTexture b (texture_of h b) → IsSeenOf known h tile s → picture < length path.cameras
    → ((surface : Surface) (picture y : ℕ) → 2 ≤ surface.levels → picture < length path.cameras → y < path.height
    → 1 ≤ row_level (row_of path (camera_at path picture) y surface))
    → seen_file Nearest s tile path picture ≡ plain_file Nearest (texture_of h b) tile path picture
files_of b known h tile path s picture e texture is inside wants = elim is.sides [
  | inl whole ↦ whole_file Nearest s tile path picture whole.0 whole.1 whole.2
      ∙ ap (λ (t : ImageView). plain_file Nearest t tile path picture) (is.whole whole.0 b e)
  | inr half ↦
      let level = half_is_next (texture_of h b) s.image texture.image.depth texture.image.some_columns texture.image.some_rows texture.bytes
      ((is.half half.0).1 b e) (is.half half.0).0 in
      half_file s (texture_of h b) tile path picture half.0 is.width is.height level texture.image.some_columns texture.image.some_rows
      (λ y low. wants (surface_of (texture_of h b) tile) picture y
      (omega (arith, half.1, ap (λ (w : ℕ). level_count w s.height tile) is.width, ap (λ (n : ℕ). level_count h.width n tile) is.height)) inside low)
]

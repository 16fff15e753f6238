-- The pictures of what is there of a texture, as callers expect them.
use Rattle.std.proofs.Common.{◌≡◌, ℕ, ◌+◌, ◌≤◌, List, [], ◌∷◌, length, Option, Some, None, Ok, Err, refl, sym, ap, subst, ◌∙◌, inl, inr, arith}
use Rattle.std.specs.Prelude.{Result}
use Rattle.std.specs.Option.{option_map, IsSome}
use Rattle.vt_definitions.specs.Limits.{most_levels}
use Rattle.vt_definitions.specs.Sides.{side, level_count}
use Rattle.vt_definitions.specs.Tiles.{IsTileSide}
use Rattle.vt_definitions.proofs.Levels.{level_count_least}
use Rattle.vt_outside.specs.Files.{Files}
use Rattle.vt_outside.specs.declared.answers.OutsideError.{OutsideError}
use Rattle.vt_ppm.specs.Picture.{picture_bytes}
use Rattle.vt_mip.specs.Chains.{ChainView, chain_levels}
use Rattle.vt_mip.proofs.Following.{levels_go_on}
use Rattle.vt_mip.proofs.Fronts.{side_scaled}
use Rattle.vt_camera.specs.declared.surfaces.Surface.{Surface}
use Rattle.vt_camera.specs.Paths.{PathView, camera_at}
use Rattle.vt_camera.specs.Rows.{row_of, row_level}
use Rattle.vt_plain.specs.declared.plain.Levels.{Levels}
use Rattle.vt_plain.specs.Plain.{chain_of, levels_from, plain_picture, surface_of}
use Rattle.vt_plain.proofs.WantedLevels.{later_levels, whole_levels}
use Rattle.vt_plain.specs.BlendedPlain.{plain_blends}
use Rattle.vt_outside.specs.Effects.{CallEffect, FolderEffect}
use Rattle.vt_outside.specs.Expectations.{ExpectedFile, IsWrittenPrefix, IsPart, Leaves, Writes, with_files}
use Rattle.vt_pictures.specs.Pictures.{expected_pictures}
use Rattle.vt_outside.proofs.Writing.{part_none}
use Rattle.vt_command_words.specs.declared.filters.Filtering.{Filtering}
use Rattle.vt_command_words.specs.declared.filters.Filtering.TheVariants.{Nearest, Bilinear}
use Rattle.vt_store_commands.specs.PlainFiles.{AreLevelsWanted, file_with}
use Rattle.vt_store_commands.specs.SeenTextures.{HasSides, IsEnough, seen_file, seen_surface}
use Rattle.vt_store_commands.specs.declared.seen_textures.Seen.{Seen}
use Rattle.vt_store_commands.proofs.Drawing.{pictures_alike}
use Rattle.vt_store_commands.proofs.SeenTextures.{seen_whole, tile_two}

-- the files of levels that were made of what is there
pub file_seen : (filter : Filtering) (l : Levels) (s : Seen) (tile : ℕ) (path : PathView) (i : ℕ) → l.chain.now ≡ record { base = s.image; tile = tile }
    → l.skipped ≡ s.skipped → l.surface ≡ seen_surface s tile → file_with filter l path i ≡ seen_file filter s tile path i
file_seen Nearest l s tile path i chain skipped surface =
    let d : ChainView → ℕ = λ v. v.base.depth in
    ap (λ (v : ChainView). picture_bytes (d v) path.width path.height (plain_picture (d v) (levels_from l.skipped (chain_of v.base)) l.surface path i)) chain
    ∙ ap (λ (n : ℕ). picture_bytes s.image.depth path.width path.height (plain_picture s.image.depth (levels_from n (chain_of s.image)) l.surface path i)) skipped
    ∙ ap (λ (f : Surface). picture_bytes s.image.depth path.width path.height (plain_picture s.image.depth (levels_from s.skipped (chain_of s.image)) f path i)) surface
file_seen Bilinear l s tile path i chain skipped surface =
    ap (λ (v : ChainView). picture_bytes v.base.depth path.width path.height (plain_blends v.base v.tile path i)) chain

-- the largest texture has fourteen levels
pub levels_few : (w h t : ℕ) → IsTileSide t → w ≤ 16384 → h ≤ 16384 → level_count w h t ≤ most_levels
levels_few w h t side wide high =
    let two : 2 ≤ t = tile_two t side in
    (level_count_least w h t (omega (arith, two))).least 13 (omega (arith, two, side_scaled w 13 2 (omega (arith, wide))))
    (omega (arith, two, side_scaled h 13 2 (omega (arith, high))))

-- the surface of a chain and of the levels that are left out
pub surface_is : (s : Seen) (tile n : ℕ) (v : ChainView) → 1 ≤ tile → HasSides s tile → v ≡ record { base = s.image; tile = tile } → n ≡ chain_levels v
    → (let f : Surface = record { width = s.width; height = s.height; levels = n + s.skipped } in f) ≡ seen_surface s tile
surface_is s tile n v some sides chain is =
    ap (λ (m : ℕ). let f : Surface = record { width = s.width; height = s.height; levels = m } in f)
    (let whole : n ≡ level_count s.image.width s.image.height tile = is ∙ ap chain_levels chain in elim sides [
      | inl all ↦ omega (arith, whole, all.0, ap (λ (w : ℕ). level_count w s.image.height tile) all.1, ap (λ (h : ℕ). level_count s.width h tile) all.2)
      | inr half ↦ omega (
        arith,
        whole,
        half.0,
        ap (λ (w : ℕ). level_count w s.image.height tile) half.2,
        ap (λ (h : ℕ). level_count (side s.width 1) h tile) half.3,
        levels_go_on s.width s.height tile some half.1,
      )
    ])

-- what was written of such levels
pub writes_seen : (filter : Filtering) (l : Levels) (s : Seen) (tile : ℕ) (path : PathView) (prefix : List ℕ) (p : FolderEffect)
    (r : Result (Unit {0}) OutsideError) → l.chain.now ≡ record { base = s.image; tile = tile } → l.skipped ≡ s.skipped → l.surface ≡ seen_surface s tile
    → Writes (expected_pictures prefix (file_with filter l path) (length path.cameras)) p r
    → Writes (expected_pictures prefix (seen_file filter s tile path) (length path.cameras)) p r
writes_seen filter l s tile path prefix p r chain skipped surface wrote =
    subst (λ (files : List ExpectedFile). Writes files p r) (pictures_alike prefix (file_with filter l path) (seen_file filter s tile path)
    (length path.cameras) (λ i low. file_seen filter l s tile path i chain skipped surface)) wrote

-- such levels are those that the pictures want
pub levels_seen : (l : Levels) (s : Seen) (tile : ℕ) (path : PathView) → 1 ≤ tile → IsEnough s tile path → l.chain.now ≡ record { base = s.image; tile = tile }
    → l.skipped ≡ s.skipped → l.surface ≡ seen_surface s tile → level_count s.width s.height tile ≤ most_levels → AreLevelsWanted l path
levels_seen l s tile path some enough chain skipped surface few = record {
  levels = elim enough.sides [
    | inl whole ↦ whole_levels l (seen_surface s tile) (skipped ∙ whole.0) surface
        (seen_whole s tile whole.1 whole.2 ∙ ap (λ (v : ChainView). surface_of v.base v.tile) (sym chain)) enough.limits few
    | inr half ↦ later_levels l (record { depth = 1; width = s.width; height = s.height; samples = [] }) tile (skipped ∙ half.0) surface
        (ap (λ (v : ChainView). v.tile) chain) some half.1 enough.limits few
        (ap (λ (v : ChainView). v.base.width) chain ∙ half.2) (ap (λ (v : ChainView). v.base.height) chain ∙ half.3)
  ];
  wants = λ picture inside y low.
      let none = enough.none picture y inside low in
      let same = ap (λ (f : Surface). row_level (row_of path (camera_at path picture) y f)) surface in
      omega (arith, none, same, skipped);
}

-- what is left of files where the folder tells, and of any where it does not
none_after : (files : List ExpectedFile) (after : Option Files) → IsPart files None after → after ≡ None
none_after files after part = front part.rest part.front
  where
    front : (rest : List ExpectedFile) → IsWrittenPrefix rest None after → after ≡ None
    front [] is = is
    front (x ∷ xs) (inl is) = is
    front (x ∷ xs) (inr is) = is.1

part_alike : (files other : List ExpectedFile) (known after : Option Files) → (IsSome known → files ≡ other) → IsPart files known after → IsPart other known after
part_alike files other (Some f) after same part = subst (λ (l : List ExpectedFile). IsPart l (Some f) after) (same refl) part
part_alike files other None after same part = part_none other None after (none_after files after part)

whole_alike : (files other : List ExpectedFile) (known after : Option Files) → (IsSome known → files ≡ other) → after ≡ option_map (with_files files) known
    → after ≡ option_map (with_files other) known
whole_alike files other (Some f) after same is = is ∙ ap (λ (l : List ExpectedFile). Some (with_files l f)) (same refl)
whole_alike files other None after same is = is

pub leaves_alike : (files other : List ExpectedFile) (text : List ℕ) (c : CallEffect) (r : Result (Unit {0}) OutsideError)
    → (IsSome c.folder.before.files → files ≡ other)
    → Leaves (record { files = files; text = text }) c r → Leaves (record { files = other; text = text }) c r
leaves_alike files other text c (Ok u) same left = (
  left.0,
  record { files = whole_alike files other c.folder.before.files c.folder.after.files same left.1.files; out = left.1.out },
)
leaves_alike files other text c (Err e) same left = (
  left.0,
  record {
    files = part_alike files other c.folder.before.files c.folder.after.files same left.1.files;
    out = elim left.1.out [
      | inl is ↦ inl is
      | inr is ↦ inr (whole_alike files other c.folder.before.files c.folder.after.files same is.0, is.1, is.2)
    ];
  },
  left.2,
)

use Rattle.std.proofs.Common.{◌≡◌, ℕ, ◌+◌, ◌*◌, length, refl, sym, ap, ◌∙◌, arith}
use Rattle.vt_definitions.specs.Depths.{texel_length}
use Rattle.vt_ppm.specs.declared.header.Header.{Header}
use Rattle.vt_ppm.specs.Format.{depth_of}
use Rattle.vt_ppm.specs.StripPlaces.{strip_rows}
use Rattle.vt_ppm.specs.Strips.{row_length, texture_of}
use Rattle.vt_tiles.specs.Format.{tile_length}
use Rattle.vt_store.proofs.StripLevels.{strip_low}
use Rattle.vt_store.proofs.StripTiles.{is_strip, strip_length, strip_made, strip_piece}
use Rattle.vt_store.proofs.StripSteps.{is_next}
use Rattle.vt_store.proofs.strip.finish_strip.Goals as goal

pub overflow_mul-y : goal.overflow_mul-y
overflow_mul-y g c =
    let low = strip_low c.args.geometry.now c.args.strip (omega (arith, c.tile-side.ensures.limits.least_tile)) c.requires.there.inside in
    let along : c.args.strip * c.tile-side.result ≡ c.args.strip * c.args.geometry.now.tile = ap (λ (n : ℕ). c.args.strip * n) c.tile-side.ensures.tile in
    omega (arith, low, along, c.tile-side.ensures.limits.most_height)

pub overflow_sub-height : goal.overflow_sub-height
overflow_sub-height g c =
    let low = strip_low c.args.geometry.now c.args.strip (omega (arith, c.tile-side.ensures.limits.least_tile)) c.requires.there.inside in
    let along : c.args.strip * c.tile-side.result ≡ c.args.strip * c.args.geometry.now.tile = ap (λ (n : ℕ). c.args.strip * n) c.tile-side.ensures.tile in
    omega (arith, low, along, c.height.ensures.height)

pub halve_and_cut-requires-clause-some : goal.halve_and_cut-requires-clause-some
halve_and_cut-requires-clause-some g c κs within =
    let is = is_strip c.args.geometry.now c.args.chain.now.header c.args.chain.now.tile c.args.strip c.tile-side.result
    (c.args.strip * c.tile-side.result) c.height.result c.min-count.result c.tile_columns-columns.result c.requires.there.shape
    c.tile-side.ensures.limits c.requires.there.inside c.tile-side.ensures.tile c.height.ensures.height refl c.min-count.ensures
    c.tile_columns-columns.ensures.value in
    is.some

pub halve_and_cut-requires-clause-inside : goal.halve_and_cut-requires-clause-inside
halve_and_cut-requires-clause-inside g c κs within =
    let is = is_strip c.args.geometry.now c.args.chain.now.header c.args.chain.now.tile c.args.strip c.tile-side.result
    (c.args.strip * c.tile-side.result) c.height.result c.min-count.result c.tile_columns-columns.result c.requires.there.shape
    c.tile-side.ensures.limits c.requires.there.inside c.tile-side.ensures.tile c.height.ensures.height refl c.min-count.ensures
    c.tile_columns-columns.ensures.value in
    omega (arith, is.ends, is.height, is.place, c.requires.there.taken, c.requires.there.height)

pub overflow_mul-strip : goal.overflow_mul-strip
overflow_mul-strip g c =
    let is = is_strip c.args.geometry.now c.args.chain.now.header c.args.chain.now.tile c.args.strip c.tile-side.result
    (c.args.strip * c.tile-side.result) c.height.result c.min-count.result c.tile_columns-columns.result c.requires.there.shape
    c.tile-side.ensures.limits c.requires.there.inside c.tile-side.ensures.tile c.height.ensures.height refl c.min-count.ensures
    c.tile_columns-columns.ensures.value in
    omega (arith, is.page, c.tile-side.ensures.limits.most_pages)

pub halve_and_cut-requires-clause-page : goal.halve_and_cut-requires-clause-page
halve_and_cut-requires-clause-page g c κs within =
    let is = is_strip c.args.geometry.now c.args.chain.now.header c.args.chain.now.tile c.args.strip c.tile-side.result
    (c.args.strip * c.tile-side.result) c.height.result c.min-count.result c.tile_columns-columns.result c.requires.there.shape
    c.tile-side.ensures.limits c.requires.there.inside c.tile-side.ensures.tile c.height.ensures.height refl c.min-count.ensures
    c.tile_columns-columns.ensures.value in
    is.page

pub halve_and_cut-requires-clause-row : goal.halve_and_cut-requires-clause-row
halve_and_cut-requires-clause-row g c κs within =
    let is = is_strip c.args.geometry.now c.args.chain.now.header c.args.chain.now.tile c.args.strip c.tile-side.result
    (c.args.strip * c.tile-side.result) c.height.result c.min-count.result c.tile_columns-columns.result c.requires.there.shape
    c.tile-side.ensures.limits c.requires.there.inside c.tile-side.ensures.tile c.height.ensures.height refl c.min-count.ensures
    c.tile_columns-columns.ensures.value in
    is.along

pub halve_and_cut-requires-clause-rows : goal.halve_and_cut-requires-clause-rows
halve_and_cut-requires-clause-rows g c κs within =
    let is = is_strip c.args.geometry.now c.args.chain.now.header c.args.chain.now.tile c.args.strip c.tile-side.result
    (c.args.strip * c.tile-side.result) c.height.result c.min-count.result c.tile_columns-columns.result c.requires.there.shape
    c.tile-side.ensures.limits c.requires.there.inside c.tile-side.ensures.tile c.height.ensures.height refl c.min-count.ensures
    c.tile_columns-columns.ensures.value in
    strip_length c.args.geometry.now c.args.chain.now.header c.args.strip (c.args.strip * c.tile-side.result) c.min-count.result
    c.tile_columns-columns.result c.depth-depth.result (length c.args.rows.now) is c.depth-depth.ensures.value c.requires.rows

pub halve_and_cut-requires-clause-whole : goal.halve_and_cut-requires-clause-whole
halve_and_cut-requires-clause-whole g c κs within =
    let is = is_strip c.args.geometry.now c.args.chain.now.header c.args.chain.now.tile c.args.strip c.tile-side.result
    (c.args.strip * c.tile-side.result) c.height.result c.min-count.result c.tile_columns-columns.result c.requires.there.shape
    c.tile-side.ensures.limits c.requires.there.inside c.tile-side.ensures.tile c.height.ensures.height refl c.min-count.ensures
    c.tile_columns-columns.ensures.value in
    let h = c.args.chain.now.header in
    let half = c.args.half.now in
    let count = c.min-count.result in
    let here : length c.args.rows.now ≡ count * (texel_length half.depth * half.width) =
    c.requires.rows ∙ ap (λ (n : ℕ). n * row_length h) (sym is.counts) ∙ ap (λ (n : ℕ). count * (texel_length n * h.width)) (sym c.requires.there.depth)
    ∙ ap (λ (n : ℕ). count * (texel_length half.depth * n)) (sym c.requires.there.width) in
    here ∙ (let same : count * (texel_length half.depth * half.width) ≡ texel_length half.depth * (half.width * count) = omega arith in same)

pub halve_and_cut-requires-clause-depth : goal.halve_and_cut-requires-clause-depth
halve_and_cut-requires-clause-depth g c κs within = c.depth-depth.ensures.depth

pub halve_and_cut-requires-clause-room : goal.halve_and_cut-requires-clause-room
halve_and_cut-requires-clause-room g c κs within =
    c.requires.tiles
    ∙ ap (λ (n : ℕ). n * tile_length c.args.geometry.now (depth_of c.args.chain.now.header.maximum)) (sym c.tile_columns-columns.ensures.value)
    ∙ ap (λ (n : ℕ). c.tile_columns-columns.result * tile_length c.args.geometry.now n) (sym c.depth-depth.ensures.value)

pub returns : goal.returns
returns g c = record {
  made = λ a next kept was.
      let is = is_strip c.args.geometry.now c.args.chain.now.header c.args.chain.now.tile c.args.strip c.tile-side.result
      (c.args.strip * c.tile-side.result) c.height.result c.min-count.result c.tile_columns-columns.result c.requires.there.shape
      c.tile-side.ensures.limits c.requires.there.inside c.tile-side.ensures.tile c.height.ensures.height refl c.min-count.ensures
      c.tile_columns-columns.ensures.value in
      let s = c.args.geometry.now in
      let h = a.header in
      let mine = is_next s c.args.strip a c.tile_columns-columns.result next c.tile-side.ensures.limits c.tile_columns-columns.ensures.value in
      let deep : c.depth-depth.result ≡ depth_of h.maximum = c.depth-depth.ensures.value ∙ ap (λ (x : Header). depth_of x.maximum) kept.header in
      let y : ℕ = c.args.strip * s.tile in
      let count : ℕ = strip_rows h s.tile c.args.strip in
      record {
        read = was.read;
        tiles = strip_made a.known s h c.args.strip y count c.tile_columns-columns.result c.depth-depth.result c.args.rows.now c.halve_and_cut.new.tiles mine
            deep was.texture was.rows c.halve_and_cut.ensures.tiles;
        halves = λ b e before. c.halve_and_cut.ensures.halves (texture_of h b) (was.halves (texture_of h b) before)
            (strip_piece a.known s h c.args.strip y count c.tile_columns-columns.result c.args.half.now.taken c.args.rows.now mine c.requires.there.taken
            was.texture was.rows b e);
        taken = c.halve_and_cut.ensures.taken ∙ ap (λ (n : ℕ). n + c.min-count.result) was.taken
            ∙ ap (λ (n : ℕ). a.half.taken + n) (is.counts ∙ ap (λ (x : Header). strip_rows x s.tile c.args.strip) kept.header);
        depth = c.halve_and_cut.ensures.depth ∙ was.depth;
        width = c.halve_and_cut.ensures.width ∙ was.width;
        height = c.halve_and_cut.ensures.height ∙ was.height;
      };
}

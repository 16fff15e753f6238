use Rattle.std.proofs.Common.{ℕ, ◌+◌, ◌*◌, subst, ap, ◌∙◌, arith}
use Rattle.vt_definitions.specs.Depths.{word_bytes, word_at}
use Rattle.vt_camera.specs.Rows.{row_level}
use Rattle.vt_mip.specs.Chains.{chain_width, chain_height, IsTexelRaster}
use Rattle.vt_plain.specs.Plain.{chain_of}
use Rattle.vt_blend.specs.Blends.{blend_bytes}
use Rattle.vt_plain.proofs.PlainBlends.{row_is, word_is, raster_word, pixel_more}
use Rattle.vt_plain.proofs.blended.blend_row.Goals as goal

pub loop-x-init : goal.loop-x-init
loop-x-init g c = λ i none. absurd (omega (arith, none))

pub loop-x-preserved : goal.loop-x-preserved
loop-x-preserved g c =
    let d = g.row.DEPTH in
    let chain = c.args.chain.now in
    let row = c.args.row in
    let x = c.loop-x.x in
    let level = c.level-level.result in
    let bytes = c.samples-texels.result.now in
    let wide = c.size-wide.result.0 in
    let high = c.size-wide.result.1 in
    let P : ℕ → Type 0 = λ e. IsTexelRaster e (chain_of chain.base level) (chain_width chain level) (chain_height chain level) bytes in
    let raster = subst P c.requires.own c.samples-texels.ensures in
    let word =
    word_is d row x wide high c.blend_words.result (λ u v. word_at d bytes (v * wide + u)) (chain_of chain.base (row_level row))
    c.corners_of-at.result c.weights_of.result c.texels_about-words.result c.corners_of-at.ensures.value c.corners_of-at.ensures.inside
    c.weights_of.ensures.value c.texels_about-words.ensures
    (raster_word d chain.base level (row_level row) (chain_width chain level) (chain_height chain level) wide high bytes c.requires.depth
    c.requires.own c.texture_samples_are_bytes.ensures c.level-level.ensures.value c.size-wide.ensures.width c.size-wide.ensures.height raster
    c.chain_words_are_small.ensures c.texels_with_bytes_have_words.ensures)
    c.blend_words.ensures in
    pixel_more d x (λ i. blend_bytes d row i (chain_of chain.base (row_level row))) c.loop-x.out c.put_word.new.bytes c.put_word.ensures.kept
    (c.put_word.ensures.written ∙ ap (word_bytes d) word) c.loop-x.invariant

pub returns : goal.returns
returns g c =
    row_is g.row.DEPTH (chain_of c.args.chain.now.base) c.args.row c.args.columns c.loop-x.out (c.loop-x.auto.out ∙ c.requires.room)
    (λ x below. c.loop-x.invariant x (omega (arith, below)))

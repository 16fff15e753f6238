use Rattle.std.proofs.Common.{◌≡◌, ℕ, ◌+◌, ◌*◌, ◌<◌, ◌^◌, slice_index, sym, ap, ◌∙◌, subst, arith}
use Rattle.vt_pages.specs.Depths.{texel_length}
use Rattle.vt_draw.proofs.DrawnRows.{two_left, drawn_as, counted_as}
use Rattle.vt_draw.proofs.shots.draw_row.Goals as goal

pub draw_pixels-requires-clause-bytes : goal.draw_pixels-requires-clause-bytes
draw_pixels-requires-clause-bytes g c =
    let depth : 1 ≡ c.args.shot.now.depth = sym c.if-shot-eq1.true in
    c.requires.bytes ∙ ap (λ (n : ℕ). texel_length n * c.args.shot.now.path.now.width) (sym depth)
    ∙ ap (λ (n : ℕ). texel_length 1 * n) (sym c.width-columns.ensures.value)

pub draw_pixels-requires-clause-room : goal.draw_pixels-requires-clause-room
draw_pixels-requires-clause-room g c = λ p below.
    subst (λ (n : ℕ). slice_index c.args.counts.now p + n < 2 ^ 32) (sym c.width-columns.ensures.value) (c.requires.room p below)

pub returns-then-shot-eq1-clause-drawn : goal.returns-then-shot-eq1-clause-drawn
returns-then-shot-eq1-clause-drawn g c =
    let depth : 1 ≡ c.args.shot.now.depth = sym c.if-shot-eq1.true in
    drawn_as c.args.shot.now.geometry.now 1 c.args.shot.now.depth (g.K.Lookup.version c.draw_pixels.new.lookup) (g.K.Lookup.says c.draw_pixels.new.lookup)
    c.row_of-row.result _ c.width-columns.result c.args.shot.now.path.now.width c.draw_pixels.new.out depth c.row_of-row.ensures.row
    c.width-columns.ensures.value c.draw_pixels.ensures.drawn

pub returns-then-shot-eq1-clause-counted : goal.returns-then-shot-eq1-clause-counted
returns-then-shot-eq1-clause-counted g c =
    counted_as c.args.shot.now.geometry.now c.row_of-row.result _ c.width-columns.result c.args.shot.now.path.now.width c.args.counts.now
    c.draw_pixels.new.counts c.row_of-row.ensures.row c.width-columns.ensures.value c.draw_pixels.ensures.counted

pub draw_pixels-requires-else-shot-eq1-clause-bytes : goal.draw_pixels-requires-else-shot-eq1-clause-bytes
draw_pixels-requires-else-shot-eq1-clause-bytes g c =
    let depth : 2 ≡ c.args.shot.now.depth = two_left c.args.shot.now.depth c.requires.depth c.if-shot-eq1.false in
    c.requires.bytes ∙ ap (λ (n : ℕ). texel_length n * c.args.shot.now.path.now.width) (sym depth)
    ∙ ap (λ (n : ℕ). texel_length 2 * n) (sym c.width-columns.ensures.value)

pub draw_pixels-requires-else-shot-eq1-clause-room : goal.draw_pixels-requires-else-shot-eq1-clause-room
draw_pixels-requires-else-shot-eq1-clause-room g c = λ p below.
    subst (λ (n : ℕ). slice_index c.args.counts.now p + n < 2 ^ 32) (sym c.width-columns.ensures.value) (c.requires.room p below)

pub returns-else-shot-eq1-clause-drawn : goal.returns-else-shot-eq1-clause-drawn
returns-else-shot-eq1-clause-drawn g c =
    let depth : 2 ≡ c.args.shot.now.depth = two_left c.args.shot.now.depth c.requires.depth c.if-shot-eq1.false in
    drawn_as c.args.shot.now.geometry.now 2 c.args.shot.now.depth (g.K.Lookup.version c.draw_pixels-else-shot-eq1.new.lookup)
    (g.K.Lookup.says c.draw_pixels-else-shot-eq1.new.lookup)
    c.row_of-row.result _ c.width-columns.result c.args.shot.now.path.now.width c.draw_pixels-else-shot-eq1.new.out depth c.row_of-row.ensures.row
    c.width-columns.ensures.value c.draw_pixels-else-shot-eq1.ensures.drawn

pub returns-else-shot-eq1-clause-counted : goal.returns-else-shot-eq1-clause-counted
returns-else-shot-eq1-clause-counted g c =
    counted_as c.args.shot.now.geometry.now c.row_of-row.result _ c.width-columns.result c.args.shot.now.path.now.width c.args.counts.now
    c.draw_pixels-else-shot-eq1.new.counts c.row_of-row.ensures.row c.width-columns.ensures.value c.draw_pixels-else-shot-eq1.ensures.counted

pub row_of-row-requires-clause-picture : goal.row_of-row-requires-clause-picture
row_of-row-requires-clause-picture g c = c.requires.picture

pub row_of-row-requires-clause-within : goal.row_of-row-requires-clause-within
row_of-row-requires-clause-within g c = c.requires.within

pub draw_pixels-requires-clause-limits : goal.draw_pixels-requires-clause-limits
draw_pixels-requires-clause-limits g c = c.row_of-row.ensures.limits

pub draw_pixels-requires-clause-surface : goal.draw_pixels-requires-clause-surface
draw_pixels-requires-clause-surface g c = c.row_of-row.ensures.surface

pub draw_pixels-requires-clause-pages : goal.draw_pixels-requires-clause-pages
draw_pixels-requires-clause-pages g c = c.requires.pages

pub draw_pixels-requires-clause-shape : goal.draw_pixels-requires-clause-shape
draw_pixels-requires-clause-shape g c = c.requires.shape

pub draw_pixels-requires-clause-width : goal.draw_pixels-requires-clause-width
draw_pixels-requires-clause-width g c = omega (arith, c.row_of-row.ensures.width, c.width-columns.ensures.value)

pub returns-then-shot-eq1-clause-said : goal.returns-then-shot-eq1-clause-said
returns-then-shot-eq1-clause-said g c = c.draw_pixels.ensures.said

pub returns-then-shot-eq1-clause-version : goal.returns-then-shot-eq1-clause-version
returns-then-shot-eq1-clause-version g c = c.draw_pixels.ensures.version

pub returns-then-shot-eq1-clause-shape : goal.returns-then-shot-eq1-clause-shape
returns-then-shot-eq1-clause-shape g c = c.draw_pixels.ensures.shape

pub draw_pixels-requires-else-shot-eq1-clause-limits : goal.draw_pixels-requires-else-shot-eq1-clause-limits
draw_pixels-requires-else-shot-eq1-clause-limits g c = c.row_of-row.ensures.limits

pub draw_pixels-requires-else-shot-eq1-clause-surface : goal.draw_pixels-requires-else-shot-eq1-clause-surface
draw_pixels-requires-else-shot-eq1-clause-surface g c = c.row_of-row.ensures.surface

pub draw_pixels-requires-else-shot-eq1-clause-pages : goal.draw_pixels-requires-else-shot-eq1-clause-pages
draw_pixels-requires-else-shot-eq1-clause-pages g c = c.requires.pages

pub draw_pixels-requires-else-shot-eq1-clause-shape : goal.draw_pixels-requires-else-shot-eq1-clause-shape
draw_pixels-requires-else-shot-eq1-clause-shape g c = c.requires.shape

pub draw_pixels-requires-else-shot-eq1-clause-width : goal.draw_pixels-requires-else-shot-eq1-clause-width
draw_pixels-requires-else-shot-eq1-clause-width g c = omega (arith, c.row_of-row.ensures.width, c.width-columns.ensures.value)

pub returns-else-shot-eq1-clause-said : goal.returns-else-shot-eq1-clause-said
returns-else-shot-eq1-clause-said g c = c.draw_pixels-else-shot-eq1.ensures.said

pub returns-else-shot-eq1-clause-version : goal.returns-else-shot-eq1-clause-version
returns-else-shot-eq1-clause-version g c = c.draw_pixels-else-shot-eq1.ensures.version

pub returns-then-shot-eq1-clause-kept : goal.returns-then-shot-eq1-clause-kept
returns-then-shot-eq1-clause-kept g c = c.draw_pixels.ensures.kept

pub returns-else-shot-eq1-clause-kept : goal.returns-else-shot-eq1-clause-kept
returns-else-shot-eq1-clause-kept g c = c.draw_pixels-else-shot-eq1.ensures.kept

pub returns-else-shot-eq1-clause-shape : goal.returns-else-shot-eq1-clause-shape
returns-else-shot-eq1-clause-shape g c = c.draw_pixels-else-shot-eq1.ensures.shape

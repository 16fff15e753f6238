use Rattle.std.proofs.Common.{◌≡◌, ℕ, ◌+◌, ◌*◌, ◌<◌, ◌≤◌, subst, sym, ap, ◌∙◌, arith}
use Rattle.std.proofs.Math.Nat.{mul-le-mul_left}
use Rattle.std.specs.Prelude.{slice_index}
use Rattle.vt_pages.specs.Shape.{Shape}
use Rattle.vt_pages.specs.Pages.{levels_of, pages_of, IsWithinLimits}
use Rattle.vt_camera.specs.declared.surfaces.Surface.{Surface}
use Rattle.vt_draw.specs.Lookups.{IsFinestFound, covering_page}
use Rattle.vt_pages.specs.Depths.{texel_bytes, texel_length}
use Rattle.vt_draw.specs.Shots.{wanted_page, pixels_wanting, IsDrawn}
use Rattle.vt_draw.proofs.Counts.{run-none, run_fits, pixels-none, pixels-next}
use Rattle.vt_draw.proofs.DrawnPixels.{finest_moved, drawn-more, wanted_is, read_is}
use Rattle.vt_draw.proofs.shots.draw_pixels.Goals as goal

-- the page of a place is the same by a shape that was kept
same_page : (s t : Shape) (level column line page : ℕ) → page ≡ covering_page s level column line → t ≡ s → page ≡ covering_page t level column line
same_page s t level column line page is kept = is ∙ ap (λ (u : Shape). covering_page u level column line) (sym kept)

pub loop-x-init : goal.loop-x-init
loop-x-init g c = record {
  shape = c.find-found.ensures.shape ∙ c.requires.shape;
  version = c.find-found.ensures.version;
  said = c.find-found.ensures.said;
  kept = c.find-found.ensures.kept;
  finest = c.find-found.ensures.finest;
  drawn = λ i none. absurd (omega arith);
  inside = omega arith;
  short = omega arith;
  counted = λ p. omega (arith, run-none c.page_at_place-wanted.result p, pixels-none c.args.geometry.now c.args.row p);
}

pub count_pixel-run-requires-clause-room : goal.count_pixel-run-requires-clause-room
count_pixel-run-requires-clause-room g c =
    run_fits c.args.geometry.now c.args.row c.loop-x.x c.args.columns c.loop-x.wanted c.loop-x.run c.args.counts.now c.loop-x.counts
    (omega arith) c.loop-x.invariant.inside c.loop-x.invariant.counted c.requires.room

pub add_run-requires-clause-room : goal.add_run-requires-clause-room
add_run-requires-clause-room g c =
    run_fits c.args.geometry.now c.args.row c.loop-x.x c.args.columns c.loop-x.wanted c.loop-x.run c.args.counts.now c.loop-x.counts
    (omega arith) c.loop-x.invariant.inside c.loop-x.invariant.counted c.requires.room

pub loop-x-preserved : goal.loop-x-preserved
loop-x-preserved g c =
    let s = c.args.geometry.now in
    let row = c.args.row in
    let x = c.loop-x.x in
    let page = c.page_at_place-page.result in
    let found = c.found_for-found.result in
    let middle = c.found_for-found.new.lookup in
    let last = c.word_at_place-word.new.lookup in
    let version = g.K.Lookup.version c.args.lookup.now in
    let shape : g.K.Lookup.shape last ≡ s = c.word_at_place-word.ensures.shape ∙ c.found_for-found.ensures.shape ∙ c.loop-x.invariant.shape in
    let number : g.K.Lookup.version last ≡ version = c.word_at_place-word.ensures.version ∙ c.found_for-found.ensures.version ∙ c.loop-x.invariant.version in
    let finest : IsFinestFound (g.K.Lookup.shape last) (g.K.Lookup.version last) (g.K.Lookup.says last) page found =
    finest_moved (g.K.Lookup.shape middle) (g.K.Lookup.shape last) (g.K.Lookup.version middle)
    (g.K.Lookup.version last) (g.K.Lookup.says middle) (g.K.Lookup.says last) page found
    c.word_at_place-word.ensures.shape c.word_at_place-word.ensures.version c.word_at_place-word.ensures.said c.found_for-found.ensures.finest in
    let here = c.texel-column-in-loop-x in
    let wants : page ≡ wanted_page s row x =
    wanted_is s row x page c.level-level.result here.result.0 here.result.1 c.page_at_place-page.ensures.page
    c.level-level.ensures.value here.ensures.column here.ensures.row in
    let F : ℕ → Type 0 = λ p. IsFinestFound s version (g.K.Lookup.says last) p found in
    let drawn : IsDrawn s g.row.DEPTH version (g.K.Lookup.says last) row x (texel_bytes g.row.DEPTH c.put_word.new.bytes x) = record {
      found = found;
      word = c.word_at_place-word.result;
      finest =
          subst F wants
          (finest_moved (g.K.Lookup.shape last) s (g.K.Lookup.version last) version (g.K.Lookup.says last)
          (g.K.Lookup.says last) page found (sym shape) (sym number) (λ note h. h) finest);
      read =
          read_is s (g.K.Lookup.shape last) version (g.K.Lookup.version last) (g.K.Lookup.says last) row x found.slot
          c.word_at_place-word.result found.level here.result.0 here.result.1
          shape number here.ensures.column here.ensures.row c.word_at_place-word.ensures.read;
      shown = c.put_word.ensures.written;
    } in
    record {
      shape = shape;
      version = number;
      said = λ note h. c.word_at_place-word.ensures.said note (c.found_for-found.ensures.said note (c.loop-x.invariant.said note h));
      kept = c.word_at_place-word.ensures.kept ∙ c.found_for-found.ensures.kept ∙ c.loop-x.invariant.kept;
      finest = finest;
      drawn = drawn-more s g.row.DEPTH version (g.K.Lookup.says c.loop-x.lookup) (g.K.Lookup.says last) row x c.loop-x.out c.put_word.new.bytes
          (λ note h. c.word_at_place-word.ensures.said note (c.found_for-found.ensures.said note h)) c.put_word.ensures.kept drawn c.loop-x.invariant.drawn;
      inside = omega arith;
      short = omega (arith, c.count_pixel-run.ensures.short);
      counted = λ p. omega (arith, c.count_pixel-run.ensures.counted p, c.loop-x.invariant.counted p, pixels-next s row x page p wants);
    }

pub page_at_place-wanted-requires-clause-level : goal.page_at_place-wanted-requires-clause-level
page_at_place-wanted-requires-clause-level g c = subst (λ (s : Surface). c.level-level.result < s.levels) c.requires.surface c.level-level.ensures.within

pub page_at_place-wanted-requires-clause-column : goal.page_at_place-wanted-requires-clause-column
page_at_place-wanted-requires-clause-column g c =
    subst (λ (s : Surface). c.texel-column.result.0 < s.width) c.requires.surface c.texel-column.ensures.column_within

pub page_at_place-wanted-requires-clause-line : goal.page_at_place-wanted-requires-clause-line
page_at_place-wanted-requires-clause-line g c = subst (λ (s : Surface). c.texel-column.result.1 < s.height) c.requires.surface c.texel-column.ensures.row_within

pub page_at_place-page-requires-clause-level : goal.page_at_place-page-requires-clause-level
page_at_place-page-requires-clause-level g c = subst (λ (s : Surface). c.level-level.result < s.levels) c.requires.surface c.level-level.ensures.within

pub page_at_place-page-requires-clause-column : goal.page_at_place-page-requires-clause-column
page_at_place-page-requires-clause-column g c =
    subst (λ (s : Surface). c.texel-column-in-loop-x.result.0 < s.width) c.requires.surface c.texel-column-in-loop-x.ensures.column_within

pub page_at_place-page-requires-clause-line : goal.page_at_place-page-requires-clause-line
page_at_place-page-requires-clause-line g c =
    subst (λ (s : Surface). c.texel-column-in-loop-x.result.1 < s.height) c.requires.surface c.texel-column-in-loop-x.ensures.row_within

pub found_for-found-requires-clause-before : goal.found_for-found-requires-clause-before
found_for-found-requires-clause-before g c = c.loop-x.invariant.finest

pub found_for-found-requires-clause-inside : goal.found_for-found-requires-clause-inside
found_for-found-requires-clause-inside g c =
    subst (λ (s : Shape). c.page_at_place-page.result < pages_of s) (sym c.loop-x.invariant.shape) c.page_at_place-page.ensures.inside

pub word_at_place-word-requires-clause-limits : goal.word_at_place-word-requires-clause-limits
word_at_place-word-requires-clause-limits g c = subst IsWithinLimits
    (sym (◌∙◌ {b = g.K.Lookup.shape c.loop-x.lookup} c.found_for-found.ensures.shape c.loop-x.invariant.shape)) c.requires.limits

pub word_at_place-word-requires-clause-level : goal.word_at_place-word-requires-clause-level
word_at_place-word-requires-clause-level g c =
    subst (λ (s : Shape). c.level-level.result < levels_of s)
    (sym (◌∙◌ {b = g.K.Lookup.shape c.loop-x.lookup} c.found_for-found.ensures.shape c.loop-x.invariant.shape))
    (subst (λ (s : Surface). c.level-level.result < s.levels) c.requires.surface c.level-level.ensures.within)

pub word_at_place-word-requires-clause-column : goal.word_at_place-word-requires-clause-column
word_at_place-word-requires-clause-column g c =
    subst (λ (s : Shape). c.texel-column-in-loop-x.result.0 < s.width)
    (sym (◌∙◌ {b = g.K.Lookup.shape c.loop-x.lookup} c.found_for-found.ensures.shape c.loop-x.invariant.shape))
    (subst (λ (s : Surface). c.texel-column-in-loop-x.result.0 < s.width) c.requires.surface c.texel-column-in-loop-x.ensures.column_within)

pub word_at_place-word-requires-clause-line : goal.word_at_place-word-requires-clause-line
word_at_place-word-requires-clause-line g c =
    subst (λ (s : Shape). c.texel-column-in-loop-x.result.1 < s.height)
    (sym (◌∙◌ {b = g.K.Lookup.shape c.loop-x.lookup} c.found_for-found.ensures.shape c.loop-x.invariant.shape))
    (subst (λ (s : Surface). c.texel-column-in-loop-x.result.1 < s.height) c.requires.surface c.texel-column-in-loop-x.ensures.row_within)

pub word_at_place-word-requires-clause-finest : goal.word_at_place-word-requires-clause-finest
word_at_place-word-requires-clause-finest g c =
    let middle = c.found_for-found.new.lookup in
    subst (λ (p : ℕ). IsFinestFound (g.K.Lookup.shape middle) (g.K.Lookup.version middle) (g.K.Lookup.says middle) p c.found_for-found.result)
    (same_page c.args.geometry.now (g.K.Lookup.shape middle) c.level-level.result c.texel-column-in-loop-x.result.0
    c.texel-column-in-loop-x.result.1 c.page_at_place-page.result c.page_at_place-page.ensures.page
    (◌∙◌ {b = g.K.Lookup.shape c.loop-x.lookup} c.found_for-found.ensures.shape c.loop-x.invariant.shape)) c.found_for-found.ensures.finest

pub returns-clause-shape : goal.returns-clause-shape
returns-clause-shape g c = c.loop-x.invariant.shape ∙ sym c.requires.shape

pub returns-clause-version : goal.returns-clause-version
returns-clause-version g c = c.loop-x.invariant.version

pub returns-clause-said : goal.returns-clause-said
returns-clause-said g c = c.loop-x.invariant.said

pub returns-clause-kept : goal.returns-clause-kept
returns-clause-kept g c = c.loop-x.invariant.kept

pub find-found-requires : goal.find-found-requires
find-found-requires g c = subst (λ (s : Shape). c.page_at_place-wanted.result < pages_of s) (sym c.requires.shape) c.page_at_place-wanted.ensures.inside

pub count_pixel-run-requires-clause-before : goal.count_pixel-run-requires-clause-before
count_pixel-run-requires-clause-before g c = subst (λ (n : ℕ). c.loop-x.wanted < n) (sym c.loop-x.auto.counts) c.loop-x.invariant.inside

pub count_pixel-run-requires-clause-short : goal.count_pixel-run-requires-clause-short
count_pixel-run-requires-clause-short g c = omega (arith, c.loop-x.invariant.short)

pub add_run-requires-clause-page : goal.add_run-requires-clause-page
add_run-requires-clause-page g c = subst (λ (n : ℕ). c.loop-x.wanted < n) (sym c.loop-x.auto.counts) c.loop-x.invariant.inside

pub put_word-requires-clause-room : goal.put_word-requires-clause-room
put_word-requires-clause-room g c =
    let z : ℕ = texel_length g.row.DEPTH in
    let room : z * (c.loop-x.x + 1) ≤ z * c.args.columns = mul-le-mul_left z (omega arith) in
    omega (arith, room, c.loop-x.auto.out, c.requires.bytes)

pub returns-clause-drawn : goal.returns-clause-drawn
returns-clause-drawn g c = λ i below.
    subst (λ (v : ℕ). IsDrawn c.args.geometry.now g.row.DEPTH v (g.K.Lookup.says c.loop-x.lookup) c.args.row i (texel_bytes g.row.DEPTH c.loop-x.out i))
    (sym c.loop-x.invariant.version) (c.loop-x.invariant.drawn i (omega (arith, below)))

pub returns-clause-counted : goal.returns-clause-counted
returns-clause-counted g c = λ p inside.
    let all : c.loop-x.x ≡ c.args.columns = omega arith in
    let wanting = ap (λ (n : ℕ). pixels_wanting c.args.geometry.now c.args.row n p) all in
    c.add_run.ensures.added p ∙ c.loop-x.invariant.counted p ∙ ap (λ (n : ℕ). slice_index c.args.counts.now p + n) wanting

use Rattle.std.proofs.Common.{◌≡◌, ℕ, ◌+◌, ◌*◌, ◌≤◌, ◌<◌, subst, sym, ap, ◌∙◌, arith}
use Rattle.std.proofs.Math.Nat.{mul-le-mul_left}
use Rattle.vt_draw.specs.Lookups.{WordNote, IsFinestFound, covering_page, covering_place}
use Rattle.vt_definitions.specs.Depths.{texel_bytes, texel_length}
use Rattle.vt_texel_runs.specs.declared.points.Point.{Point}
use Rattle.vt_texel_runs.specs.Points.{IsAnswered}
use Rattle.vt_texel_runs.specs.Spans.{span_point}
use Rattle.vt_texel_runs.specs.Stretches.{IsStretch}
use Rattle.vt_texel_runs.proofs.Answering.{read_moved}
use Rattle.vt_texel_runs.proofs.Spanning.{spanned_more, wanted_more, stretch_on}
use Rattle.vt_texel_runs.proofs.spans.read_each.Goals as goal

pub loop-i-preserved : goal.loop-i-preserved
loop-i-preserved g c =
    let s = c.args.geometry.now in
    let r = c.args.span in
    let x = c.loop-i.i in
    let stretch = c.stretch_for-stretch.result in
    let middle = c.stretch_for-stretch.new.lookup in
    let last = c.word_at_place-word.new.lookup in
    let version = g.K.Lookup.version c.args.lookup.now in
    let point : Point = c.point_of-point.result in
    let here : x < stretch.until = c.stretch_for-stretch.ensures.some in
    let shape : g.K.Lookup.shape last ≡ s = c.word_at_place-word.ensures.shape ∙ c.stretch_for-stretch.ensures.shape ∙ c.loop-i.invariant.shape in
    let number : g.K.Lookup.version last ≡ version = c.word_at_place-word.ensures.version ∙ c.stretch_for-stretch.ensures.version ∙ c.loop-i.invariant.version in
    let since : g.K.Lookup.version middle ≡ version = c.stretch_for-stretch.ensures.version ∙ c.loop-i.invariant.version in
    let held : IsStretch s version (g.K.Lookup.says last) r x stretch =
    stretch_on s (g.K.Lookup.version middle) version (g.K.Lookup.says middle) (g.K.Lookup.says last) r x x stretch since
    c.word_at_place-word.ensures.said (omega arith) c.stretch_for-stretch.ensures.stretch in
    let F : ℕ → Type 0 = λ p. IsFinestFound s version (g.K.Lookup.says last) p stretch.found in
    let want : stretch.page ≡ covering_page s (span_point r x).level (span_point r x).x (span_point r x).y = sym (held.along x (omega arith) here) in
    let P : Point → Type 0 = λ p. g.K.Lookup.says last (WordNote version stretch.found.slot (covering_place s stretch.found.level p.x p.y) c.word_at_place-word.result) in
    let read : P (span_point r x) =
    subst P c.point_of-point.ensures
    (read_moved s (g.K.Lookup.shape last) version (g.K.Lookup.version last) (g.K.Lookup.says last) point stretch.found.slot stretch.found.level
    c.word_at_place-word.result shape number c.word_at_place-word.ensures.read) in
    let there : IsAnswered s g.row.DEPTH version (g.K.Lookup.says last) (span_point r x) (texel_bytes g.row.DEPTH c.put_word.new.bytes x) = record {
      found = stretch.found;
      word = c.word_at_place-word.result;
      finest = subst F want held.finest;
      read = read;
      shown = c.put_word.ensures.written;
    } in
    record {
      shape = shape;
      version = number;
      said = λ note h. c.word_at_place-word.ensures.said note (c.stretch_for-stretch.ensures.said note (c.loop-i.invariant.said note h));
      kept = c.word_at_place-word.ensures.kept ∙ c.stretch_for-stretch.ensures.kept ∙ c.loop-i.invariant.kept;
      until = omega (arith, here);
      stretch = stretch_on s version (g.K.Lookup.version last) (g.K.Lookup.says last) (g.K.Lookup.says last) r x (x + 1) stretch (sym number)
          (λ note h. h) (omega arith) held;
      answered = spanned_more s g.row.DEPTH version (g.K.Lookup.says c.loop-i.lookup) (g.K.Lookup.says last) r x c.loop-i.out c.put_word.new.bytes
          (λ note h. c.word_at_place-word.ensures.said note (c.stretch_for-stretch.ensures.said note h)) c.put_word.ensures.kept there c.loop-i.invariant.answered;
      listed = wanted_more s r x stretch.page c.loop-i.pages (omega (arith, c.loop-i.auto.pages, c.requires.pages)) want c.loop-i.invariant.listed;
    }

pub put_word-requires-clause-room : goal.put_word-requires-clause-room
put_word-requires-clause-room g c =
    let z : ℕ = texel_length g.row.DEPTH in
    let room : z * (c.loop-i.i + 1) ≤ z * c.args.span.count = mul-le-mul_left z (omega arith) in
    omega (arith, room, c.loop-i.auto.out, c.requires.bytes)

pub returns-clause-answered : goal.returns-clause-answered
returns-clause-answered g c = λ i below.
    subst (λ (n : ℕ). IsAnswered c.args.geometry.now g.row.DEPTH n (g.K.Lookup.says c.loop-i.lookup) (span_point c.args.span i)
    (texel_bytes g.row.DEPTH c.loop-i.out i)) (sym c.loop-i.invariant.version) (c.loop-i.invariant.answered i (omega (arith, below)))

use Rattle.std.proofs.Common.{◌≡◌, ℕ, ◌+◌, ◌*◌, ◌≤◌, length, get_or, subst, sym, ◌∙◌, arith}
use Rattle.std.proofs.Math.Nat.{mul-le-mul_left}
use Rattle.vt_draw.specs.Lookups.{IsFinestFound}
use Rattle.vt_definitions.specs.Depths.{texel_bytes, texel_length}
use Rattle.vt_draw.proofs.DrawnPixels.{finest_moved}
use Rattle.vt_texel_runs.specs.declared.points.Point.{Point}
use Rattle.vt_texel_runs.specs.Points.{IsAnswered}
use Rattle.vt_texel_runs.proofs.Answering.{answered_more, point_there, read_moved}
use Rattle.vt_texel_runs.proofs.points.read_points.Goals as goal

pub loop-i-init : goal.loop-i-init
loop-i-init g c = record {
  shape = c.find-found.ensures.shape ∙ c.requires.shape;
  version = c.find-found.ensures.version;
  said = c.find-found.ensures.said;
  kept = c.find-found.ensures.kept;
  finest = c.find-found.ensures.finest;
  answered = λ i p none. absurd (omega arith);
}

pub loop-i-preserved : goal.loop-i-preserved
loop-i-preserved g c =
    let s = c.args.geometry.now in
    let x = c.loop-i.i in
    let page = c.page_at_place-page.result in
    let found = c.found_for-found.result in
    let middle = c.found_for-found.new.lookup in
    let last = c.word_at_place-word.new.lookup in
    let version = g.K.Lookup.version c.args.lookup.now in
    let none : Point = record { level = 0; x = 0; y = 0 } in
    let point : Point = get_or c.args.points.now x none in
    let shape : g.K.Lookup.shape last ≡ s = c.word_at_place-word.ensures.shape ∙ c.found_for-found.ensures.shape ∙ c.loop-i.invariant.shape in
    let number : g.K.Lookup.version last ≡ version = c.word_at_place-word.ensures.version ∙ c.found_for-found.ensures.version ∙ c.loop-i.invariant.version in
    let finest : IsFinestFound (g.K.Lookup.shape last) (g.K.Lookup.version last) (g.K.Lookup.says last) page found =
    finest_moved (g.K.Lookup.shape middle) (g.K.Lookup.shape last) (g.K.Lookup.version middle)
    (g.K.Lookup.version last) (g.K.Lookup.says middle) (g.K.Lookup.says last) page found
    c.word_at_place-word.ensures.shape c.word_at_place-word.ensures.version c.word_at_place-word.ensures.said c.found_for-found.ensures.finest in
    let F : ℕ → Type 0 = λ p. IsFinestFound s version (g.K.Lookup.says last) p found in
    let here : IsAnswered s g.row.DEPTH version (g.K.Lookup.says last) point (texel_bytes g.row.DEPTH c.put_word.new.bytes x) = record {
      found = found;
      word = c.word_at_place-word.result;
      finest =
          subst F c.page_at_place-page.ensures.page
          (finest_moved (g.K.Lookup.shape last) s (g.K.Lookup.version last) version (g.K.Lookup.says last)
          (g.K.Lookup.says last) page found (sym shape) (sym number) (λ note h. h) finest);
      read =
          read_moved s (g.K.Lookup.shape last) version (g.K.Lookup.version last) (g.K.Lookup.says last) point found.slot found.level
          c.word_at_place-word.result shape number c.word_at_place-word.ensures.read;
      shown = c.put_word.ensures.written;
    } in
    record {
      shape = shape;
      version = number;
      said = λ note h. c.word_at_place-word.ensures.said note (c.found_for-found.ensures.said note (c.loop-i.invariant.said note h));
      kept = c.word_at_place-word.ensures.kept ∙ c.found_for-found.ensures.kept ∙ c.loop-i.invariant.kept;
      finest = finest;
      answered = answered_more s g.row.DEPTH version (g.K.Lookup.says c.loop-i.lookup) (g.K.Lookup.says last) c.args.points.now x c.loop-i.out c.put_word.new.bytes point
          (λ note h. c.word_at_place-word.ensures.said note (c.found_for-found.ensures.said note h)) c.put_word.ensures.kept
          (point_there c.args.points.now x none (omega arith)) here c.loop-i.invariant.answered;
    }

pub put_word-requires-clause-room : goal.put_word-requires-clause-room
put_word-requires-clause-room g c =
    let z : ℕ = texel_length g.row.DEPTH in
    let room : z * (c.loop-i.i + 1) ≤ z * length c.args.points.now = mul-le-mul_left z (omega arith) in
    omega (arith, room, c.loop-i.auto.out, c.requires.bytes)

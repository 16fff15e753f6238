use Rattle.std.proofs.Common.{◌≡◌, ℕ, ◌+◌, ◌*◌, ◌≤◌, length, refl, sym, ap, ◌∙◌, arith, rules}
use Rattle.vt_definitions.specs.Depths.{texel_length}
use Rattle.vt_journal.specs.Kept.{entries_of}
use Rattle.vt_pictures.specs.Scenes.{scene_of}
use Rattle.vt_replay_rows.specs.Trying.{ShowsRow, MayTry, HasTriedRows}
use Rattle.vt_replay_rows.proofs.Trying.{may_front, may_behind, tried_both}
use Rattle.vt_replay_rows.proofs.beside.+fn-try_beside-join_mut+arg2+fn-try_beside-join_mut+arg3+try_beside.Goals as goal

pub join_mut-requires-after_bounds : goal.join_mut-requires-after_bounds
join_mut-requires-after_bounds g t c κs within =
    let shot = c.args.shot.now in
    let line = c.texel_length.result * c.width.result in
    let wide : texel_length shot.depth * shot.path.now.width ≡ line = rw (c.texel_length.ensures.value, c.width.ensures.value) in
    let cut = c.place_behind-cut.result in
    let rows = length c.args.left.now in
    let front = length c.split_at_mut-low_left.result.0.now in
    let back = length c.split_at_mut-low_left.result.1.now in
    let front_bytes = length c.split_at_mut-low.result.0.now in
    let back_bytes = length c.split_at_mut-low.result.1.now in
    let front_is : front ≡ cut = c.split_at_mut-low_left.ensures.front_len in
    let few : cut ≤ rows = c.place_behind-cut.ensures in
    let parts : rows ≡ cut + back = omega (arith, c.split_at_mut-low_left.ensures.back_len, few) in
    let all : length c.args.samples.now ≡ rows * line = c.requires.may.room ∙ ap (λ (w : ℕ). rows * w) wide in
    let product : rows * line ≡ (cut + back) * line = ap (λ (n : ℕ). n * line) parts in
    let front_room : front_bytes ≡ front * (texel_length shot.depth * shot.path.now.width) =
    c.split_at_mut-low.ensures.front_len ∙ ap (λ (n : ℕ). n * line) (sym front_is) ∙ ap (λ (w : ℕ). front * w) (sym wide) in
    let back_is : back_bytes ≡ back * line = omega (arith, c.split_at_mut-low.ensures.back_len, all, product) in
    let back_room : back_bytes ≡ back * (texel_length shot.depth * shot.path.now.width) = back_is ∙ ap (λ (w : ℕ). back * w) (sym wide) in
    let low : MayTry shot c.args.lookup.now c.args.first front front_bytes =
    may_front shot c.args.lookup.now c.args.first rows (length c.args.samples.now) c.requires.may front front_bytes
    (omega (arith, front_is, few)) front_room in
    let high : MayTry shot c.args.lookup.now (c.args.first + cut) back back_bytes =
    may_behind shot c.args.lookup.now c.args.first rows (length c.args.samples.now) c.requires.may (c.args.first + cut) back back_bytes
    (omega (arith, parts)) back_room in
    let some = c.if-threads-lt2.false in
    let some_parts = c.requires.threads in
    let low_parts = c.split_at_mut-low_parts.ensures.front_len in
    let high_parts = c.split_at_mut-low_parts.ensures.back_len in
    search rules

pub returns : goal.returns
returns g t c =
    let low_names = c.join_mut.ensures.0.met.0 in
    let low_left_is = c.low_left-1.given.1.1 (search rules) in
    let low_is = c.low-1.given.1.1 (search rules) in
    let high_names = c.join_mut.ensures.1.met.0 in
    let high_left_is = c.high_left-1.given.1.1 (search rules) in
    let high_is = c.high-1.given.1.1 (search rules) in
    let low : HasTriedRows g.P.Filter.under c.args.shot.now c.args.lookup.now c.args.first c.split_at_mut-low_left.result.0.now
    c.low_left-1.given.0 c.split_at_mut-low.result.0.now c.low-1.given.0 = rw (low_left_is, low_is) c.join_mut.ensures.0.met.1 in
    let high : HasTriedRows g.P.Filter.under c.args.shot.now c.args.lookup.now (c.args.first + c.place_behind-cut.result)
    c.split_at_mut-low_left.result.1.now c.high_left-1.given.0 c.split_at_mut-low.result.1.now c.high-1.given.0 = rw (high_left_is, high_is) c.join_mut.ensures.1.met.1 in
    let same : length c.low_left-1.given.0 ≡ length c.split_at_mut-low_left.result.0.now = search rules in
    let full : length c.low-1.given.0 ≡ length c.split_at_mut-low.result.0.now = search rules in
    let shot = c.args.shot.now in
    let line = c.texel_length.result * c.width.result in
    let wide : texel_length shot.depth * shot.path.now.width ≡ line = rw (c.texel_length.ensures.value, c.width.ensures.value) in
    let cut = c.place_behind-cut.result in
    let bytes : length c.split_at_mut-low.result.0.now ≡ cut * (texel_length shot.depth * shot.path.now.width) =
    c.split_at_mut-low.ensures.front_len ∙ ap (λ (w : ℕ). cut * w) (sym wide) in
    record {
      tried = λ known held. tried_both (texel_length shot.depth * shot.path.now.width) c.args.first (c.args.first + cut) cut
          (ShowsRow g.P.Filter.under (scene_of shot.geometry.now shot.depth shot.path.now) (entries_of c.args.lookup.now.entries) known shot.picture)
          c.split_at_mut-low_left.result.0.now c.split_at_mut-low_left.result.1.now c.low_left-1.given.0 c.high_left-1.given.0
          c.split_at_mut-low.result.0.now c.split_at_mut-low.result.1.now c.low-1.given.0 c.high-1.given.0
          c.split_at_mut-low_left.ensures.front_len bytes same full refl (low known held) (high known held) c.args.left.now c.args.samples.now
          c.split_at_mut-low_left.ensures.value c.split_at_mut-low.ensures.value;
    }

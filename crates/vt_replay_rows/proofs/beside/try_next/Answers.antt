use Rattle.std.proofs.Common.{◌≡◌, ℕ, ◌+◌, ◌-◌, ◌*◌, List, length, ap, ◌∙◌, arith}
use Rattle.vt_definitions.specs.Depths.{texel_length, texel_bytes}
use Rattle.vt_journal.specs.Kept.{entries_of}
use Rattle.vt_pictures.specs.Scenes.{scene_of}
use Rattle.vt_replay_rows.specs.Trying.{ShowsRow}
use Rattle.vt_replay_rows.proofs.Places.{row_room, row_written, row_other}
use Rattle.vt_replay_rows.proofs.Trying.{tried_none, tried_one}
use Rattle.vt_replay_rows.proofs.beside.try_next.Goals as goal

pub returns-then-not-is_expected-clause-tried : goal.returns-then-not-is_expected-clause-tried
returns-then-not-is_expected-clause-tried g c = λ known tiles. tried_none _ _ _ c.args.left.now c.args.samples.now

pub slice_bounds-try_line-end : goal.slice_bounds-try_line-end
slice_bounds-try_line-end g c =
    let all : length c.args.samples.now ≡ length c.args.left.now * (c.texel_length.result * c.width.result) =
    rw (c.texel_length.ensures.value, c.width.ensures.value) c.requires.may.room in
    row_room c.args.k (length c.args.left.now) (c.texel_length.result * c.width.result) (length c.args.samples.now) c.requires.within all

pub returns-clause-tried : goal.returns-clause-tried
returns-clause-tried g c = λ known tiles.
    let shot = c.args.shot.now in
    let line = c.texel_length.result * c.width.result in
    let new = c.try_line-tried.new.out in
    let wide : texel_length shot.depth * shot.path.now.width ≡ line = rw (c.texel_length.ensures.value, c.width.ensures.value) in
    let all : length c.args.samples.now ≡ length c.args.left.now * line = rw (c.texel_length.ensures.value, c.width.ensures.value) c.requires.may.room in
    let full : length new ≡ line = omega arith in
    let count = c.args.k * line + line - c.args.k * line in
    let written = row_written (texel_length shot.depth * shot.path.now.width) line c.args.k count (length c.args.left.now) c.args.samples.now new wide
    c.requires.within all full in
    tried_one (texel_length shot.depth * shot.path.now.width) c.args.first
    (ShowsRow g.P.Filter.under (scene_of shot.geometry.now shot.depth shot.path.now) (entries_of c.args.replay_lookup.now.entries) known shot.picture)
    c.args.k c.args.left.now c.args.samples.now _ c.try_line-tried.result.missed c.requires.within (c.is_expected.ensures c.if-not-is_expected.false)
    (λ none b is store x inside. ap (λ (t : List ℕ). texel_bytes shot.depth t x) written
    ∙ c.try_line-tried.ensures.shown none known tiles b is store x inside)
    (λ z other. row_other (texel_length shot.depth * shot.path.now.width) line c.args.k z count (length c.args.left.now) c.args.samples.now new wide
    c.requires.within all full (omega arith) other)

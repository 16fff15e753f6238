use Rattle.std.proofs.Common.{◌≡◌, ℕ, ◌*◌, ◌-◌, ◌+◌, List, length, ap, ◌∙◌, arith}
use Rattle.vt_definitions.specs.Depths.{texel_length, texel_bytes}
use Rattle.vt_replay_rows.proofs.Places.{row_room, row_written, row_other}
use Rattle.vt_replay_rows.proofs.draw.draw_into.Goals as goal

pub slice_bounds-draw_line-end : goal.slice_bounds-draw_line-end
slice_bounds-draw_line-end g c =
    let all : length c.args.samples.now ≡ c.args.shot.now.path.now.height * (c.texel_length.result * c.width.result) =
    rw (c.texel_length.ensures.value, c.width.ensures.value) c.requires.bytes in
    row_room c.args.y c.args.shot.now.path.now.height (c.texel_length.result * c.width.result) (length c.args.samples.now) c.requires.within all

pub returns-clause-shown : goal.returns-clause-shown
returns-clause-shown g c = λ b known store x inside.
    let shot = c.args.shot.now in
    let line = c.texel_length.result * c.width.result in
    let wide : texel_length shot.depth * shot.path.now.width ≡ line = rw (c.texel_length.ensures.value, c.width.ensures.value) in
    let all : length c.args.samples.now ≡ shot.path.now.height * line = rw (c.texel_length.ensures.value, c.width.ensures.value) c.requires.bytes in
    let full : length c.draw_line.new.out ≡ line = omega arith in
    ap (λ (t : List ℕ). texel_bytes shot.depth t x)
    (row_written (texel_length shot.depth * shot.path.now.width) line c.args.y (c.args.y * line + line - c.args.y * line) shot.path.now.height
    c.args.samples.now c.draw_line.new.out wide c.requires.within all full)
    ∙ c.in_ok-draw_line.ensures.shown b known store x inside

pub returns-clause-others : goal.returns-clause-others
returns-clause-others g c = λ z other.
    let shot = c.args.shot.now in
    let line = c.texel_length.result * c.width.result in
    let wide : texel_length shot.depth * shot.path.now.width ≡ line = rw (c.texel_length.ensures.value, c.width.ensures.value) in
    let all : length c.args.samples.now ≡ shot.path.now.height * line = rw (c.texel_length.ensures.value, c.width.ensures.value) c.requires.bytes in
    let full : length c.draw_line.new.out ≡ line = omega arith in
    row_other (texel_length shot.depth * shot.path.now.width) line c.args.y z (c.args.y * line + line - c.args.y * line) shot.path.now.height
    c.args.samples.now c.draw_line.new.out wide c.requires.within all full (omega arith) other

pub returns-in_err-draw_line-clause-others : goal.returns-in_err-draw_line-clause-others
returns-in_err-draw_line-clause-others g c = λ z other.
    let shot = c.args.shot.now in
    let line = c.texel_length.result * c.width.result in
    let wide : texel_length shot.depth * shot.path.now.width ≡ line = rw (c.texel_length.ensures.value, c.width.ensures.value) in
    let all : length c.args.samples.now ≡ shot.path.now.height * line = rw (c.texel_length.ensures.value, c.width.ensures.value) c.requires.bytes in
    let full : length c.draw_line.new.out ≡ line = omega arith in
    row_other (texel_length shot.depth * shot.path.now.width) line c.args.y z (c.args.y * line + line - c.args.y * line) shot.path.now.height
    c.args.samples.now c.draw_line.new.out wide c.requires.within all full (omega arith) other

pub returns-in_err-draw_line-clause-read : goal.returns-in_err-draw_line-clause-read
returns-in_err-draw_line-clause-read g c = c.draw_line.ensures.read

pub returns-in_err-draw_line-clause-counted : goal.returns-in_err-draw_line-clause-counted
returns-in_err-draw_line-clause-counted g c = c.draw_line.ensures.counted

pub returns-clause-read : goal.returns-clause-read
returns-clause-read g c = c.draw_line.ensures.read

pub returns-clause-counted : goal.returns-clause-counted
returns-clause-counted g c = c.draw_line.ensures.counted

pub returns-clause-ready : goal.returns-clause-ready
returns-clause-ready g c = c.in_ok-draw_line.ensures.ready

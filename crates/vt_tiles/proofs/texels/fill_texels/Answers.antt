use Rattle.std.proofs.Common.{◌+◌, ◌*◌, ◌≤◌, length, arith}
use Rattle.vt_tiles.proofs.Lines.{has_room, next_filled, room_for}
use Rattle.vt_tiles.proofs.texels.fill_texels.Goals as goal

pub loop-x-preserved : goal.loop-x-preserved
loop-x-preserved c =
    let room : length c.args.texel.now * c.loop-x.x + length c.args.texel.now ≤ length c.args.out.now =
    room_for (length c.args.texel.now) c.loop-x.x (length c.args.out.now) c.requires c.loop-x-test.true in
    next_filled c.args.texel.now c.loop-x.out c.copy_from_slice.new.self c.loop-x.x _ (omega arith) (omega (arith, room))
    c.copy_from_slice.ensures.after (omega (arith, room)) c.loop-x.invariant

pub slice_bounds-copy_from_slice-end : goal.slice_bounds-copy_from_slice-end
slice_bounds-copy_from_slice-end c =
    let room : length c.args.texel.now * c.loop-x.x + length c.args.texel.now ≤ length c.args.out.now =
    room_for (length c.args.texel.now) c.loop-x.x (length c.args.out.now) c.requires c.loop-x-test.true in
    omega (arith, room)

pub returns : goal.returns
returns c = record {
  each = λ x k h room.
      let below = has_room (length c.args.texel.now) x (length c.args.out.now) c.requires (omega (arith, room)) in
      c.loop-x.invariant x k (omega (arith, below)) h;
}

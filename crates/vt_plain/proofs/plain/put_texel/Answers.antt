use Rattle.std.proofs.Common.{◌+◌, ◌-◌, ◌*◌, refl, arith}
use Rattle.vt_plain.proofs.Drawn.{copied}
use Rattle.vt_plain.proofs.plain.put_texel.Goals as goal

pub returns : goal.returns
returns g c =
    let size = c.texel_length-size.result in
    copied g.row.DEPTH c.args.texels.now c.args.out.now c.copy_from_slice.new.self size c.args.texel c.args.x (size * c.args.texel)
    (size * c.args.x) (size * c.args.texel + size - size * c.args.texel) (size * c.args.x + size - size * c.args.x)
    c.texel_length-size.ensures.value refl refl (omega arith) c.requires.from c.requires.to c.copy_from_slice.ensures.after

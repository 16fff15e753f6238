use Rattle.std.proofs.Common.{refl, arith}
use Rattle.vt_tiles.proofs.Lines.{span_put}
use Rattle.vt_tiles.proofs.texels.put_span.Goals as goal

pub returns : goal.returns
returns c = λ columns first count full begins room.
    span_put c.args.size c.args.row.now c.args.out.now c.copy_from_slice.new.self c.fill_texels.new.out _ c.args.at
    c.min-inside.result _ _ _ columns first count c.requires.some c.requires.inside full begins room c.min-inside.ensures
    c.copy_from_slice.ensures.after
    refl refl c.fill_texels.auto.out refl (omega arith) c.fill_texels.ensures

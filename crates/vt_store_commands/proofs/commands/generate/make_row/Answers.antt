use Rattle.vt_store_commands.proofs.Making.{row_none, texel_put}
use Rattle.vt_store_commands.proofs.commands.generate.make_row.Goals as goal

pub loop-x-init : goal.loop-x-init
loop-x-init c = row_none c.args.number c.args.y

pub loop-x-preserved : goal.loop-x-preserved
loop-x-preserved c = texel_put c.args.number c.args.y c.loop-x.x c.loop-x.row c.put_texel.new.row c.loop-x.invariant c.put_texel.ensures

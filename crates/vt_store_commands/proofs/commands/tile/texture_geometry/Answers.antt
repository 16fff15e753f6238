use Rattle.vt_store_commands.proofs.Tiling.{too_many}
use Rattle.vt_store_commands.proofs.commands.tile.texture_geometry.Goals as goal

pub returns-in-Err-clause-many : goal.returns-in-Err-clause-many
returns-in-Err-clause-many c =
    too_many c.args.header.now c.args.tile c.args.name c.flaw_of_pages.result c.in-Err.error c.requires.header c.requires.side
    c.in-Err.ensures.err c.flaw_of_pages.ensures

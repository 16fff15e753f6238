use Rattle.std.proofs.Common.{◌∙◌, sym}
use Rattle.vt_pages.proofs.Shifts.{shift_of}
use Rattle.vt_pages.proofs.tables.tile_shift.Goals as goal

pub returns-then-is_tile_side : goal.returns-then-is_tile_side
returns-then-is_tile_side c = shift_of c.args.tile (sym c.is_tile_side.ensures ∙ c.if-is_tile_side.true)

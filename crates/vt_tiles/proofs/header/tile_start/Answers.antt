use Rattle.std.proofs.Common.{ℕ, ◌+◌, ◌*◌, ap}
use Rattle.vt_tiles.proofs.header.tile_start.Goals as goal

pub returns : goal.returns
returns c = ap (λ (n : ℕ). 16 + c.args.page * n) c.tile_length.ensures.value

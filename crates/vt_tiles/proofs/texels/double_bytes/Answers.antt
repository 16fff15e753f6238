use Rattle.std.proofs.Common.{rules}
use Rattle.vt_tiles.proofs.texels.double_bytes.Goals as goal

pub loop-i-preserved : goal.loop-i-preserved
loop-i-preserved c = search rules

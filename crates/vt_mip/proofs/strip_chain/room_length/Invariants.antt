use Rattle.std.proofs.Common.{◌≡◌, ◌*◌, ◌≤◌}
use Rattle.vt_mip.specs.StripChains.{room_length}
use Rattle.vt_mip.proofs.strip_chain.room_length.Given as goal

abbrev pub invariant-loop-finer : goal.invariant-loop-finer
invariant-loop-finer g l = record { value : l.room ≡ room_length l.reader.header l.finer; few : l.room ≤ 196608 * l.finer }

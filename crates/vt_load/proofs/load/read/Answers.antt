use Rattle.std.proofs.Common.{refl}
use Rattle.vt_load.proofs.load.read.Goals as goal

pub read_tile-outcome-requires-clause-spare : goal.read_tile-outcome-requires-clause-spare
read_tile-outcome-requires-clause-spare g c = c.requires.spare

pub returns-clause-reading : goal.returns-clause-reading
returns-clause-reading g c = let e = c.read_tile-outcome.ensures in record {
  ticket = refl;
  page = refl;
  size = e.size;
  tile = e.tile;
  lost = e.lost;
  asked = e.asked;
  faults = e.faults;
  bytes = e.bytes;
  name = e.name;
  room = e.room;
}

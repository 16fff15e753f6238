use Rattle.std.proofs.Common.{refl}
use Rattle.std.specs.Prelude.{is_err}
use Rattle.vt_outside.proofs.UnknownContents.{OnErr-all}
use Rattle.vt_walk.proofs.Placed.{still_known}
use Rattle.vt_walk.proofs.pinned.place_page.Goals as goal

pub returns-in_err-read_tile-clause-spare : goal.returns-in_err-read_tile-clause-spare
returns-in_err-read_tile-clause-spare g c = c.read_tile.ensures.spare

pub returns-in_err-place-clause-spare : goal.returns-in_err-place-clause-spare
returns-in_err-place-clause-spare g c = c.read_tile.ensures.spare

pub returns-clause-spare : goal.returns-clause-spare
returns-clause-spare g c = c.read_tile.ensures.spare

pub returns-in_err-read_tile-clause-idle : goal.returns-in_err-read_tile-clause-idle
returns-in_err-read_tile-clause-idle g c = c.requires.idle

pub returns-in_err-place-clause-idle : goal.returns-in_err-place-clause-idle
returns-in_err-place-clause-idle g c = c.place.ensures.idle

pub returns-clause-idle : goal.returns-clause-idle
returns-clause-idle g c = c.place.ensures.idle

pub returns-clause-placed : goal.returns-clause-placed
returns-clause-placed g c = c.in_ok-place.ensures.placed

pub returns-in_err-read_tile-clause-refused : goal.returns-in_err-read_tile-clause-refused
returns-in_err-read_tile-clause-refused g c = OnErr-all c.from_residual.result _ refl

pub returns-in_err-place-clause-refused : goal.returns-in_err-place-clause-refused
returns-in_err-place-clause-refused g c = OnErr-all c.from_residual-in_err-place.result _ c.in_err-place.ensures.refused

pub returns-in_err-read_tile-clause-part : goal.returns-in_err-read_tile-clause-part
returns-in_err-read_tile-clause-part g c = OnErr-all c.from_residual.result _ (is_err c.read_tile.result, c.read_tile.ensures.asked)

pub returns-in_err-place-clause-part : goal.returns-in_err-place-clause-part
returns-in_err-place-clause-part g c = OnErr-all c.from_residual-in_err-place.result _ (is_err c.read_tile.result, c.read_tile.ensures.asked)

pub returns-in_err-read_tile-clause-kept : goal.returns-in_err-read_tile-clause-kept
returns-in_err-read_tile-clause-kept g c = record {
  same = record { name = c.read_tile.ensures.name; all_known = still_known _ _ _ c.read_tile.ensures.asked };
  bytes = c.read_tile.ensures.bytes;
  shape = c.read_tile.ensures.shape;
  depth = c.read_tile.ensures.depth;
  faults = c.read_tile.ensures.faults;
}

pub returns-in_err-place-clause-kept : goal.returns-in_err-place-clause-kept
returns-in_err-place-clause-kept g c = record {
  same = record { name = c.read_tile.ensures.name; all_known = still_known _ _ _ c.read_tile.ensures.asked };
  bytes = c.read_tile.ensures.bytes;
  shape = c.read_tile.ensures.shape;
  depth = c.read_tile.ensures.depth;
  faults = c.read_tile.ensures.faults;
}

pub returns-clause-kept : goal.returns-clause-kept
returns-clause-kept g c = record {
  same = record { name = c.read_tile.ensures.name; all_known = still_known _ _ _ c.read_tile.ensures.asked };
  bytes = c.read_tile.ensures.bytes;
  shape = c.read_tile.ensures.shape;
  depth = c.read_tile.ensures.depth;
  faults = c.read_tile.ensures.faults;
}

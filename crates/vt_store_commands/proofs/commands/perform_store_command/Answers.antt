use Rattle.vt_outside.specs.Effects.{sink_state}
use Rattle.vt_store_commands.proofs.commands.perform_store_command.Goals as goal

pub returns-in-Plain : goal.returns-in-Plain
returns-in-Plain g c = rw c.in-Plain.is c.plain.ensures

pub returns-in-Tile : goal.returns-in-Tile
returns-in-Tile g c = rw c.in-Tile.is c.tile.ensures

pub returns-in-Info : goal.returns-in-Info
returns-in-Info g c = rw c.in-Info.is c.info.ensures

pub returns-in-Gen : goal.returns-in-Gen
returns-in-Gen g c = rw c.in-Gen.is (c.generate.ensures (sink_state g.O.Sink c.args.out.now))

pub returns-in-Upgrade : goal.returns-in-Upgrade
returns-in-Upgrade g c = rw c.in-Upgrade.is c.upgrade.ensures

use Rattle.std.proofs.Common.{rules}
use Rattle.std.specs.Prelude.{is_err}
use Rattle.vt_replay_rows.proofs.Reading.{read_after}
use Rattle.vt_replay_rows.proofs.tiles.read_page.Goals as goal

pub returns-in_err-read_tile-clause-read : goal.returns-in_err-read_tile-clause-read
returns-in_err-read_tile-clause-read g c =
    let room = c.reserve.ensures in
    let read = c.read_tile.ensures in
    read_after g.F.File c.args.store.now c.reserve.new.self c.read_tile.new.self c.args.page (is_err c.read_tile.result) room.shape room.depth room.bytes
    room.asked room.name room.faults c.requires.page read.asked read.shape read.depth read.bytes read.name read.faults

pub returns-clause-read : goal.returns-clause-read
returns-clause-read g c =
    let room = c.reserve.ensures in
    let read = c.read_tile.ensures in
    read_after g.F.File c.args.store.now c.reserve.new.self c.read_tile.new.self c.args.page (is_err c.read_tile.result) room.shape room.depth room.bytes
    room.asked room.name room.faults c.requires.page read.asked read.shape read.depth read.bytes read.name read.faults

pub returns-clause-failed : goal.returns-clause-failed
returns-clause-failed g c = search rules

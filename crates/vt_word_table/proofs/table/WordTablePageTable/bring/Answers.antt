use Rattle.std.proofs.Common.{◌≤◌, arith}
use Rattle.vt_word_table.proofs.Filling.{group_filled, made_taken}
use Rattle.vt_word_table.proofs.table.WordTablePageTable.bring.Goals as goal

pub returns-clause-filled : goal.returns-clause-filled
returns-clause-filled g c page words is =
    let v = c.args.streamer.now in let e = c.args.planned.now in
    let some : 1 ≤ v.shape.tile = (let a = c.requires.of.lawful.limits.least_tile in omega (arith, a)) in
    group_filled v.shape c.args._depth e.page c.args.tile.now some c.requires.full e.victim e.frame v.writer c.put_entry.new.streamer.writer
    c.requires.of.sound.contents c.put_entry.ensures.made page words is

pub returns-clause-later : goal.returns-clause-later
returns-clause-later g c = made_taken c.args.streamer.now.writer c.put_entry.new.streamer.writer c.put_entry.ensures.made.rest

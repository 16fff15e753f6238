use Rattle.std.proofs.Common.{◌≤◌, arith}
use Rattle.vt_word_table.proofs.Filling.{one_filled, made_taken}
use Rattle.vt_word_table.proofs.table.WordTablePageTable.place.Goals as goal

pub returns-clause-filled : goal.returns-clause-filled
returns-clause-filled g c page words is =
    let v = c.args.streamer.now in let made = c.map_page.ensures.made in
    let some : 1 ≤ v.shape.tile = (let a = c.requires.of.lawful.limits.least_tile in omega (arith, a)) in
    one_filled v.shape c.args._depth c.args.page c.args.tile.now some c.requires.full c.args.frame v.writer c.map_page.new.streamer.writer
    c.requires.of.sound.contents made.journal made.contents page words is

pub returns-clause-later : goal.returns-clause-later
returns-clause-later g c = made_taken c.args.streamer.now.writer c.map_page.new.streamer.writer c.map_page.ensures.made.rest

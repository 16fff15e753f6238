use Rattle.std.proofs.Common.{◌≤◌, Some, arith}
use Rattle.vt_word_notes.proofs.Replayed.{notes_true}
use Rattle.vt_word_table.proofs.Filling.{stored_contents}
use Rattle.vt_word_table.proofs.table.WordTablePageTable.is_sound.Goals as goal

pub returns-clause-sound : goal.returns-clause-sound
returns-clause-sound c sure s d b version limits store are =
    let w = c.args._streamer.now.writer in
    let some : 1 ≤ s.tile = (let a = limits.least_tile in omega (arith, a)) in
    notes_true w s d b c.requires.sound limits store (stored_contents s d (Some b) w.journal w.contents some are) version

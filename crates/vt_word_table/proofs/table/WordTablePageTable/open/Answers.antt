use Rattle.std.proofs.Common.{ap}
use Rattle.vt_word_notes.specs.Views.{StreamerView}
use Rattle.vt_word_table.proofs.Homes.{given_taken}
use Rattle.vt_word_table.proofs.table.WordTablePageTable.open.Goals as goal

pub returns-clause-later : goal.returns-clause-later
returns-clause-later c = given_taken c.args.streamer.now.writer c.give_pass.new.self.writer c.args.number
    (ap (λ (x : StreamerView). x.writer) c.give_pass.ensures.given)

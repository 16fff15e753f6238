use Rattle.std.proofs.Common.{◌≡◌, ◌*◌, ◌+◌, ◌-◌, length, refl, arith}
use Rattle.vt_replay_rows.proofs.Places.{row_other}
use Rattle.vt_replay_rows.proofs.tiles.read_slot.Goals as goal

pub returns-clause-others : goal.returns-clause-others
returns-clause-others g c = λ z other.
    let size = c.args.size in
    let slot = c.args.slot in
    let full : length c.read_page.new.tile ≡ size = omega arith in
    row_other size size slot z (slot * size + size - slot * size) c.args.slots c.args.bytes.now c.read_page.new.tile refl c.requires.slot
    c.requires.bytes full (omega arith) other

pub returns-clause-read : goal.returns-clause-read
returns-clause-read g c = c.read_page.ensures.read

pub returns-clause-failed : goal.returns-clause-failed
returns-clause-failed g c = c.read_page.ensures.failed

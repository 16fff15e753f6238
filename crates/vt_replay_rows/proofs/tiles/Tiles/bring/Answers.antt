use Rattle.std.proofs.Common.{◌≡◌, ℕ, ◌++◌, List, Some, length, take, drop, ap, ◌∙◌, arith}
use Rattle.vt_journal.specs.Changes.{with_entry}
use Rattle.vt_journal.specs.Kept.{entries_of}
use Rattle.vt_replay_rows.specs.ReplayLookups.{bytes_row}
use Rattle.vt_replay_rows.proofs.Tiling.{tiles_more}
use Rattle.vt_replay_rows.proofs.Places.{written_back}
use Rattle.vt_replay_rows.proofs.Reading.{read_none}
use Rattle.vt_replay_rows.proofs.tiles.Tiles.bring.Goals as goal

pub returns-clause-tiles : goal.returns-clause-tiles
returns-clause-tiles g c =
    let t = c.args.self.now in
    let slots : take t.slots.len (c.put_entry-2.new.numbers ++ drop (length c.put_entry-2.new.numbers) t.slots.items) ≡ c.put_entry-2.new.numbers =
    written_back t.slots.len c.put_entry-2.new.numbers t.slots.items (omega arith) (omega arith) in
    let owners : take t.owners.len (c.put_entry.new.numbers ++ drop (length c.put_entry.new.numbers) t.owners.items) ≡ c.put_entry.new.numbers =
    written_back t.owners.len c.put_entry.new.numbers t.owners.items (omega arith) (omega arith) in
    let bytes : take t.bytes.len (c.read_slot.new.bytes ++ drop (length c.read_slot.new.bytes) t.bytes.items) ≡ c.read_slot.new.bytes =
    written_back t.bytes.len c.read_slot.new.bytes t.bytes.items (omega arith) (omega arith) in
    let slots_length : length c.put_entry-2.new.numbers ≡ length t.slots.items = omega arith in
    let owners_length : length c.put_entry.new.numbers ≡ length t.owners.items = omega arith in
    let bytes_length : length c.read_slot.new.bytes ≡ length t.bytes.items = omega arith in
    rw (slots, owners, bytes)
    (tiles_more c.args.store.now.shape c.args.store.now.depth t.size c.in_ok-slot.slot c.args.page t.slots.items t.owners.items t.bytes.items
    c.put_entry-2.new.numbers c.put_entry.new.numbers c.read_slot.new.bytes (g.F.File.bytes c.args.store.now.file) c.requires.tiles
    slots_length owners_length bytes_length
    (c.put_entry.ensures ∙ ap (λ (l : List ℕ). with_entry (entries_of l) c.in_ok-slot.slot (Some c.args.page)) c.as_mut_slice.ensures.value)
    (λ z other. c.read_slot.ensures.others z other ∙ ap (λ (l : List ℕ). bytes_row t.size l z) c.as_mut_slice-bytes.ensures.value)
    c.in_ok-read_slot.ensures.tile)

pub returns-in_err-read_slot-clause-read : goal.returns-in_err-read_slot-clause-read
returns-in_err-read_slot-clause-read g c = c.read_slot.ensures.read

pub returns-clause-read : goal.returns-clause-read
returns-clause-read g c = c.read_slot.ensures.read

pub returns-in_err-slot-clause-read : goal.returns-in_err-slot-clause-read
returns-in_err-slot-clause-read g c = read_none g.F.File c.args.store.now

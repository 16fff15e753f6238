-- What is true of a still table.
use Rattle.std.proofs.Common.{◌≡◌, ℕ, ◌+◌, Option, Some, None, List, length, refl, sym, ap, ◌∙◌, arith}
use Rattle.vt_lookup.specs.Lookups.{Note, EntryNote, WordNote}
use Rattle.vt_table.specs.Changes.{newest}
use Rattle.vt_definitions.specs.Depths.{word_at}
use Rattle.vt_table.specs.Views.{TableView, word_in, tile_word}
use Rattle.vt_table.proofs.TileWords.{word_is}
use Rattle.vt_sampler.specs.Notes.{entry_number, IsTrueOf, IsFound}

pub entry_some : (o : Option ℕ) (frame : ℕ) → frame + 1 ≡ entry_number o → o ≡ Some frame
entry_some None frame e = absurd (omega arith)
entry_some (Some f) frame e = let same : f ≡ frame = omega arith in ap Some same

-- a mapped page has the same frame in a table with the same number
mapped_alike : (o q : Option ℕ) (frame : ℕ) → entry_number o ≡ entry_number q → q ≡ Some frame → o ≡ Some frame
mapped_alike o q frame same mapped = entry_some o frame (let e : entry_number q ≡ frame + 1 = ap entry_number mapped in omega arith)

-- where all that is true of one table is true of another, nothing else is true of the other: each page has one entry, and each place one word
pub true_back : (u v : TableView) → ((note : Note) → IsTrueOf u note → IsTrueOf v note) → (note : Note) → IsTrueOf v note
    → IsTrueOf u note
true_back u v on (EntryNote version page entry) h =
    let here = on (EntryNote (length u.changes) page (entry_number (newest u.changes page))) (refl, refl) in
    (h.0 ∙ sym here.0, h.1 ∙ sym here.1)
true_back u v on (WordNote version frame place word) h =
    let here = on (EntryNote (length u.changes) h.1.0 (entry_number (newest u.changes h.1.0))) (refl, refl) in
    let mapped : newest u.changes h.1.0 ≡ Some frame = mapped_alike (newest u.changes h.1.0) (newest v.changes h.1.0) frame here.1 h.1.1 in
    let read = on (WordNote (length u.changes) frame place (word_in u frame place)) (refl, (h.1.0, mapped), refl) in
    (h.0 ∙ sym here.0, (h.1.0, mapped), h.2 ∙ sym read.2)

-- a word of the tile that was found is the table's
pub found_word : (v : TableView) (frame depth place : ℕ) (tile : List ℕ) → IsFound v frame depth tile → word_at depth tile place ≡ word_in v frame place
found_word v frame depth place tile h =
    sym (word_is v.shape depth tile place h.side h.full) ∙ ap (λ (t : List ℕ). tile_word v.shape t place) h.is

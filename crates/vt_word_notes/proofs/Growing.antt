-- Contents of a journal and of the changes that were added to it.
use Rattle.std.proofs.Common.{◌≡◌, ℕ, zero, suc, List, [], ◌∷◌, ◌++◌, length, Option, arith}
use Rattle.vt_tiles.specs.Shape.{Shape}
use Rattle.vt_journal.specs.declared.changes.Change.{Change}
use Rattle.vt_word_notes.specs.Stored.{AreStored}

pub stored_grow : (s : Shape) (d : ℕ) (known : Option (List ℕ)) (journal added : List Change) (contents more : List (List ℕ)) → length contents ≡ length journal
    → AreStored s d known journal contents → AreStored s d known added more → AreStored s d known (journal ++ added) (contents ++ more)
stored_grow s d known [] added [] more long old new k page frame is = new k page frame is
stored_grow s d known [] added (c ∷ contents) more long old new k page frame is = absurd (omega (arith, long))
stored_grow s d known (j ∷ journal) added [] more long old new k page frame is = absurd (omega (arith, long))
stored_grow s d known (j ∷ journal) added (c ∷ contents) more long old new zero page frame is = old zero page frame is
stored_grow s d known (j ∷ journal) added (c ∷ contents) more long old new (suc k) page frame is =
    stored_grow s d known journal added contents more (omega (arith, long)) (λ i p f at. old (suc i) p f at) new k page frame is

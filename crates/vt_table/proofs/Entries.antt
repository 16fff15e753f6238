-- An entry that is written in a list of numbers.
use Rattle.std.proofs.Common.{◌≡◌, ℕ, suc, ◌+◌, ◌<◌, Bool, true, false, cond, ◌==◌, List, length, get_or, set, slice_index, Option, Some, refl, ap, ◌∙◌, arith}
use Rattle.std.proofs.lemmas.List.{get_or-set_same, get_or-set_other}
use borrow.Author.Tests.{eqb-true, eqb-false}
use Rattle.vt_journal.specs.Changes.{with_entry}
use Rattle.vt_journal.specs.Kept.{entry_of, entries_of}

written_at : (xs : List ℕ) (k v p : ℕ) (o : Option ℕ) (b : Bool) → k < length xs → entry_of v ≡ o → (p == k) ≡ b
    → entry_of (slice_index (set xs k v) p) ≡ cond b o (entry_of (slice_index xs p))
written_at xs k v p o true inside is e =
    ap entry_of (ap (λ q. get_or (set xs k v) q 0) (eqb-true p k e) ∙ get_or-set_same xs k v 0 inside) ∙ is
written_at xs k v p o false inside is e = ap entry_of (get_or-set_other xs k p v 0 (eqb-false p k e))

-- The number of an entry was written.
pub entry_written : (xs : List ℕ) (k v : ℕ) (o : Option ℕ) → k < length xs → entry_of v ≡ o
    → entries_of (set xs k v) ≡ with_entry (entries_of xs) k o
entry_written xs k v o inside is = λ i p. written_at xs k v p o (p == k) inside is refl i

pub number_of : (n : ℕ) → entry_of (n + 1) ≡ Some n
number_of n = ap entry_of (let e : n + 1 ≡ suc n = omega arith in e)

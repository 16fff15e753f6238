-- The exchange that adds a record keeps the rule of the log.
use Rattle.std.proofs.Common.{◌≡◌, ℕ, ◌+◌, ◌<◌, ◌==◌, Bool, true, false, List, [], ◌∷◌, ◌++◌, length, refl, ap, sym, subst, arith, inl, length-append, None}
use Rattle.std.proofs.lemmas.List.{append-nil}
use Rattle.std.proofs.lemmas.Bool.Decides.{nat_tests}
use mathlib.Core.List.{IsPrefix}
use prog.Atomic.{either}
use Rattle.logbook.specs.Pages.{Cell, cell, keeps, no_nib, step, Moves, Goes}
use Rattle.vt_swap_log.specs.declared.records.LogRecord.{LogRecord}
use Rattle.vt_swap_log.specs.Logs.{MayFollow, IsLawfulLog, IsLogKept, AddsRecord}
use Rattle.vt_swap_log.proofs.Prefixes.{prefix_whole}
use Rattle.vt_swap_log.proofs.Lawful.{lawful_more}

abbrev pub shows_nothing : List LogRecord → List LogRecord
shows_nothing log = []

abbrev pub moves_anyhow : List LogRecord → List LogRecord → ℕ → Type 0
moves_anyhow xs ys n = Unit {0}

adds_goes : (log v : List LogRecord) (e : LogRecord) (old : ℕ) → length v ≡ old → MayFollow v e → IsLawfulLog log → IsPrefix v log
    → (b : Bool) → (length log == old) ≡ b
    → Goes IsLogKept shows_nothing moves_anyhow 0 (v, (no_nib, None)) (λ n. either (n == old) (old + 1) n) (AddsRecord (step 0 old (old + 1) e) (v, (no_nib, None))) ((length log, true) ∷ (0, true) ∷ []) log
adds_goes log v e old len may lawful pre true is =
    let here : length log ≡ old = grind (arith, nat_tests) in
    let same : v ≡ log = prefix_whole v log pre (omega arith) in
    let next : IsLawfulLog (log ++ e ∷ []) = lawful_more log e lawful (subst (λ (l : List LogRecord). MayFollow l e) same may) in
    let n : either (length log == old) (old + 1) (length log) ≡ length (log ++ e ∷ []) = rw is (omega (arith, length-append log (e ∷ []))) in (
      keeps,
      e ∷ [],
      None,
      tt,
      record { words = ap (λ (k : ℕ). (k, true) ∷ (0, true) ∷ []) n; lawful = next },
      inl (refl, refl),
      rw is (ap (λ w. w ++ e ∷ []) (sym same)),
    )
adds_goes log v e old len may lawful pre false is =
    let all : log ++ [] ≡ log = append-nil log in
    let still : IsLawfulLog (log ++ []) = subst (λ (l : List LogRecord). IsLawfulLog l) (sym all) lawful in
    let n : either (length log == old) (old + 1) (length log) ≡ length (log ++ []) = rw is (ap length (sym all)) in (
      keeps,
      [],
      None,
      tt,
      record { words = ap (λ (k : ℕ). (k, true) ∷ (0, true) ∷ []) n; lawful = still },
      inl (refl, refl),
      rw is (ap length all),
    )

-- whatever the book is, the exchange adds the record to all that was seen, or finds that the log is longer
pub adds_moves : (v : List LogRecord) (e : LogRecord) (old : ℕ) → length v ≡ old → MayFollow v e
    → Moves IsLogKept shows_nothing moves_anyhow 0 (v, (no_nib, None)) (λ n. either (n == old) (old + 1) n) (AddsRecord (step 0 old (old + 1) e) (v, (no_nib, None)))
adds_moves v e old len may cs log kept pre away =
    let P : List Cell → Type 0 = λ c. (0 < length c) × ((cell c 0).1 ≡ true) × Goes IsLogKept shows_nothing moves_anyhow 0 (v, (no_nib, None)) (λ n. either (n == old) (old + 1) n) (AddsRecord (step 0 old (old + 1) e) (v, (no_nib, None))) c log in
    subst P (sym kept.words) (omega arith, refl, adds_goes log v e old len may kept.lawful pre (length log == old) refl)

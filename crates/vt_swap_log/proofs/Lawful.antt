-- A log that grows by a record that may follow is lawful.
use Rattle.std.proofs.Common.{◌≡◌, ℕ, ◌<◌, inl, inr, List, [], ◌∷◌, ◌++◌, length, Some, slice_get, refl, sym, ap, ◌∙◌, subst, arith}
use Rattle.std.specs.Prelude.{take}
use Rattle.std.proofs.lemmas.List.{append-nil, take_at, take-append-le}
use Rattle.std.proofs.lemmas.Option.{slice_get_within}
use mathlib.Core.List.{IsPrefix}
use Rattle.vt_journal.specs.declared.changes.Change.{Change}
use Rattle.vt_journal.specs.declared.changes.Change.TheVariants.{Map, Unmap}
use Rattle.vt_journal.specs.Changes.{Table, at, IsNext, AreInTurn}
use Rattle.vt_journal.proofs.Versions.{slice_get-push, slice_get-seam, in_turn-none, in_turn-more, at-front}
use Rattle.vt_swap_log.specs.declared.records.LogRecord.{LogRecord}
use Rattle.vt_swap_log.specs.declared.records.LogRecord.TheVariants.{Changed, Filled}
use Rattle.vt_swap_log.specs.Logs.{changes_in, MayFollow, IsLawfulLog}
use Rattle.vt_swap_log.proofs.Prefixes.{prefix_get}

pub changes-append : (rs ss : List LogRecord) → changes_in (rs ++ ss) ≡ changes_in rs ++ changes_in ss
changes-append [] ss = refl
changes-append (Changed c ∷ rs) ss = ap (λ (cs : List Change). c ∷ cs) (changes-append rs ss)
changes-append (Filled frame page words ∷ rs) ss = changes-append rs ss

-- a filled frame is no change
pub changes-filled : (rs : List LogRecord) (frame page : ℕ) (words : List ℕ) → changes_in (rs ++ Filled frame page words ∷ []) ≡ changes_in rs
changes-filled rs frame page words = changes-append rs (Filled frame page words ∷ []) ∙ append-nil (changes_in rs)

pub lawful_none : IsLawfulLog []
lawful_none = record { steps = λ n r is. cc; in_turn = in_turn-none }

in_turn_more : (log : List LogRecord) (r : LogRecord) → MayFollow log r → AreInTurn (changes_in log) → AreInTurn (changes_in (log ++ r ∷ []))
in_turn_more log (Changed (Map page frame)) may all =
    subst (λ (js : List Change). AreInTurn js) (sym (changes-append log (Changed (Map page frame) ∷ [])))
    (in_turn-more (changes_in log) (Map page frame) all may.0)
in_turn_more log (Changed (Unmap page frame)) may all =
    subst (λ (js : List Change). AreInTurn js) (sym (changes-append log (Changed (Unmap page frame) ∷ [])))
    (in_turn-more (changes_in log) (Unmap page frame) all may)
in_turn_more log (Filled frame page words) may all =
    subst (λ (js : List Change). AreInTurn js) (sym (changes-filled log frame page words)) all

pub lawful_more : (log : List LogRecord) (r : LogRecord) → IsLawfulLog log → MayFollow log r → IsLawfulLog (log ++ r ∷ [])
lawful_more log r lawful may = record {
  steps = λ n s is.
      elim (slice_get-push log r n s is) [
        | inl (low, before) ↦
            subst (λ (l : List LogRecord). MayFollow l s) (sym (take-append-le n log (r ∷ []) (omega (arith, low)))) (lawful.steps n s before)
        | inr (last, same) ↦
            let whole : take n (log ++ r ∷ []) ≡ log =
            ap (λ (k : ℕ). take k (log ++ r ∷ [])) last ∙ take_at log (r ∷ []) (length log) refl in
            subst (λ (l : List LogRecord). MayFollow l s) (sym whole) (subst (MayFollow log) same may)
      ];
  in_turn = in_turn_more log r may lawful.in_turn;
}

-- the record that was added is the last of the log
pub last_record : (old new : List LogRecord) (r : LogRecord) (n : ℕ) → n ≡ length old → new ≡ old ++ r ∷ [] → slice_get new n ≡ Some r
last_record old new r n count is = ap (λ (k : ℕ). slice_get new k) count ∙ (ap (λ (l : List LogRecord). slice_get l (length old)) is ∙ slice_get-seam old r [])

-- the changes of a beginning of a log begin its changes
pub changes_prefix : (rs ss : List LogRecord) → IsPrefix rs ss → IsPrefix (changes_in rs) (changes_in ss)
changes_prefix rs ss p = (changes_in p.0, sym (changes-append rs p.0) ∙ ap changes_in p.1)

-- a beginning of a lawful log is lawful
pub lawful_front : (rs ss : List LogRecord) → IsPrefix rs ss → IsLawfulLog ss → IsLawfulLog rs
lawful_front rs ss pre lawful =
    let js = changes_prefix rs ss pre in record {
      steps = λ n r is.
          let low : n < length rs = slice_get_within rs n r is in
          let same : take n ss ≡ take n rs = ap (λ (l : List LogRecord). take n l) (sym pre.1) ∙ take-append-le n rs pre.0 (omega (arith, low)) in
          subst (λ (l : List LogRecord). MayFollow l r) same (lawful.steps n r (prefix_get rs ss n r pre is));
      in_turn = λ v c is.
          let low : v < length (changes_in rs) = slice_get_within (changes_in rs) v c is in
          subst (λ (m : Table). IsNext m c) (ap (λ (l : List Change). at l v) (sym js.1) ∙ at-front (changes_in rs) js.0 v (omega (arith, low)))
          (lawful.in_turn v c (prefix_get (changes_in rs) (changes_in ss) v c js is));
    }
